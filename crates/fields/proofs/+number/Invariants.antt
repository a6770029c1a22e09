-- `number`: n / 10 is less than n. Assumes nothing.
use Rattle.fields.proofs.+number.Given as goal

abbrev pub decreases-number : goal.decreases-number
decreases-number l = l.n
