-- `width`: n / 10 is less than n. Assumes nothing.
use Rattle.fields.proofs.+width.Given as goal

abbrev pub decreases-width : goal.decreases-width
decreases-width l = l.n
