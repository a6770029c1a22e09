-- `rows::looked`: the walk that counts its looks; the number on the chain falls. Assumes nothing.
use Rattle.rows.proofs.+looked.Given as goal

abbrev pub decreases-looked : goal.decreases-looked
decreases-looked l = l.b
