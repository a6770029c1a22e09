-- `rows::overlapping`. Assumes nothing.
use Rattle.rows.specs.Border.{Overlapping}
use Rattle.rows.proofs.overlapping.Given as goal

abbrev pub invariant-loop-c : goal.invariant-loop-c
invariant-loop-c l = Overlapping l.left l.right l.e l.b l.c-index
