-- `rows::looks`. Assumes nothing.
use Rattle.rows.specs.Border.{Adding}
use Rattle.rows.proofs.looks.Given as goal

abbrev pub invariant-loop-i : goal.invariant-loop-i
invariant-loop-i l = Adding l.row l.k l.i
