-- `rows::echoes`. Assumes nothing.
use Rattle.rows.specs.Border.{Filling}
use Rattle.rows.proofs.echoes.Given as goal

abbrev pub invariant-loop-i : goal.invariant-loop-i
invariant-loop-i l = Filling l.row l.out l.b l.i
