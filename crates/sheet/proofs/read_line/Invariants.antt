-- `sheet::read_line`. Assumes nothing.
use Rattle.lines.specs.Taking.{Read}
use Rattle.sheet.proofs.read_line.Given as goal

abbrev pub invariant-loop : goal.invariant-loop
invariant-loop g l = Read l.counter l.s l.row
