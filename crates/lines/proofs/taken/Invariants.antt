-- `lines::taken`. Assumes nothing.
use Rattle.std.proofs.Common.{take}
use Rattle.lines.specs.Taking.{Takes}
use Rattle.lines.proofs.taken.Given as goal

abbrev pub invariant-loop-byte : goal.invariant-loop-byte
invariant-loop-byte l = Takes (take l.byte-index l.piece) l.fn.s l.fn.row l.s l.row
