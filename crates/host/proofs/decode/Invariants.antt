-- `host::decode`: the first i echoes are in the table. Assumes nothing.
use Rattle.words.specs.Numbers.{limit}
use Rattle.words.specs.Outcomes.{decoded}
use Rattle.arrays.proofs.Tables.{Copied}
use Rattle.host.proofs.decode.Given as goal

abbrev pub invariant-loop-i : goal.invariant-loop-i
invariant-loop-i l = Copied (decoded l.bytes) l.t limit l.i
