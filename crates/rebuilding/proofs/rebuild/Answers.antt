-- `rebuild` meets its contract. The invariant: the first i cards are those of the least row. Assumes nothing.
use Rattle.std.proofs.Common.{rules}
use Rattle.rebuilding.proofs.Writing.{write_none, write_more}
use Rattle.rebuilding.proofs.rebuild.Goals as goal

pub loop-i-init : goal.loop-i-init
loop-i-init c = search (rules, write_none)

pub loop-i-preserved : goal.loop-i-preserved
loop-i-preserved c = search (rules, write_more)
