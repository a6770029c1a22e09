-- `reaches::reaches`. Assumes nothing.
use Rattle.std.proofs.Common.{rules}
use Rattle.reaches.proofs.Window.{reach_start, reach_next, reach_done, reach_none}
use Rattle.reaches.proofs.reaches.Goals as goal

pub returns-then-is_empty : goal.returns-then-is_empty
returns-then-is_empty c = search (rules, reach_none)

pub loop-i-init : goal.loop-i-init
loop-i-init c = (search (rules, reach_start), search rules)

pub loop-i-preserved : goal.loop-i-preserved
loop-i-preserved c = (search (rules, reach_next), search rules)

pub returns : goal.returns
returns c = search (rules, reach_done)
