-- `rows::echoes`. Assumes nothing.
use Rattle.std.proofs.Common.{rules}
use Rattle.rows.proofs.Walks.{fill_start, fill_more, fill_done, fill_none}
use Rattle.rows.proofs.echoes.Goals as goal

pub returns-then-is_empty : goal.returns-then-is_empty
returns-then-is_empty c = search (rules, fill_none)

pub loop-i-init : goal.loop-i-init
loop-i-init c = search (rules, fill_start)

pub loop-i-preserved : goal.loop-i-preserved
loop-i-preserved c = search (rules, fill_more)

pub returns : goal.returns
returns c = search (rules, fill_done)
