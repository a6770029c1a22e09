-- `reaches::stretched`: the first m cards agree. Assumes nothing.
use Rattle.std.proofs.Common.{rules}
use Rattle.reaches.proofs.Window.{stretch_stop, stretch_more, stretch_end}
use Rattle.reaches.proofs.stretched.Goals as goal

pub returns-then-card_at : goal.returns-then-card_at
returns-then-card_at c = (search (rules, stretch_stop), search rules)

pub loop-m-preserved : goal.loop-m-preserved
loop-m-preserved c = search (rules, stretch_more)

pub returns : goal.returns
returns c = (search (rules, stretch_end), search rules)
