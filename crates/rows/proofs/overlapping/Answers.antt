-- `rows::overlapping`. Assumes nothing.
use Rattle.std.proofs.Common.{rules}
use Rattle.rows.proofs.Walks.{join_start, join_inside, join_known, join_more}
use Rattle.rows.proofs.overlapping.Goals as goal

pub loop-c-init : goal.loop-c-init
loop-c-init c = search (rules, join_start)

pub extend-b-requires : goal.extend-b-requires
extend-b-requires c = (search (rules, join_inside), search (rules, join_known))

pub loop-c-preserved : goal.loop-c-preserved
loop-c-preserved c = search (rules, join_more)
