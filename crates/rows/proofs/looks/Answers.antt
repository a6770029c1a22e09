-- `rows::looks`. Assumes nothing.
use Rattle.std.proofs.Common.{rules}
use Rattle.rows.proofs.Walks.{add_start, add_table, add_inside, add_known, add_more, add_done, add_low}
use Rattle.rows.proofs.looks.Goals as goal

pub loop-i-init : goal.loop-i-init
loop-i-init c = search (rules, add_start)

pub echo_at-requires : goal.echo_at-requires
echo_at-requires c = (search rules, search (rules, add_table))

pub looked-k-requires : goal.looked-k-requires
looked-k-requires c = (search (rules, add_inside), search (rules, add_known))

pub loop-i-preserved : goal.loop-i-preserved
loop-i-preserved c = search (rules, add_more)

pub returns : goal.returns
returns c = (search (rules, add_done), search (rules, add_low))
