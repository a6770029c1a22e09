-- `held::next_in`. Assumes nothing.
use Rattle.std.proofs.Common.{rules}
use Rattle.held.proofs.Stepping.{next_steps, next_ends}
use Rattle.held.proofs.next_in.Goals as goal

pub returns-then-next : goal.returns-then-next
returns-then-next c = search (rules, next_steps, c.in_ok-judge.was)

pub returns-else-next : goal.returns-else-next
returns-else-next c = search (rules, next_ends, c.in_ok-judge.was)
