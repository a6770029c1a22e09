-- `held::rebuild_in`. Assumes nothing.
use Rattle.std.proofs.Common.{rules}
use Rattle.held.proofs.Stepping.{rebuild_least}
use Rattle.held.proofs.rebuild_in.Goals as goal

pub returns : goal.returns
returns c = search (rules, rebuild_least, c.in_ok-judge.was)
