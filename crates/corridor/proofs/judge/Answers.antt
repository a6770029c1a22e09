-- `corridor::judge`. Assumes nothing.
use Rattle.std.proofs.Common.{rules}
use Rattle.words.specs.Outcomes.{judge_outcome}
use Rattle.corridor.proofs.Entries.{list_refused}
use Rattle.corridor.proofs.judge.Goals as goal

pub returns-in-Err : goal.returns-in-Err
unfolding judge_outcome
returns-in-Err c = search (rules, list_refused, c.in-Err.ensures)
