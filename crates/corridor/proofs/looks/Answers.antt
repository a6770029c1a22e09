-- `corridor::looks`. Assumes nothing.
use Rattle.std.proofs.Common.{rules}
use Rattle.words.specs.Outcomes.{looks_outcome}
use Rattle.words.proofs.Checks.{counted_some}
use Rattle.corridor.proofs.Entries.{count_refused}
use Rattle.corridor.proofs.looks.Goals as goal

pub returns-in-Err : goal.returns-in-Err
unfolding looks_outcome
returns-in-Err c = search (rules, count_refused, c.in-Err.ensures)

pub returns : goal.returns
unfolding looks_outcome
returns c = search (rules, counted_some, c.in_default.ensures)
