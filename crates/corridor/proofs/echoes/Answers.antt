-- `corridor::echoes`. Assumes nothing.
use Rattle.std.proofs.Common.{rules}
use Rattle.words.specs.Outcomes.{echoes_outcome}
use Rattle.words.proofs.Checks.{answered_new}
use Rattle.corridor.proofs.Entries.{buffer_refused}
use Rattle.corridor.proofs.echoes.Goals as goal

pub returns-in-Err : goal.returns-in-Err
unfolding echoes_outcome
returns-in-Err c = search (rules, buffer_refused, c.in-Err.ensures)

pub returns : goal.returns
unfolding echoes_outcome
returns c = search (rules, answered_new, c.in_default.ensures)
