-- `rows::resume`. Assumes nothing.
use Rattle.std.proofs.Common.{rules}
use Rattle.rows.proofs.Walks.{resume_full, resume_on}
use Rattle.rows.proofs.resume.Goals as goal

pub returns-then-b-e : goal.returns-then-b-e
returns-then-b-e c = search (rules, resume_full)

pub returns-else-b-e : goal.returns-else-b-e
returns-else-b-e c = search (rules, resume_on)
