-- `rows::overlap`. Assumes nothing.
use Rattle.std.proofs.Common.{rules}
use Rattle.rows.proofs.Walks.{join_fits}
use Rattle.rows.proofs.overlap.Goals as goal

pub returns : goal.returns
returns c = (search rules, search (rules, join_fits))
