-- `rows::part`. Assumes nothing.
use Rattle.std.proofs.Common.{rules}
use Rattle.rows.proofs.Walks.{part_is}
use Rattle.rows.proofs.part.Goals as goal

pub returns : goal.returns
returns c = search (rules, part_is)
