-- `rows::echo_at`. Assumes nothing.
use Rattle.std.proofs.Common.{rules}
use Rattle.words.proofs.Places.{at_index}
use Rattle.rows.proofs.echo_at.Goals as goal

pub returns : goal.returns
returns c = search (rules, at_index)
