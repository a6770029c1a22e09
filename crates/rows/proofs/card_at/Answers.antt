-- `rows::card_at`. Assumes nothing.
use Rattle.std.proofs.Common.{rules}
use Rattle.words.proofs.Rows.{card_index}
use Rattle.rows.proofs.card_at.Goals as goal

pub returns : goal.returns
returns c = search (rules, card_index)
