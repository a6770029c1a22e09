-- `counting::published`: the table in the code is the published list. Assumes nothing.
use Rattle.std.proofs.Common.{rules}
use Rattle.words.proofs.Places.{index_at}
use Rattle.counting.proofs.published.Goals as goal

pub returns : goal.returns
returns c = search (rules, index_at)
