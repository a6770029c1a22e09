-- `next`: one lemma of `Stepping` for each way out. Assumes nothing.
use Rattle.std.proofs.Common.{rules}
use Rattle.listing.proofs.Stepping.{next_last, next_done}
use Rattle.listing.proofs.next.Goals as goal

pub returns-in_default : goal.returns-in_default
returns-in_default c = search (rules, next_last)

pub returns : goal.returns
returns c = search (rules, next_done)
