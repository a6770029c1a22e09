-- `first`: the least values from the first place on. Assumes nothing.
use Rattle.std.proofs.Common.{rules}
use Rattle.listing.proofs.Stepping.{first_done}
use Rattle.listing.proofs.first.Goals as goal

pub returns : goal.returns
returns c = search (rules, first_done)
