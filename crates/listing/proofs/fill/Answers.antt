-- `fill`: the places behind the first i have the least values, up to the k-th. Assumes nothing.
use Rattle.std.proofs.Common.{rules}
use Rattle.listing.proofs.Stepping.{fill_small, fill_more}
use Rattle.listing.proofs.fill.Goals as goal

pub put_echo-requires : goal.put_echo-requires
put_echo-requires c = (search rules, search rules, search (rules, fill_small))

pub loop-k-preserved : goal.loop-k-preserved
loop-k-preserved c = search (rules, fill_more)
