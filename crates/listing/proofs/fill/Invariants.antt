-- `fill`: the places behind the first i have the least values, up to the k-th. Assumes nothing.
use Rattle.listing.specs.Values.{Filled}
use Rattle.listing.proofs.fill.Given as goal

abbrev pub invariant-loop-k : goal.invariant-loop-k
invariant-loop-k l = Filled l.a l.initial.t l.t l.i l.k
