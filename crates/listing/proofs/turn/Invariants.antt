-- `turn`: the places behind the first k have the greatest values. Assumes nothing.
use Rattle.words.specs.Lists.{at}
use Rattle.listing.specs.Values.{Highs}
use Rattle.listing.proofs.turn.Given as goal

abbrev pub invariant-loop-k : goal.invariant-loop-k
invariant-loop-k l = Highs (at l.t) l.n l.k
