-- `low`: the first k of the places are looked at. Assumes nothing.
use Rattle.words.specs.Lists.{at}
use Rattle.judging.specs.Judging.{Low}
use Rattle.judging.proofs.low.Given as goal

abbrev pub invariant-loop-k : goal.invariant-loop-k
invariant-loop-k l = Low (at l.t) l.i l.k l.all
