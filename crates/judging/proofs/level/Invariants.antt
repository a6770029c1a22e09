-- `level`: the first k of the places are looked at. Assumes nothing.
use Rattle.words.specs.Lists.{at}
use Rattle.judging.specs.Judging.{Level}
use Rattle.judging.proofs.level.Given as goal

abbrev pub invariant-loop-k : goal.invariant-loop-k
invariant-loop-k l = Level (at l.t) l.i l.k l.top l.same
