-- `noted`: the first k of the places are looked up. Assumes nothing.
use Rattle.words.specs.Lists.{at}
use Rattle.judging.specs.Judging.{Known}
use Rattle.judging.proofs.noted.Given as goal

abbrev pub invariant-loop-k : goal.invariant-loop-k
invariant-loop-k l = Known (at l.t) l.fresh l.i l.k l.all
