-- `skim`: the places behind pass by the table. Assumes nothing.
use Prim.Native.Nat.{◌-◌}
use Rattle.words.specs.Lists.{at}
use Rattle.judging.specs.Judging.{Skims}
use Rattle.judging.proofs.skim.Given as goal

abbrev pub invariant-loop-j : goal.invariant-loop-j
invariant-loop-j l = Skims (at l.t) l.fresh l.i l.n l.j

abbrev pub decreases-loop-j : goal.decreases-loop-j
decreases-loop-j l = l.n - l.j
