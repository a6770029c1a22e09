-- `judge_in`: the places behind pass. Assumes nothing.
use Prim.Native.Nat.{◌-◌}
use Rattle.words.specs.Lists.{at}
use Rattle.arrays.specs.Steps.{Passes}
use Rattle.judging.specs.Judging.{Stood}
use Rattle.judging.proofs.judge_in.Given as goal

abbrev pub invariant-loop-i : goal.invariant-loop-i
invariant-loop-i l = Passes l.a (at l.t) l.i × Stood l.a (at l.t) l.fresh

abbrev pub decreases-loop-i : goal.decreases-loop-i
decreases-loop-i l = l.n - l.i
