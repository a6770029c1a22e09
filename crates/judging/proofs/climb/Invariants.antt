-- `climb`: each echo so far is one more than the echo before. Assumes nothing.
use Prim.Native.Nat.{◌-◌, ◌≤◌}
use Rattle.words.specs.Lists.{at}
use Rattle.judging.specs.Judging.{Climbs}
use Rattle.judging.proofs.climb.Given as goal

abbrev pub invariant-loop-j : goal.invariant-loop-j
invariant-loop-j l = (l.i ≤ l.j) × (l.j ≤ l.n) × Climbs (at l.t) l.i l.j

abbrev pub decreases-loop-j : goal.decreases-loop-j
decreases-loop-j l = l.n - l.j
