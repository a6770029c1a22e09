-- `reaches::reaches`. Assumes nothing.
use Rattle.reaches.specs.Reach.{Windowed, Reaching}
use Rattle.reaches.proofs.reaches.Given as goal

abbrev pub invariant-loop-i : goal.invariant-loop-i
invariant-loop-i l = Reaching l.row l.out l.i × Windowed l.window l.i
