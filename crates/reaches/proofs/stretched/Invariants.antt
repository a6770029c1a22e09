-- `reaches::stretched`: the first m cards agree. Assumes nothing.
use Prim.Native.Nat.{◌+◌, ◌≤◌}
use lib.ListN.{length}
use Rattle.words.specs.Rows.{card, reach}
use Rattle.reaches.proofs.stretched.Given as goal

abbrev pub invariant-loop-m : goal.invariant-loop-m
invariant-loop-m l = l.m ≤ reach (card l.row) (length l.row) (l.i + 1)
