-- `cards`: what is left answers for the whole row. Assumes nothing.
use mathlib.Core.Path.{◌≡◌}
use Prim.Native.Nat.{◌+◌, ◌-◌}
use lib.ListN.{length}
use Rattle.words.specs.Lists.{first_of, run}
use Rattle.words.specs.Numbers.{foreign, outside}
use Rattle.checks.proofs.cards.Given as goal

abbrev pub invariant-loop-i : goal.invariant-loop-i
invariant-loop-i l = outside l.a l.row ≡ first_of (foreign l.a l.row) (run (l.i + 1) (length l.row - l.i))
