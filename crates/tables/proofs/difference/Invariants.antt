-- `difference`: what is left answers for the whole. Assumes nothing.
use mathlib.Core.Path.{◌≡◌}
use Prim.Native.Nat.{◌+◌, ◌-◌}
use lib.ListN.{length}
use Rattle.words.specs.Lists.{first_of, run}
use Rattle.words.specs.Numbers.{differs, differing}
use Rattle.tables.proofs.difference.Given as goal

abbrev pub invariant-loop-i : goal.invariant-loop-i
invariant-loop-i l = differing l.e l.f ≡ first_of (differs l.e l.f) (run (l.i + 1) (length l.e - l.i))
