-- `rebuild` meets its contract. The invariant: the first i cards are those of the least row. Assumes nothing.
use mathlib.Core.Path.{◌≡◌}
use lib.ListN.{take}
use Rattle.words.specs.Lists.{at}
use Rattle.words.specs.Least.{rebuilt}
use Rattle.rebuilding.proofs.rebuild.Given as goal

abbrev pub invariant-loop-i : goal.invariant-loop-i
invariant-loop-i l = take l.i l.x ≡ rebuilt (at l.t) l.i
