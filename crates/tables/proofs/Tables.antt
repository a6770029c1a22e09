-- Tables at the limit, and what was written into their first entries. Assumes nothing.
use mathlib.Core.Path.{◌≡◌, ap}
use mathlib.Core.List.{List}
use Prim.Native.Nat.{ℕ, ◌≤◌}
use native.Mathlib.Omega.{arith}
use lib.ListN.{length}
use Rattle.words.specs.Rows.{card, echoes, reach, reaches}
use Rattle.words.specs.Numbers.{limit}
use Rattle.words.proofs.Places.{places_length}
use Rattle.words.proofs.Checks.{differing_start, differing_more, differing_here, differing_none}
use Rattle.rows.proofs.Walks.{echoes_long, echoes_small}
use Rattle.sheets.proofs.Outcome.{tables_written}

-- the tables of a sheet
pub table_long : (x e : List ℕ) → e ≡ echoes x → length x ≤ limit → length e ≤ limit
table_long x e q h = omega (arith, ap length q, echoes_long x)

pub reach_long : (x r : List ℕ) → r ≡ reaches x → length x ≤ limit → length r ≤ limit
unfolding reaches
reach_long x r q h = omega (arith, ap length q, places_length (reach (card x) (length x)) (length x))

-- what the tables need
pub ruleset table_steps = (table_long, reach_long, echoes_small, tables_written, differing_start, differing_more, differing_here, differing_none)
