-- Trying the values behind a prefix: the sum of what they count, and what trying one asks. Assumes nothing: these are definitions.
use Rattle.std.specs.Prelude.{Bool, cond, List, ℕ, zero, suc, ◌+◌, ◌≤◌, ◌<◌}
use Rattle.words.specs.Lists.{at}
use Rattle.words.specs.Listing.{more, count_from}
use Rattle.arrays.specs.Steps.{Passes, Possible}

-- the sum, over the values below k that are accepted behind p, of the counts of p with that value behind it
unfoldable pub tried : (List ℕ → ℕ → Bool) → ℕ → List ℕ → ℕ → ℕ
tried ok r p zero = 0
tried ok r p (suc k) = tried ok r p k + cond (ok p k) (count_from ok r (more p k)) 0

-- what trying the value m behind the first i places of the table t asks, in counting arrays of n places
pub record Tries (A : ℕ) (t : List ℕ) (i n m : ℕ) : Type 0 where
  pub within : i < n
  pub most : n ≤ 20
  pub passes : Passes A (at t) i
  pub value : Possible (at t) i m
