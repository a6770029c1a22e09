-- Reach and periods from the echoes alone. Assumes nothing: these are definitions.
use Rattle.std.specs.Prelude.{Bool, List, ℕ, zero, suc, ◌+◌, ◌-◌, ltb, eqb, length}
use Rattle.words.specs.Lists.{each, any, keep, greatest, places, at}
use Rattle.words.specs.Rows.{chain}

-- k is on the chain of place i
unfoldable pub on_chain : (ℕ → ℕ) → ℕ → ℕ → Bool
on_chain E i k = any (eqb k) (chain E (E i))

-- the reach of a place from the echoes of n places: place 1 reaches n; the place with d > 0 cards before it the greatest k that is on the chain of place d + k
unfoldable pub reach_of : (ℕ → ℕ) → ℕ → ℕ → ℕ
reach_of E n zero = 0
reach_of E n (suc zero) = n
reach_of E n (suc (suc d)) = greatest (λ k. on_chain E (suc d + k) k) (suc (n - suc d))

-- the reach table of the rows with the echoes e
unfoldable pub reaches_of : List ℕ → List ℕ
reaches_of e = each (reach_of (at e) (length e)) (places (length e))

-- the periods of n along the chain from b: n less each number on it above 0
unfoldable pub periods_along : (ℕ → ℕ) → ℕ → ℕ → List ℕ
periods_along E n b = each (λ k. n - k) (keep (ltb 0) (chain E b))

-- the periods of the rows with the echoes e: along the chain of the last place
unfoldable pub periods_of : List ℕ → List ℕ
periods_of e = periods_along (at e) (length e) (at e (length e))
