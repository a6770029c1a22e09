-- The values behind standing places, and what the code's steps ask and give. Assumes nothing: these are definitions.
use Rattle.std.specs.Prelude.{◌≡◌, MatchOption, Option, Bool, true, false, cond, List, ℕ, suc, ◌+◌, ◌-◌, ◌≤◌, ◌<◌, ltb, eqb, length, take}
use Rattle.words.specs.Lists.{both, at, placed}
use Rattle.words.specs.Rows.{down}
use Rattle.words.specs.Numbers.{DONE, limit}
use Rattle.words.specs.Stand.{possible, weight, weighed}
use Rattle.words.specs.Listing.{Next, StandsAfter}
use Rattle.words.proofs.Lists.{In}
use Rattle.arrays.specs.Steps.{Passes, Sound, Possible, peak}

-- the table u has the first i places of the table t
pub record Kept (t u : List ℕ) (i : ℕ) : Type 0 where
  pub long : length u ≡ limit
  pub same : take i u ≡ take i t

-- the open value that the possible value p is, or is hidden behind, where the echo of the place before is b: up the chain from p, each possible value
-- whose echo is what has been reached takes its place
unfoldable pub cover : (ℕ → ℕ) → ℕ → ℕ → ℕ
cover E p b = down E p (λ k t. cond (eqb (suc k) p) p (cond (eqb (E (suc k)) t) (suc k) t)) b

-- what seeking the least open value above v asks, among the possible values up to p behind the first i places
pub record Seeks (E : ℕ → ℕ) (i p v : ℕ) : Type 0 where
  pub later : 0 < i
  pub sound : Sound E i
  pub value : Possible E i p
  pub low : v < peak E i

-- r is open and above v, and of the possible values above v none up to p has a lower cover
pub record Lower (E : ℕ → ℕ) (i p v r : ℕ) : Type 0 where
  pub shows : weight E (E i) r ≡ DONE
  pub above : v < r
  pub least : (q : ℕ) → In q (possible E (E i)) → q ≤ p → v < q → r ≤ cover E q (E i)

-- r is the least value from v on that stands behind the first i places
pub record LeastValue (A : ℕ) (E : ℕ → ℕ) (i v r : ℕ) : Type 0 where
  pub from : v ≤ r
  pub stands : weighed A E i r ≡ DONE
  pub least : (m : ℕ) → v ≤ m → weighed A E i m ≡ DONE → r ≤ m

-- the place before the k-th is behind the first i and has the same echo
unfoldable pub repeated : (ℕ → ℕ) → ℕ → ℕ → Bool
repeated E i k = both (ltb (i + 1) k) (eqb (E (k - 1)) (E k))

-- the first k places stand, and each behind the first i has the least value
pub record Lows (A : ℕ) (E : ℕ → ℕ) (i k : ℕ) : Type 0 where
  pub passes : Passes A E k
  pub least : (j : ℕ) → i ≤ j → j < k → (m : ℕ) → weighed A E j m ≡ DONE → E (suc j) ≤ m

-- the table u has the first i places of t, and behind them the least values up to the k-th
pub record Filled (A : ℕ) (t u : List ℕ) (i k : ℕ) : Type 0 where
  pub kept : Kept t u i
  pub lows : Lows A (at u) i k

-- of the places from the i-th to the n-th each has the greatest value
pub record Highs (E : ℕ → ℕ) (n i : ℕ) : Type 0 where
  pub within : i ≤ n
  pub high : (j : ℕ) → i ≤ j → j < n → peak E j ≤ E (suc j)

-- k places stand before the last of n that has not the greatest value
pub record Turns (E : ℕ → ℕ) (n k : ℕ) : Type 0 where
  pub highs : Highs E n (suc k)
  pub grows : E (suc k) < peak E k

-- r is that k, or none where each of n places has the greatest value
abbrev pub Turned : (ℕ → ℕ) → ℕ → Option ℕ → Type 0
Turned E n r = MatchOption r (Highs E n 0) (Turns E n)

-- the table u has the first k places of t, behind them the least value above t's, and the least values behind that, up to the n-th place
pub record Raised (A : ℕ) (t u : List ℕ) (k n : ℕ) : Type 0 where
  pub value : LeastValue A (at t) k (at t (k + 1) + 1) (at u (k + 1))
  pub filled : Filled A (placed t (k + 1) (at u (k + 1))) u (k + 1) n

-- what the step from a standing array leaves, and whether there was one
pub data Stepped (A : ℕ) (old new : List ℕ) (t : Bool) : Type 0 where
  stepped : t ≡ true → Next A old new → Stepped A old new t
  ended : t ≡ false → ((z : List ℕ) → StandsAfter A old z → ⊥) → new ≡ old → Stepped A old new t
