-- Borders as relations, and what the walk along a chain finds. Assumes nothing: these are definitions.
use Rattle.std.specs.Prelude.{◌≡◌, Bool, true, cond, List, ℕ, zero, suc, ◌+◌, ◌-◌, ◌*◌, ◌≤◌, ◌<◌, max, eqb, length}
use Rattle.words.specs.Lists.{both, greatest, at}
use Rattle.words.specs.Rows.{card, Alike, closes, echo, echoes, looks_from, looks_to}
use Rattle.words.specs.Strips.{overlap}

-- the first k cards of Y are the last k of X[1..i]: card j of Y is card h of X where j lies as far before k as h before i
pub record Closes (Y X : ℕ → ℕ) (i k : ℕ) : Type 0 where
  pub short : k ≤ i
  pub same : (j h : ℕ) → 0 < j → j ≤ k → h + k ≡ i + j → Y j ≡ X h

-- k is a border of X[1..i]: k < i, and its first k cards are its last k
pub record Border (X : ℕ → ℕ) (i k : ℕ) : Type 0 where
  pub less : k < i
  pub edge : Closes X X i k

-- 0, or k + 1 where the first k cards of Y close Y[1..b] and card k + 1 is c
unfoldable pub grows : (ℕ → ℕ) → ℕ → ℕ → ℕ → Bool
grows Y b c zero = true
grows Y b c (suc k) = both (closes Y Y b k) (eqb (Y (suc k)) c)

-- the longest that what closes Y[1..b], b itself among it, becomes with the card c behind it; 0 where nothing grows
unfoldable pub grown : (ℕ → ℕ) → ℕ → ℕ → ℕ
grown Y b c = greatest (grows Y b c) (suc (suc b))

-- the looks of the first n places from the echoes alone: a look finds its card exactly where b + 1 is the echo
unfoldable pub looks_of : (ℕ → ℕ) → ℕ → ℕ
looks_of E zero = 0
looks_of E (suc zero) = 0
looks_of E (suc (suc i)) = looks_of E (suc i) + looks_from (λ j. j) E (E (suc (suc i))) (E (suc i))

-- e holds the echoes of X up to place b
pub record Known (X : ℕ → ℕ) (e : List ℕ) (b : ℕ) : Type 0 where
  pub long : b ≤ length e
  pub right : Alike (at e) (echo X) b

-- the first i echoes of the row x stand in e, and b is the last of them
pub record Filling (x e : List ℕ) (b i : ℕ) : Type 0 where
  pub below : b < i
  pub within : i ≤ length x
  pub whole : length e ≡ length x
  pub last : b ≡ echo (card x) i
  pub known : Known (card x) e i

-- k is the looks of the first i places of x; place 1 has none, also where x is empty
pub record Adding (x : List ℕ) (k i : ℕ) : Type 0 where
  pub some : 0 < i
  pub within : i ≤ max 1 (length x)
  pub low : k ≤ 2 * i - 2
  pub sum : k ≡ looks_to (card x) (echo (card x)) i

-- where the walk in a row of m cards goes on from b: from b, or from its last echo where b is the whole row
unfoldable pub resumed : (ℕ → ℕ) → ℕ → ℕ → ℕ
resumed E m b = let last = E b in cond (eqb b m) last b

-- b is the overlap of the first i cards of x with y, whose echoes are e
pub record Overlapping (x y e : List ℕ) (b i : ℕ) : Type 0 where
  pub within : i ≤ length x
  pub some : 0 < length y
  pub whole : length e ≡ length y
  pub table : e ≡ echoes y
  pub fits : b ≤ length y
  pub last : b ≡ overlap (card x) i (card y) (length y)
