-- From cards: echo, chain, reach, period, looks ("Words and limits"). A row is read by place: `X i` is the card of place i, from 1 on.
-- Assumes nothing: these are definitions.
use Rattle.std.specs.Prelude.{◌≡◌, Bool, true, false, cond, List, [], ◌∷◌, ℕ, zero, suc, ◌+◌, ◌-◌, ◌≤◌, ◌<◌, ltb, eqb, length}
use Rattle.words.specs.Lists.{each, keep, greatest, places, falling, at}

-- the card at place i of a row: the byte that stands there
unfoldable pub card : List ℕ → ℕ → ℕ
card x i = at x i

-- the k cards of X behind its first d are the same, by the test, as the first k of Y
unfoldable pub agree : (ℕ → ℕ → Bool) → (ℕ → ℕ) → (ℕ → ℕ) → ℕ → ℕ → Bool
agree same Y X d zero = true
agree same Y X d (suc k) = let r = agree same Y X d k in cond (same (Y (suc k)) (X (d + suc k))) r false

-- the first k cards of Y equal the last k of X[1..i]
unfoldable pub closes : (ℕ → ℕ) → (ℕ → ℕ) → ℕ → ℕ → Bool
closes Y X i k = agree eqb Y X (i - k) k

-- the echo of place i: the greatest k with 0 <= k < i such that the first k cards of X[1..i] equal its last k
unfoldable pub echo : (ℕ → ℕ) → ℕ → ℕ
echo X i = greatest (closes X X i) i

-- the echoes of a row
unfoldable pub echoes : List ℕ → List ℕ
echoes x = each (echo (card x)) (places (length x))

-- each echo of the first n places is below its place
pub record Small (E : ℕ → ℕ) (n : ℕ) : Type 0 where
  pub below : (i : ℕ) → i < n → E (suc i) ≤ i

-- E and F have the same echoes at the first n places
pub record Alike (E F : ℕ → ℕ) (n : ℕ) : Type 0 where
  pub same : (i : ℕ) → i < n → E (suc i) ≡ F (suc i)

-- down the chain from b: z at zero, and at each number above it what s makes of the number and of what comes behind it; b steps are enough
unfoldable pub down_in : {T : Type 0} → ℕ → (ℕ → ℕ) → T → (ℕ → T → T) → ℕ → T
down_in zero E z s b = z
down_in (suc f) E z s zero = z
down_in (suc f) E z s (suc b) = s (suc b) (down_in f E z s (E (suc b)))

unfoldable pub down : {T : Type 0} → (ℕ → ℕ) → T → (ℕ → T → T) → ℕ → T
down E z s b = down_in b E z s b

-- b, then the echo of that, and so on down to zero; the chain of place i is `chain E (E i)`
unfoldable pub chain : (ℕ → ℕ) → ℕ → List ℕ
chain E b = down E (0 ∷ []) (λ k rest. k ∷ rest) b

-- the reach of a place in a row of n cards, the place with d cards before it: the greatest k such that the k cards from there on equal the first k
unfoldable pub reach : (ℕ → ℕ) → ℕ → ℕ → ℕ
reach X n zero = 0
reach X n (suc d) = greatest (agree eqb X X d) (suc (n - d))

-- the reach table of a row
unfoldable pub reaches : List ℕ → List ℕ
reaches x = each (reach (card x) (length x)) (places (length x))

-- the borders of X[1..i]: the k < i such that its first k cards equal its last k, the longest first
unfoldable pub borders : (ℕ → ℕ) → ℕ → List ℕ
borders X i = keep (closes X X i) (falling i)

-- the periods of a row: its length less that of each border that is not empty, ascending
unfoldable pub periods : List ℕ → List ℕ
periods x = each (λ k. length x - k) (keep (ltb 0) (borders (card x) (length x)))

-- the looks for card c from b on: one look compares card b + 1 with c. Equal: stop. Unequal and b = 0: stop. Otherwise b becomes the echo of b
unfoldable pub looks_from : (ℕ → ℕ) → (ℕ → ℕ) → ℕ → ℕ → ℕ
looks_from X E c b = down E 1 (λ k rest. cond (eqb (X (suc k)) c) 1 (suc rest)) b

-- the looks of a place: place 1 has none; at every other they start from the echo of the place before
unfoldable pub looks_at : (ℕ → ℕ) → (ℕ → ℕ) → ℕ → ℕ
looks_at X E zero = 0
looks_at X E (suc zero) = 0
looks_at X E (suc (suc i)) = looks_from X E (X (suc (suc i))) (E (suc i))

-- the looks of the first n places together
unfoldable pub looks_to : (ℕ → ℕ) → (ℕ → ℕ) → ℕ → ℕ
looks_to X E zero = 0
looks_to X E (suc i) = looks_to X E i + looks_at X E (suc i)

-- the looks of a row
unfoldable pub looks : List ℕ → ℕ
looks x = looks_to (card x) (echo (card x)) (length x)
