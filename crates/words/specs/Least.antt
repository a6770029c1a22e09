-- Dictionary order, the least of a set, and the rule for the least row. Assumes nothing: these are definitions.
use Rattle.std.specs.Prelude.{◌≡◌, Bool, true, false, cond, List, [], ◌∷◌, ◌++◌, ℕ, zero, suc, ltb, eqb, length}
use Rattle.words.specs.Lists.{each, any}
use Rattle.words.specs.Rows.{card}
use Rattle.words.specs.Numbers.{first_letter}
use Rattle.words.specs.Stand.{possible, RowOf}

-- x stands before y in the dictionary
unfoldable pub before : List ℕ → List ℕ → Bool
before [] [] = false
before [] (b ∷ y) = true
before (a ∷ x) [] = false
before (a ∷ x) (b ∷ y) = let r = before x y in cond (eqb a b) r (ltb a b)

-- x is the least of the set P in dictionary order: it is in P, and nothing in P stands before it
pub record Least (P : List ℕ → Type 0) (x : List ℕ) : Type 0 where
  pub is : P x
  pub none : (z : List ℕ) → P z → before z x ≡ false

-- the rebuilt row: the least in dictionary order among all rows over A with these echoes
unfoldable pub LeastRow : ℕ → List ℕ → List ℕ → Type 0
LeastRow A e x = Least (RowOf A e) x

-- the least letter from c on that is not in l, of f letters to try; the one behind them where each is
unfoldable pub least_not : ℕ → ℕ → List ℕ → ℕ
least_not zero c l = c
least_not (suc f) c l = let r = least_not f (suc c) l in cond (any (eqb c) l) r c

-- the least letter that is no member: behind as many letters as there are members comes one that is free
unfoldable pub free_letter : List ℕ → ℕ
free_letter l = least_not (length l) first_letter l

-- the card behind the first n, where its echo is m: card m again, or for 0 the least letter that is the card of no possible place
unfoldable pub next_card : (ℕ → ℕ) → (ℕ → ℕ) → ℕ → ℕ → ℕ
next_card E X zero m = first_letter
next_card E X (suc n) zero = free_letter (each X (possible E (E (suc n))))
next_card E X (suc n) (suc m) = X (suc m)

-- the rule: the first n cards of the least row
unfoldable pub rebuilt : (ℕ → ℕ) → ℕ → List ℕ
rebuilt E zero = []
rebuilt E (suc n) = let x = rebuilt E n in x ++ (next_card E (card x) n (E (suc n)) ∷ [])
