-- When an array stands. An array is read by place: `E i` is the echo of place i, from 1 on.
-- Assumes nothing: these are definitions.
use Rattle.std.specs.Prelude.{◌≡◌, Bool, true, cond, not, List, ℕ, zero, suc, ltb, eqb, length}
use Rattle.words.specs.Lists.{both, each, any, keep, first_of, places, at}
use Rattle.words.specs.Rows.{echoes, chain}
use Rattle.words.specs.Numbers.{DONE, IMPOSSIBLE, HIDDEN, FULL, over}

-- x is a row over A that has e as its echoes
pub record RowOf (A : ℕ) (e x : List ℕ) : Type 0 where
  pub inside : over A x ≡ true
  pub has : echoes x ≡ e

-- THE definition: some row over A has e as its echoes
pub record Stands (A : ℕ) (e : List ℕ) : Type 0 where
  pub row : List ℕ
  pub is : RowOf A e row

-- the possible values above 0 at a place, falling; b is the echo of the place before: c + 1 for every c on the chain from b
unfoldable pub possible : (ℕ → ℕ) → ℕ → List ℕ
possible E b = each suc (chain E b)

-- m is hidden: some possible m' > m has the echo m
unfoldable pub hidden : (ℕ → ℕ) → ℕ → ℕ → Bool
hidden E b m = any (λ m'. both (ltb m m') (eqb (E m') m)) (possible E b)

-- the open values: the possible values above 0 that are not hidden
unfoldable pub opens : (ℕ → ℕ) → ℕ → List ℕ
opens E b = keep (λ m. not (hidden E b m)) (possible E b)

-- the number of a value m > 0: it is not possible, or hidden, or it stands
unfoldable pub weight : (ℕ → ℕ) → ℕ → ℕ → ℕ
weight E b m = let h = hidden E b m in cond (any (eqb m) (possible E b)) (cond h HIDDEN DONE) IMPOSSIBLE

-- the number of the value m behind the first n places. At place 1 only 0 stands; at every other zero stands exactly if fewer than A values are open
unfoldable pub weighed : ℕ → (ℕ → ℕ) → ℕ → ℕ → ℕ
weighed A E zero zero = DONE
weighed A E zero (suc m) = IMPOSSIBLE
weighed A E (suc n) zero = cond (ltb (length (opens E (E (suc n)))) A) DONE FULL
weighed A E (suc n) (suc m) = weight E (E (suc n)) (suc m)

-- the number of the value at place i; place 0 has the number 0
unfoldable pub number_at : ℕ → (ℕ → ℕ) → ℕ → ℕ
number_at A E zero = DONE
number_at A E (suc i) = weighed A E i (E (suc i))

-- the value at place i does not stand behind those before it; the first such place, 0 where there is none
unfoldable pub fails : ℕ → (ℕ → ℕ) → ℕ → Bool
fails A E i = not (eqb (number_at A E i) DONE)

unfoldable pub first_bad : ℕ → List ℕ → ℕ
first_bad A e = first_of (fails A (at e)) (places (length e))

-- number and first bad place of an array; (0, 0) where all its values stand
unfoldable pub verdict : ℕ → List ℕ → ℕ × ℕ
verdict A e = let p = first_bad A e in (number_at A (at e) p, p)
