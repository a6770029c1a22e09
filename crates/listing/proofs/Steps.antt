-- The first, the next and the last array of ANY set P, place by place. P may have dead ends: only whole arrays of P are compared. Assumes nothing.
use mathlib.Core.Path.{◌≡◌, sym, ap, subst, ◌∙◌}
use mathlib.Core.List.{List}
use Prim.Native.Nat.{ℕ, suc, ◌≤◌, ◌<◌}
use native.Mathlib.Omega.{arith}
use lib.Dec.{ltb}
use lib.ListN.{length, take, get_or}
use lib.Seq.{take-take}
use borrow.Author.Tests.{ltb-true, ltb-false}
use Rattle.words.specs.Lists.{at}
use Rattle.words.specs.Least.{Least}
use Rattle.words.proofs.Lists.{which, either, same?, not_both}
use Rattle.words.proofs.Order.{before_asym, Parts, before_parts, parts_before, Lowest, Highest, lowest_not, lowest_least}
use Rattle.words.proofs.Rows.{alike_along}
use Rattle.listing.specs.Sets.{Sized, After}

-- two arrays that go along for n places have the same number at each of them, and go along for fewer
alike : (n : ℕ) (x y : List ℕ) → take n x ≡ take n y → (j : ℕ) → j < n → get_or x j 0 ≡ get_or y j 0
unfolding at
alike n x y e = (alike_along x y n e).same

along : (n : ℕ) (x y : List ℕ) → take n x ≡ take n y → (j : ℕ) → j ≤ n → take j x ≡ take j y
along n x y e j h = sym (take-take j n x h) ∙ ap (take j) e ∙ take-take j n y h

module _ (P : List ℕ → Type 0) where
  pub first_steps : (f : List ℕ) (n : ℕ) → Sized P n f → Lowest P f 0 → Least (Sized P n) f
  first_steps f n h low = lowest_least f h (λ z q. q.long ∙ sym h.long) (record { least = λ z q. low.least z q.is })

  pub last_steps : (e : List ℕ) → Highest P e 0 → (z : List ℕ) → After P e z → ⊥
  last_steps e high z a = let (j, p) = before_parts e z (sym a.long) a.greater in
      omega (arith, p.less, high.most z a.is a.long j (omega arith) p.within (sym p.same))

  -- f is e with a greater number at index i, the least there among the arrays of P that have a greater one, and the lowest behind it; e is the highest behind i
  module _ (e f : List ℕ) (i : ℕ) (h : Sized P (length e) f) (p : Parts e f i) (high : Highest P e (suc i)) (low : Lowest P f (suc i))
      (between : (z : List ℕ) → P z → length z ≡ length e → take i z ≡ take i e → get_or e i 0 < get_or z i 0 → get_or f i 0 ≤ get_or z i 0) where
    -- an array that is greater than e and goes along with e up to i is greater there
    rises : (z : List ℕ) → After P e z → take i z ≡ take i e → get_or e i 0 < get_or z i 0
    rises z a s = let (d, g) = before_parts e z (sym a.long) a.greater in
        either (same? d i)
        (λ q. subst (λ (k : ℕ). get_or e k 0 < get_or z k 0) q g.less)
        (λ n. either (which (ltb d i))
        (λ t. absurd (omega (arith, g.less, alike i z e s d (ltb-true d i t))))
        (λ t. absurd (omega (arith, g.less, high.most z a.is a.long d (omega (arith, ltb-false d i t)) g.within (sym g.same)))))

    lowest_after : Lowest (After P e) f i
    lowest_after = record {
      least = λ z a n j l b s. either (same? j i)
          (λ k. let t = subst (λ (x : ℕ). take x z ≡ take x f) k s ∙ sym p.same in
          subst (λ (x : ℕ). get_or f x 0 ≤ get_or z x 0) (sym k) (between z a.is a.long t (rises z a t)))
          (λ d. low.least z a.is n j (omega arith) b s);
    }

    pub next_steps : Least (After P e) f
    next_steps = record {
      is = record { is = h.is; long = h.long; greater = parts_before i e f (sym h.long) p };
      none = λ z a. lowest_not f z i lowest_after a (a.long ∙ sym h.long)
          (λ j l g. not_both (parts_before j z e a.long (record {
            within = g.within;
            same = g.same ∙ sym (along i e f p.same j (omega arith));
            less = omega (arith, g.less, alike i e f p.same j l);
          })) (before_asym e z a.greater));
    }
