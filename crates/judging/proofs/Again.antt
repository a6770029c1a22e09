-- The table of pairs that stood: whether a value stands is a matter of the greatest value there alone. Assumes nothing.
use mathlib.Core.Path.{◌≡◌, refl, sym, ap, ◌∙◌}
use mathlib.Core.Bool.{Bool, true, cond}
use mathlib.Core.List.{List}
use Prim.Native.Nat.{ℕ, zero, suc, ◌+◌, ◌*◌, ◌<◌}
use native.Mathlib.Omega.{arith}
use native.Mathlib.Numerals.{add-one}
use lib.Dec.{ltb, eqb}
use lib.ListN.{length, get_or, set, replicate, length-set, length-replicate, get_or-replicate}
use lib.Seq.{get_or-set_other}
use borrow.Author.Tests.{eqb-true}
use Rattle.words.specs.Lists.{both}
use Rattle.words.specs.Numbers.{DONE, FULL}
use Rattle.words.specs.Stand.{opens, weight, weighed}
use Rattle.words.proofs.Lists.{either, same?, both_out}
use Rattle.arrays.specs.Steps.{peak}
use Rattle.judging.specs.Judging.{Low, Stood, Known}
use Rattle.arrays.proofs.Rules.{passes_suc, peak_some}

weighed_peak : (A : ℕ) (E : ℕ → ℕ) (i j m : ℕ) → peak E i ≡ peak E j → weighed A E i m ≡ weighed A E j m
unfolding peak weighed
weighed_peak A E zero zero m e = refl
weighed_peak A E zero (suc j) m e = absurd (omega arith)
weighed_peak A E (suc i) zero m e = absurd (omega arith)
weighed_peak A E (suc i) (suc j) zero e = let z : E (suc i) ≡ E (suc j) = omega arith in ap (λ (b : ℕ). cond (ltb (length (opens E b)) A) DONE FULL) z
weighed_peak A E (suc i) (suc j) (suc m) e = let z : E (suc i) ≡ E (suc j) = omega arith in ap (λ (b : ℕ). weight E b (suc m)) z

-- none stood at first
pub stood_none : (A : ℕ) (E : ℕ → ℕ) → Stood A E (replicate 256 1)
stood_none A E = record {
  long = length-replicate {A = ℕ} 256 1;
  again = λ p m g h e. absurd (omega (arith, get_or-replicate {A = ℕ} 256 (16 * p + m) 1 0 (omega arith)));
}

pub stood_more : {A : ℕ} {E : ℕ → ℕ} {f : List ℕ} → Stood A E f → (i p m w : ℕ) → p ≡ peak E i → p < 16 → m < 16 → w ≡ weighed A E i m → w ≡ DONE →
    Stood A E (set f (16 * p + m) 0)
stood_more {A} {E} {f} stood i p m w greatest g h e z = record { long = length-set f (16 * p + m) 0 ∙ stood.long; again = again }
  where
    again : (q k : ℕ) → q < 16 → k < 16 → get_or (set f (16 * p + m) 0) (16 * q + k) 0 ≡ 0 → (j : ℕ) → peak E j ≡ q → weighed A E j k ≡ DONE
    again q k b l x j y = either (same? (16 * q + k) (16 * p + m))
        (λ c. let a : q ≡ p = omega arith in let d : k ≡ m = omega arith in ap (weighed A E j) d ∙ weighed_peak A E j i m (y ∙ a ∙ greatest) ∙ sym e ∙ z)
        (λ d. stood.again q k b l (sym (get_or-set_other f (16 * p + m) (16 * q + k) 0 0 d) ∙ x) j y)

-- the pairs of some places, looked up together
module _ {E : ℕ → ℕ} {i c k : ℕ} (low : Low E i (c + 1) true) (h : k < c) (x y : ℕ) (left : x ≡ E (i + k)) (right : y ≡ E (i + k + 1)) where
  known_low : (x < 15) × (y < 15)
  known_low = let e : i + (k + 1) ≡ i + k + 1 = omega arith in
      (omega (arith, low.below refl k (omega arith)), omega (arith, low.below refl (k + 1) (omega arith), ap E e))

  pub known_in : 16 * (x + 1) + y < 256
  known_in = omega (arith, known_low)

  pub known_more : {f : List ℕ} {s : Bool} → Known E f i k s → 0 < i → (r : Bool) → r ≡ both s (eqb (get_or f (16 * (x + 1) + y) 0) 0) → Known E f i (k + 1) r
  known_more {f} {s} known pos r is = record {
    pass = λ z A stood p. let (a, b) = both_out s (eqb (get_or f (16 * (x + 1) + y) 0) 0) (sym is ∙ z) in
        let w : weighed A E (i + k) y ≡ DONE = stood.again (x + 1) y (omega (arith, known_low)) (omega (arith, known_low))
        (eqb-true (get_or f (16 * (x + 1) + y) 0) 0 b) (i + k) (sym (peak_some E (i + k) x left (λ n. omega arith))) in
        let e : i + (k + 1) ≡ suc (i + k) = omega arith in
        rw e (passes_suc (i + k) (known.pass a A stood p) (ap (weighed A E (i + k)) (ap E (sym (add-one (i + k))) ∙ sym right) ∙ w));
  }
