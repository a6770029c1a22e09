-- Going on over the places of an array, one or a run of them. Assumes nothing.
use mathlib.Core.Path.{◌≡◌, refl, sym, ap, ◌∙◌}
use mathlib.Core.Bool.{Bool, true}
use mathlib.Core.List.{List}
use Rattle.std.specs.Prelude.{Ok}
use Prim.Native.Nat.{ℕ, zero, suc, ◌+◌, ◌-◌, ◌≤◌, ◌<◌}
use native.Mathlib.Omega.{arith}
use native.Mathlib.Numerals.{add-one}
use lib.Dec.{ltb, eqb}
use lib.ListN.{get_or}
use borrow.Author.Tests.{ltb-true, ltb-false, eqb-true}
use Rattle.words.specs.Lists.{both, at}
use Rattle.words.specs.Stand.{weighed}
use Rattle.words.proofs.Lists.{which, either, same?, both_out}
use Rattle.arrays.specs.Steps.{Passes, peak}
use Rattle.judging.specs.Judging.{Climbs, Level, Passed}
use Rattle.arrays.proofs.Rules.{passes_suc, peak_low, peak_stands}

-- the echoes of some places behind the first i, looked at together
pub level_more : (t : List ℕ) {i k top : ℕ} {s : Bool} → Level (at t) i k top s → Level (at t) i (k + 1) top (both s (eqb (get_or t (i + k) 0) (top + k)))
unfolding at
level_more t {i} {k} {top} {s} l = record {
  are = λ z j h. let (a, b) = both_out s (eqb (get_or t (i + k) 0) (top + k)) z in either (same? j k)
      (λ y. let u : i + j ≡ i + k = omega arith in omega (arith, ap (λ (p : ℕ). get_or t p 0) u, eqb-true (get_or t (i + k) 0) (top + k) b))
      (λ d. l.are a j (omega arith));
}

-- in a run of places each echo is one more than the echo before: the last is as far above the first as the place is
climbs_high : {E : ℕ → ℕ} {i r : ℕ} → Climbs E i r → (k : ℕ) → i + k ≤ r → E (i + k) ≡ E i + k
climbs_high {E} {i} s zero h = let z : i + 0 ≡ i = omega arith in omega (arith, ap E z)
climbs_high {E} {i} s (suc k) h = let z : i + suc k ≡ suc (i + k) = omega arith in
    omega (arith, ap E z, s.more (i + k) (omega arith) (omega arith), climbs_high s k (omega arith))

pub climbs_next : (t : List ℕ) {i j : ℕ} → Climbs (at t) i j → (peak : ℕ) → peak ≡ at t i + 1 → i ≤ j → peak + (j - i) ≡ at t j + 1
climbs_next t {i} {j} s peak e l = let z : i + (j - i) ≡ j = omega arith in omega (arith, ap (at t) z, climbs_high s (j - i) (omega arith))

pub climbs_join : {E : ℕ → ℕ} {i j r : ℕ} → Climbs E i j → Climbs E j r → Climbs E i r
climbs_join {E} {i} {j} s u = record { more = λ k l h. either (which (ltb k j)) (λ t. s.more k l (ltb-true k j t)) (λ f. u.more k (ltb-false k j f) h) }

-- as many places more as were looked at together
pub climbs_more : (t : List ℕ) {i j : ℕ} → Climbs (at t) i j → (top c : ℕ) → top ≡ at t i + 1 → i ≤ j → Level (at t) j c (top + (j - i)) true → Climbs (at t) i (j + c)
climbs_more t {i} {j} s top c e l level = climbs_join s (record {
  more = λ k f h. let a : suc (j + (k - j)) ≡ suc k = omega arith in let b : (k ≡ j → ⊥) → suc (j + (k - j - 1)) ≡ k = λ d. omega arith in
      either (same? k j)
      (λ y. omega (arith, ap (at t) a, ap (at t) y, level.are refl (k - j) (omega arith), climbs_next t s top e l))
      (λ d. omega (arith, ap (at t) a, ap (at t) (b d), level.are refl (k - j) (omega arith), level.are refl (k - j - 1) (omega arith)));
})

-- over such a run every place passes, since the greatest value always stands
peak_passes : {A : ℕ} {E : ℕ → ℕ} (i : ℕ) → Passes A E i → E (suc i) ≡ peak E i → Passes A E (suc i)
peak_passes {A} {E} i p e = passes_suc i p (ap (weighed A E i) e ∙ peak_stands i p)

climbs_passes : {A : ℕ} {E : ℕ → ℕ} {i r : ℕ} → Climbs E i r → 0 < i → Passes A E i → (j : ℕ) → i ≤ j → j ≤ r → Passes A E j
unfolding peak
climbs_passes {A} {E} {i} s pos p zero l h = absurd (omega arith)
climbs_passes {A} {E} {i} s pos p (suc zero) l h = let e : i ≡ 1 = omega arith in rw (← e) p
climbs_passes {A} {E} {i} s pos p (suc (suc j)) l h = either (same? i (suc (suc j)))
    (λ e. rw (← e) p)
    (λ d. peak_passes (suc j) (climbs_passes s pos p (suc j) (omega arith) (omega arith)) (s.more (suc j) (omega arith) (omega arith)))

module _ {A : ℕ} {E : ℕ → ℕ} {i : ℕ} (passes : Passes A E i) where
  pub passing_low : (m p : ℕ) → p ≡ peak E i → m ≡ p → m + 1 ≤ i + 1
  passing_low m p e z = omega (arith, peak_low i passes)

  -- a run of places
  pub passed_run : (n m p r : ℕ) → m ≡ E (i + 1) → p ≡ peak E i → m ≡ p → i + 1 ≤ r → r ≤ n → Climbs E (i + 1) r → Passed A E i n (Ok r)
  passed_run n m p r e top z l h s = (
    omega arith,
    h,
    climbs_passes s (omega arith) (rw add-one (peak_passes i passes (ap E (sym (add-one i)) ∙ sym e ∙ z ∙ top))) r l (omega arith),
  )
