-- What the rules for the first array and the next answer meets the relations `Starts` and `Steps`, on every input. Assumes nothing.
use mathlib.Core.Path.{◌≡◌, refl, sym, ap, subst, ◌∙◌}
use mathlib.Core.List.{List, [], ◌∷◌}
use Prim.Native.Nat.{ℕ}
use native.Mathlib.Omega.{arith}
use lib.Dec.{leb}
use lib.ListN.{length}
use borrow.Author.Tests.{le-leb, lt-leb}
use Rattle.words.specs.Lists.{run}
use Rattle.words.specs.Numbers.{DONE, LAST, unless, refusal, sizes, lent}
use Rattle.words.specs.Stand.{Stands, verdict}
use Rattle.words.specs.Listing.{standing, listing, StandsAt, First, Next, head, behind}
use Rattle.words.specs.Outcomes.{kept, answered, first_rule, next_rule, Starts, Steps, refuses, breaks, starts, ends, steps}
use Rattle.words.proofs.Lists.{either, same?}
use Rattle.words.proofs.Checks.{unless_good, unless_not, refusal_stop, refusal_on, refusal_last, sizes_clear, lent_clear, lent_done, kept_old, kept_new}
use Rattle.arrays.proofs.Places.{verdict_done}
use Rattle.arrays.proofs.Theorem.{stands_verdict, verdict_stands}
use Rattle.listing.specs.Sets.{Lists}
use Rattle.listing.proofs.Standing.{head_first, behind_next, behind_last}
use Rattle.listing.proofs.Peak.{stands_lists, run_stands}

abbrev number : ℕ × ℕ → ℕ
number r = r.0

pub first_meets : (A n : ℕ) (old : List ℕ) → let r = first_rule A n old in Starts A n old (r.0, r.1) r.2
unfolding first_rule answered First
first_meets A n old = either (same? R.0 DONE)
    (λ z. let pos = (lent_clear A n (length old) z).0 in
    starts z (subst (λ (y : List ℕ). First A n y) (sym (kept_new R f old z)) (head_first A n L (stands_lists A pos n) (run 0 n) (run_stands A pos n))) (lent_done A n (length old) z))
    (λ d. refuses d refl (kept_old R f old d))
  where
    R : ℕ × ℕ
    R = lent A n (length old)

    L : List (List ℕ)
    L = listing (standing A) n []

    f : List ℕ
    f = head L

pub next_meets : (A : ℕ) (e : List ℕ) → let r = next_rule A e in Steps A e (r.0, r.1) r.2
unfolding next_rule answered Next head
next_meets A e = either (same? S.0 DONE) (λ c. either (same? J.0 DONE) (λ z. goes c z l refl) (falls c)) stops
  where
    S : ℕ × ℕ
    S = sizes A (length e)

    J : ℕ × ℕ
    J = verdict A e

    l : List (List ℕ)
    l = behind e (listing (standing A) (length e) [])

    U : ℕ × ℕ
    U = unless (leb 1 (length l)) LAST

    R : ℕ × ℕ
    R = refusal (S ∷ J ∷ U ∷ [])

    stops : (S.0 ≡ DONE → ⊥) → Steps A e R (kept R (head l) e)
    stops d =
        let q : S ≡ R = refusal_stop S J S (U ∷ []) refl d in
        let n : R.0 ≡ DONE → ⊥ = λ z. d (ap number q ∙ z) in
        refuses n (sym q) (kept_old R (head l) e n)

    falls : S.0 ≡ DONE → (J.0 ≡ DONE → ⊥) → Steps A e R (kept R (head l) e)
    falls c d =
        let q : J ≡ R = refusal_on S J S J (U ∷ []) refl c (refusal_stop J U J [] refl d) in
        breaks c (λ s. d (ap number (stands_verdict s))) (sym q) (kept_old R (head l) e (λ z. d (ap number q ∙ z)))

    stands : S.0 ≡ DONE → J.0 ≡ DONE → StandsAt A (length e) e
    stands c z = record { stands = verdict_stands (sizes_clear A (length e) c).0 e (verdict_done A e J.0 J.1 refl z); long = refl }

    lists : S.0 ≡ DONE → Lists (Stands A) (length e) (listing (standing A) (length e) [])
    lists c = stands_lists A (sizes_clear A (length e) c).0 (length e)

    last : S.0 ≡ DONE → J.0 ≡ DONE → U ≡ R
    last c z = refusal_on S J S U (U ∷ []) refl c (refusal_last J U J U refl z refl)

    goes : S.0 ≡ DONE → J.0 ≡ DONE → (B : List (List ℕ)) → l ≡ B → Steps A e R (kept R (head l) e)
    goes c z [] b =
        let r : (LAST, 0) ≡ R = unless_not (leb 1 (length l)) LAST (lt-leb 1 (length l) (omega (arith, ap length b))) ∙ last c z in
        ends c (stands c z).stands (behind_last A (length e) _ (lists c) e (stands c z) b) (sym r) (kept_old R (head l) e (λ y. omega (arith, ap number r)))
    goes c z (f ∷ M) b =
        let r : (DONE, 0) ≡ R = unless_good (leb 1 (length l)) LAST (le-leb 1 (length l) (omega (arith, ap length b))) ∙ last c z in
        let k : kept R (head l) e ≡ f = kept_new R (head l) e (sym (ap number r)) ∙ ap head b in
        steps c (stands c z).stands (subst (λ (y : List ℕ). Next A e y) (sym k) (behind_next A (length e) _ (lists c) e (stands c z) f M b)) (sym r)
