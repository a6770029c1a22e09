-- What the rule for rebuilding answers meets the relation `Rebuilds`, on every input. Assumes nothing.
use mathlib.Core.Path.{◌≡◌, refl, sym, ap, subst, ◌∙◌}
use mathlib.Core.List.{List, [], ◌∷◌}
use Prim.Native.Nat.{ℕ}
use lib.ListN.{length}
use Rattle.words.specs.Lists.{at}
use Rattle.words.specs.Numbers.{DONE, refusal, lent}
use Rattle.words.specs.Stand.{verdict}
use Rattle.words.specs.Least.{LeastRow, rebuilt}
use Rattle.words.specs.Outcomes.{kept, answered, rebuild_rule, Rebuilds, refuses, breaks, rebuilds}
use Rattle.words.proofs.Lists.{either, same?}
use Rattle.words.proofs.Checks.{refusal_stop, refusal_last, lent_clear, kept_old, kept_new}
use Rattle.arrays.proofs.Places.{verdict_done}
use Rattle.arrays.proofs.Theorem.{stands_verdict, verdict_stands, rebuilt_least}

abbrev number : ℕ × ℕ → ℕ
number r = r.0

pub rebuild_meets : (A : ℕ) (e old : List ℕ) → let r = rebuild_rule A e old in Rebuilds A e old (r.0, r.1) r.2
unfolding rebuild_rule answered LeastRow
rebuild_meets A e old = either (same? L.0 DONE) (λ c. either (same? J.0 DONE) (stands c) (falls c)) stops
  where
    L : ℕ × ℕ
    L = lent A (length e) (length old)

    J : ℕ × ℕ
    J = verdict A e

    R : ℕ × ℕ
    R = refusal (L ∷ J ∷ [])

    x : List ℕ
    x = rebuilt (at e) (length e)

    stops : (L.0 ≡ DONE → ⊥) → Rebuilds A e old R (kept R x old)
    stops d =
        let q : L ≡ R = refusal_stop L J L [] refl d in
        let n : R.0 ≡ DONE → ⊥ = λ z. d (ap number q ∙ z) in
        refuses n (sym q) (kept_old R x old n)

    falls : L.0 ≡ DONE → (J.0 ≡ DONE → ⊥) → Rebuilds A e old R (kept R x old)
    falls c d = let q : J ≡ R = refusal_last L J L J refl c refl in breaks c (λ s. d (ap number (stands_verdict s))) (sym q) (kept_old R x old (λ z. d (ap number q ∙ z)))

    stands : L.0 ≡ DONE → J.0 ≡ DONE → Rebuilds A e old R (kept R x old)
    stands c z =
        let q : J ≡ R = refusal_last L J L J refl c refl in
        let v = verdict_done A e J.0 J.1 refl z in
        let pos = (lent_clear A (length e) (length old) c).0 in
        rebuilds c (subst (λ (y : List ℕ). LeastRow A e y) (sym (kept_new R x old (ap number (sym q) ∙ z))) (rebuilt_least pos (verdict_stands pos e v))) (sym q ∙ v)
