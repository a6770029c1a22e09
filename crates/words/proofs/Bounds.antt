-- Numbers and places are small: no check gives a number above its own, and no answer names a place above the limit. Assumes nothing.
use mathlib.Core.Path.{◌≡◌, ap}
use mathlib.Core.Bool.{Bool}
use mathlib.Core.List.{List, [], ◌∷◌}
use Prim.Native.Nat.{ℕ, zero, suc, ◌≤◌}
use native.Mathlib.Omega.{arith}
use lib.Dec.{ltb, leb, eqb}
use lib.ListN.{length}
use borrow.Author.Tests.{eq-eqb, ne_eqb}
use Rattle.words.specs.Lists.{both, any, first_of, places, at}
use Rattle.words.specs.Rows.{card, echo, echoes}
use Rattle.words.specs.Numbers.{DONE, ALPHABET, LONG, MISMATCH, CARD, FULL, LAST, DIFFERS, letters, limit, foreign, outside, differs, differing, named, unless, alphabet, long, matching, cards, refusal, sizes, lent, rowed, paired}
use Rattle.words.specs.Stand.{possible, hidden, opens, weight, weighed, number_at, fails, first_bad, verdict}
use Rattle.words.specs.Outcomes.{guess_outcome, Rebuilds, Starts, Steps, refuses, breaks, rebuilds, starts, ends, steps}
use Rattle.words.proofs.Lists.{which, either, same?}
use Rattle.words.proofs.Places.{first_places, places_length}
use Rattle.words.proofs.Checks.{sizes_clear, lent_clear, lengths_clear, paired_clear}

-- r has a number up to m, and its place is within the limit
pub record Bounded (m : ℕ) (r : ℕ × ℕ) : Type 0 where
  pub number : r.0 ≤ m
  pub place : r.1 ≤ limit

pub bounded_more : {m : ℕ} {r : ℕ × ℕ} (k : ℕ) → m ≤ k → Bounded m r → Bounded k r
bounded_more k h b = record { number = omega (arith, b.number); place = b.place }

bounded_is : {m : ℕ} {r : ℕ × ℕ} (s : ℕ × ℕ) → r ≡ s → Bounded m s → Bounded m r
bounded_is s e b = record { number = omega (arith, b.number, ap (λ (t : ℕ × ℕ). t.0) e); place = omega (arith, b.place, ap (λ (t : ℕ × ℕ). t.1) e) }

-- one check, and the first of several that is not done
pub unless_bounded : (t : Bool) (n : ℕ) → Bounded n (unless t n)
unfolding unless
unless_bounded t n = either (which t) (λ y. rw y (record { number = omega arith; place = omega arith })) (λ f. rw f (record { number = omega arith; place = omega arith }))

named_bounded : (n p : ℕ) → p ≤ limit → Bounded n (named n p)
unfolding named
named_bounded n p h = either (which (eqb p 0)) (λ y. rw y (record { number = omega arith; place = omega arith })) (λ f. rw f (record { number = omega arith; place = h }))

pub refusal_bounded : (c d : ℕ × ℕ) (l : List (ℕ × ℕ)) (m : ℕ) → Bounded m c → (c.0 ≡ DONE → Bounded m (refusal (d ∷ l))) → Bounded m (refusal (c ∷ d ∷ l))
unfolding refusal
refusal_bounded c d l m h k = either (same? c.0 DONE) (λ z. rw (eq-eqb c.0 DONE z) (k z)) (λ n. rw (ne_eqb c.0 DONE n) h)

-- a first place that passes is one of the places
first_low : (p : ℕ → Bool) (n : ℕ) → first_of p (places n) ≤ n
first_low p n = either (first_places p n) (λ m. omega (arith, m.place)) (λ h. omega (arith, h.place, h.within))

pub sizes_bounded : (A n : ℕ) → Bounded LONG (sizes A n)
unfolding alphabet long refusal
sizes_bounded A n = refusal_bounded (alphabet A) (long limit n) [] LONG (bounded_more LONG (omega arith) (unless_bounded (both (leb 1 A) (leb A letters)) ALPHABET)) (λ z. unless_bounded (leb n limit) LONG)

pub lent_bounded : (A n m : ℕ) → Bounded MISMATCH (lent A n m)
unfolding matching refusal
lent_bounded A n m = refusal_bounded (sizes A n) (matching n m) [] MISMATCH (bounded_more MISMATCH (omega arith) (sizes_bounded A n)) (λ z. unless_bounded (eqb m n) MISMATCH)

cards_bounded : (A : ℕ) (x : List ℕ) → length x ≤ limit → Bounded CARD (cards A x)
unfolding cards outside
cards_bounded A x h = named_bounded CARD (outside A x) (omega (arith, first_low (foreign A x) (length x)))

pub rowed_bounded : (A : ℕ) (x : List ℕ) → Bounded CARD (rowed A x)
unfolding refusal
rowed_bounded A x = refusal_bounded (sizes A (length x)) (cards A x) [] CARD (bounded_more CARD (omega arith) (sizes_bounded A (length x)))
    (λ z. cards_bounded A x (sizes_clear A (length x) z).2)

pub lent_cards_bounded : (A : ℕ) (x : List ℕ) (m : ℕ) → Bounded CARD (refusal (lent A (length x) m ∷ cards A x ∷ []))
unfolding refusal
lent_cards_bounded A x m = refusal_bounded (lent A (length x) m) (cards A x) [] CARD (bounded_more CARD (omega arith) (lent_bounded A (length x) m))
    (λ z. cards_bounded A x (lent_clear A (length x) m z).2)

pub paired_bounded : (A : ℕ) (x g : List ℕ) → Bounded CARD (paired A x g)
unfolding refusal long matching
paired_bounded A x g = refusal_bounded lengths (cards A x) (cards A g ∷ []) CARD
    (refusal_bounded (sizes A (length x)) (long limit (length g)) (matching (length x) (length g) ∷ []) CARD (bounded_more CARD (omega arith) (sizes_bounded A (length x)))
    (λ z. refusal_bounded (long limit (length g)) (matching (length x) (length g)) [] CARD
    (bounded_more CARD (omega arith) (unless_bounded (leb (length g) limit) LONG)) (λ y. bounded_more CARD (omega arith) (unless_bounded (eqb (length g) (length x)) MISMATCH))))
    (λ z. let (h, k, e) = lengths_clear A x g z in refusal_bounded (cards A x) (cards A g) [] CARD (cards_bounded A x h) (λ y. cards_bounded A g k))
  where
    lengths : ℕ × ℕ
    lengths = refusal (sizes A (length x) ∷ long limit (length g) ∷ matching (length x) (length g) ∷ [])

-- a verdict
weight_low : (E : ℕ → ℕ) (b m : ℕ) → weight E b m ≤ FULL
unfolding weight
weight_low E b m = either (which (any (eqb m) (possible E b)))
    (λ t. rw t (either (which (hidden E b m)) (λ u. rw u (omega arith)) (λ u. rw u (omega arith))))
    (λ f. rw f (omega arith))

weighed_low : (A : ℕ) (E : ℕ → ℕ) (n m : ℕ) → weighed A E n m ≤ FULL
unfolding weighed
weighed_low A E zero zero = omega arith
weighed_low A E zero (suc m) = omega arith
weighed_low A E (suc n) zero = either (which (ltb (length (opens E (E (suc n)))) A)) (λ t. rw t (omega arith)) (λ f. rw f (omega arith))
weighed_low A E (suc n) (suc m) = weight_low E (E (suc n)) (suc m)

number_low : (A : ℕ) (E : ℕ → ℕ) (i : ℕ) → number_at A E i ≤ FULL
unfolding number_at
number_low A E zero = omega arith
number_low A E (suc i) = weighed_low A E i (E (suc i))

pub verdict_low : (A : ℕ) (e : List ℕ) → (verdict A e).0 ≤ FULL
unfolding verdict
verdict_low A e = number_low A (at e) (first_bad A e)

verdict_place : (A : ℕ) (e : List ℕ) → (verdict A e).1 ≤ length e
unfolding verdict first_bad
verdict_place A e = first_low (fails A (at e)) (length e)

pub verdict_bounded : (A : ℕ) (e : List ℕ) → length e ≤ limit → Bounded FULL (verdict A e)
verdict_bounded A e h = record { number = verdict_low A e; place = omega (arith, verdict_place A e) }

-- the answers of the entries that have no other law
pub guess_bounded : (A : ℕ) (x g : List ℕ) → Bounded DIFFERS (guess_outcome A x g)
unfolding guess_outcome differing echoes refusal
guess_bounded A x g = refusal_bounded (paired A x g) (named DIFFERS (differing (echoes x) (echoes g))) [] DIFFERS
    (bounded_more DIFFERS (omega arith) (paired_bounded A x g))
    (λ z. named_bounded DIFFERS (differing (echoes x) (echoes g))
    (omega (arith, first_low (differs (echoes x) (echoes g)) (length (echoes x)), places_length (echo (card x)) (length x), (paired_clear A x g z).0)))

pub rebuilds_bounded : {A : ℕ} {e old new : List ℕ} {r : ℕ × ℕ} → Rebuilds A e old r new → Bounded FULL r
rebuilds_bounded {A} {e} {old} (refuses d q k) = bounded_is _ q (bounded_more FULL (omega arith) (lent_bounded A (length e) (length old)))
rebuilds_bounded {A} {e} {old} (breaks c n q k) = bounded_is _ q (verdict_bounded A e (lent_clear A (length e) (length old) c).2)
rebuilds_bounded (rebuilds c l q) = bounded_is _ q (record { number = omega arith; place = omega arith })

pub starts_bounded : {A n : ℕ} {old new : List ℕ} {r : ℕ × ℕ} → Starts A n old r new → Bounded MISMATCH r
starts_bounded {A} {n} {old} (refuses d q k) = bounded_is _ q (lent_bounded A n (length old))
starts_bounded (starts c l q) = bounded_is _ q (record { number = omega arith; place = omega arith })

pub steps_bounded : {A : ℕ} {e new : List ℕ} {r : ℕ × ℕ} → Steps A e r new → Bounded LAST r
steps_bounded {A} {e} (refuses d q k) = bounded_is _ q (bounded_more LAST (omega arith) (sizes_bounded A (length e)))
steps_bounded {A} {e} (breaks c n q k) = bounded_is _ q (bounded_more LAST (omega arith) (verdict_bounded A e (sizes_clear A (length e) c).2))
steps_bounded (ends c s n q k) = bounded_is _ q (record { number = omega arith; place = omega arith })
steps_bounded (steps c s n q) = bounded_is _ q (record { number = omega arith; place = omega arith })
