-- Each number of a value, said in the table's words, either way: so no two of them are given at once. Assumes nothing.
use mathlib.Core.Path.{◌≡◌, refl, subst, ◌∙◌}
use mathlib.Core.Logic.{◌⊎◌, inl, inr}
use Prim.Native.Nat.{ℕ, zero, suc, ◌<◌}
use native.Mathlib.Omega.{arith}
use lib.Dec.{ltb}
use lib.ListN.{length}
use borrow.Author.Tests.{ltb-true, ltb-false}
use Rattle.words.specs.Numbers.{DONE, IMPOSSIBLE, HIDDEN, FULL}
use Rattle.words.specs.Stand.{possible, hidden, opens, weight, weighed}
use Rattle.words.proofs.Lists.{which, either, In, zero_or_more, in?}
use Rattle.arrays.specs.Steps.{Passes, Possible, Reason, first, room, shows, impossible, hides, full}
use Rattle.arrays.proofs.Rules.{possible_above, open_in, open_out, small_at, sound_small, passes_sound, opens_at_most, weight_open, weight_hidden, weight_not, weighed_first, weighed_second, weighed_more, weighed_fits, weighed_full}

pub above : (E : ℕ → ℕ) (n m : ℕ) → 0 < m → Possible E n m → (0 < n) × In m (possible E (E n))
unfolding Possible
above E n m p (inl z) = absurd (omega arith)
above E n m p (inr q) = q

reason_more : (A : ℕ) (E : ℕ → ℕ) (n m : ℕ) → 0 < m → Reason A E (suc n) m (weight E (E (suc n)) m)
unfolding Possible
reason_more A E n m p = either (in? m (possible E (E (suc n))))
    (λ i. either (which (hidden E (E (suc n)) m))
    (λ t. rw (weight_hidden E _ m i t) (hides p (inr (omega arith, i)) t))
    (λ f. rw (weight_open E _ m i f) (shows (omega arith) (open_in E _ m i f))))
    (λ d. rw (weight_not E _ m d) (impossible (λ q. d (above E (suc n) m p q).1)))

reason_of : (A : ℕ) (E : ℕ → ℕ) (n m : ℕ) → Reason A E n m (weighed A E n m)
reason_of A E zero m = either (zero_or_more m)
    (λ z. rw (weighed_first A E m z) (first refl z))
    (λ p. rw (weighed_second A E m p) (impossible (λ q. omega (arith, (above E 0 m p q).0))))
reason_of A E (suc n) m = either (zero_or_more m)
    (λ z. either (which (ltb (length (opens E (E (suc n)))) A))
    (λ t. let l = ltb-true _ _ t in rw (weighed_fits A E n m z l) (room (omega arith) z l))
    (λ f. let l = ltb-false _ _ f in rw (weighed_full A E n m z l) (full (omega arith) z l)))
    (λ p. rw (weighed_more A E n m p) (reason_more A E n m p))

-- a value has the number w for its reason, and has no other number
pub reason_in : (A : ℕ) (E : ℕ → ℕ) (n m w : ℕ) → weighed A E n m ≡ w → Reason A E n m w
reason_in A E n m w e = subst (λ (k : ℕ). Reason A E n m k) e (reason_of A E n m)

pub reason_only : (A : ℕ) (E : ℕ → ℕ) (n m w : ℕ) → Reason A E n m w → weighed A E n m ≡ w
unfolding Possible
reason_only A E zero m w (first z e) = weighed_first A E m e
reason_only A E zero m w (room p z l) = absurd (omega arith)
reason_only A E zero m w (shows p i) = absurd (omega arith)
reason_only A E zero m w (impossible d) = weighed_second A E m (either (zero_or_more m) (λ z. absurd (d (inl z))) (λ p. p))
reason_only A E zero m w (hides p q t) = absurd (omega (arith, (above E 0 m p q).0))
reason_only A E zero m w (full p z l) = absurd (omega arith)
reason_only A E (suc n) m w (first z e) = absurd (omega arith)
reason_only A E (suc n) m w (room p z l) = weighed_fits A E n m z l
reason_only A E (suc n) m w (shows p i) = let (j, f) = open_out E _ m i in weighed_more A E n m (possible_above E _ m j) ∙ weight_open E _ m j f
reason_only A E (suc n) m w (impossible d) =
    weighed_more A E n m (either (zero_or_more m) (λ z. absurd (d (inl z))) (λ p. p)) ∙ weight_not E _ m (λ i. d (inr (omega arith, i)))
reason_only A E (suc n) m w (hides p q t) = weighed_more A E n m p ∙ weight_hidden E _ m (above E (suc n) m p q).1 t
reason_only A E (suc n) m w (full p z l) = weighed_full A E n m z l

-- a number that is not 0 is 5, 6 or 7; with 7 exactly A values are open
pub reason_refused : {A : ℕ} {E : ℕ → ℕ} {n m w : ℕ} → Reason A E n m w → (w ≡ DONE → ⊥) → (w ≡ IMPOSSIBLE) ⊎ ((w ≡ HIDDEN) ⊎ (w ≡ FULL))
reason_refused (first z e) d = absurd (d refl)
reason_refused (room p z l) d = absurd (d refl)
reason_refused (shows p i) d = absurd (d refl)
reason_refused (impossible n) d = inl refl
reason_refused (hides p q t) d = inr (inl refl)
reason_refused (full p z l) d = inr (inr refl)

pub reason_full : {A : ℕ} {E : ℕ → ℕ} {n m w : ℕ} → 0 < A → Passes A E n → Reason A E n m w → w ≡ FULL → (m ≡ 0) × (length (opens E (E n)) ≡ A)
reason_full pos s (first z e) f = absurd (omega arith)
reason_full pos s (room p z l) f = absurd (omega arith)
reason_full pos s (shows p i) f = absurd (omega arith)
reason_full pos s (impossible n) f = absurd (omega arith)
reason_full pos s (hides p q t) f = absurd (omega arith)
reason_full {A} {E} {n} pos s (full p z l) f = (z, omega (arith, opens_at_most pos s (E n) (small_at (sound_small n (passes_sound s)) n p (omega arith))))
