-- The step rules, without rows: what is possible, hidden and open along a chain. Assumes nothing.
use mathlib.Core.Path.{◌≡◌, refl, sym, ap, subst, ◌∙◌}
use mathlib.Core.Bool.{true, false, not}
use mathlib.Core.Logic.{◌⊎◌, inl, inr}
use mathlib.Core.List.{List, [], ◌∷◌}
use Prim.Native.Nat.{ℕ, zero, suc, ◌+◌, ◌≤◌, ◌<◌}
use native.Mathlib.Omega.{arith}
use native.Mathlib.Numerals.{add-one}
use lib.Dec.{ltb, eqb}
use lib.ListN.{length}
use borrow.Author.Tests.{ltb-true, ltb-false, lt-ltb, le-ltb, eq-eqb, ne_eqb, not-true}
use Rattle.words.specs.Lists.{each, any, keep}
use Rattle.words.specs.Rows.{chain, Small}
use Rattle.words.specs.Numbers.{DONE, IMPOSSIBLE, HIDDEN, FULL}
use Rattle.words.specs.Stand.{possible, hidden, opens, weight, weighed}
use Rattle.words.proofs.Lists.{which, either, same?, both_true, both_left, both_right, In, here, there, In-nil, In-cons, In-each, In-each-out, any_in, any_none, keep_in, keep_out, zero_or_more, in?, Falls, keep_same, keep_less}
use Rattle.words.proofs.Rows.{down_ind, chain_zero, chain_suc}
use Rattle.arrays.specs.Steps.{Passes, Sound, peak}

-- c + 1 is possible exactly for the c on the chain
pub possible_in : (E : ℕ → ℕ) (b c : ℕ) → In c (chain E b) → In (suc c) (possible E b)
unfolding possible
possible_in E b c i = In-each suc i

pub possible_out : (E : ℕ → ℕ) (b c : ℕ) → In (suc c) (possible E b) → In c (chain E b)
unfolding possible
possible_out E b c i = let (k, j, e) = In-each-out suc (chain E b) (suc c) i in subst (λ (m : ℕ). In m (chain E b)) (omega arith) j

pub possible_above : (E : ℕ → ℕ) (b m : ℕ) → In m (possible E b) → 0 < m
unfolding possible
possible_above E b m i = let (k, j, e) = In-each-out suc (chain E b) m i in omega arith

-- the two equations of what is possible: all else follows from them
pub possible_zero : (E : ℕ → ℕ) → possible E 0 ≡ 1 ∷ []
unfolding possible each
possible_zero E = rw (chain_zero E)

module _ {E : ℕ → ℕ} {n : ℕ} (small : Small E n) where
  pub small_at : (i : ℕ) → 0 < i → i ≤ n → E i < i
  small_at zero p h = absurd (omega arith)
  small_at (suc i) p h = omega (arith, small.below i h)

  pub possible_suc : (b : ℕ) → b < n → possible E (suc b) ≡ suc (suc b) ∷ possible E (E (suc b))
  unfolding possible each
  possible_suc b h = rw (chain_suc small b h)

  -- what is possible lies from 1 to b + 1
  pub possible_range : (b : ℕ) → b ≤ n → (m : ℕ) → In m (possible E b) → (0 < m) × (m ≤ suc b)
  possible_range = down_ind small (λ b. (m : ℕ) → In m (possible E b) → (0 < m) × (m ≤ suc b))
      (λ m i. either (In-cons (rw (possible_zero E) at i)) (λ e. omega arith) (λ j. absurd (In-nil j)))
      (λ b h rest m i. either (In-cons (rw (possible_suc b h) at i)) (λ e. omega arith) (λ j. omega (arith, rest m j, small.below b h)))

  pub possible_top : (b : ℕ) → b ≤ n → In (suc b) (possible E b)
  possible_top = down_ind small (λ b. In (suc b) (possible E b)) (rw (possible_zero E) here) (λ b h rest. rw (possible_suc b h) here)

  pub possible_falling : (b : ℕ) → b ≤ n → Falls (possible E b)
  unfolding Falls
  possible_falling = down_ind small (λ b. Falls (possible E b))
      (rw (possible_zero E) ((λ m i. absurd (In-nil i)), tt))
      (λ b h rest. let l = small.below b h in rw (possible_suc b h) ((λ m i. omega (arith, possible_range (E (suc b)) (omega arith) m i)), rest))

  -- what is possible on a part of the chain is possible on the whole
  pub possible_part : (c b : ℕ) → b ≤ n → In (suc c) (possible E b) → (m : ℕ) → In m (possible E c) → In m (possible E b)
  possible_part c = down_ind small (λ b. In (suc c) (possible E b) → (m : ℕ) → In m (possible E c) → In m (possible E b))
      (λ i m j. either (In-cons (rw (possible_zero E) at i)) (λ e. subst (λ (k : ℕ). In m (possible E k)) (omega arith) j) (λ k. absurd (In-nil k)))
      (λ b h rest i m j. either (In-cons (rw (possible_suc b h) at i))
      (λ e. subst (λ (k : ℕ). In m (possible E k)) (omega arith) j)
      (λ k. rw (possible_suc b h) (there (rest k m j))))

  -- and what is possible and not above c is possible behind c
  pub possible_below : (c b : ℕ) → b ≤ n → In (suc c) (possible E b) → (m : ℕ) → In m (possible E b) → m ≤ c → In m (possible E (E c))
  possible_below c = down_ind small (λ b. In (suc c) (possible E b) → (m : ℕ) → In m (possible E b) → m ≤ c → In m (possible E (E c)))
      (λ i m j l. absurd (omega (arith, possible_range 0 (omega arith) (suc c) i, possible_range 0 (omega arith) m j)))
      (λ b h rest i m j l. let s = small.below b h in either (In-cons (rw (possible_suc b h) at i))
      (λ e. either (In-cons (rw (possible_suc b h) at j)) (λ z. absurd (omega arith)) (λ k. subst (λ (d : ℕ). In m (possible E (E d))) (omega arith) k))
      (λ k. either (In-cons (rw (possible_suc b h) at j))
      (λ z. absurd (omega (arith, possible_range (E (suc b)) (omega arith) (suc c) k)))
      (λ q. rest k m q l)))

-- what `weight` says, either way
module _ (E : ℕ → ℕ) (b m : ℕ) where
  pub weight_open : In m (possible E b) → hidden E b m ≡ false → weight E b m ≡ DONE
  unfolding weight
  weight_open i h = rw (any_in (eqb m) i (eq-eqb m m refl), h)

  pub weight_hidden : In m (possible E b) → hidden E b m ≡ true → weight E b m ≡ HIDDEN
  unfolding weight
  weight_hidden i h = rw (any_in (eqb m) i (eq-eqb m m refl), h)

  pub weight_not : (In m (possible E b) → ⊥) → weight E b m ≡ IMPOSSIBLE
  unfolding weight
  weight_not d = rw (any_none (eqb m) (possible E b) (λ k i. ne_eqb m k (λ e. d (subst (λ (x : ℕ). In x (possible E b)) (sym e) i))))

  pub weight_done : weight E b m ≡ DONE → In m (possible E b) × (hidden E b m ≡ false)
  weight_done w = either (in? m (possible E b))
      (λ i. either (which (hidden E b m)) (λ t. absurd (omega (arith, weight_hidden i t))) (λ f. (i, f)))
      (λ d. absurd (omega (arith, weight_not d)))

-- the open values are the possible ones that are not hidden
pub open_in : (E : ℕ → ℕ) (b m : ℕ) → In m (possible E b) → hidden E b m ≡ false → In m (opens E b)
unfolding opens
open_in E b m i u = keep_in (λ k. not (hidden E b k)) i (ap not u)

pub open_out : (E : ℕ → ℕ) (b m : ℕ) → In m (opens E b) → In m (possible E b) × (hidden E b m ≡ false)
unfolding opens
open_out E b m i = let (j, t) = keep_out (λ k. not (hidden E b k)) (possible E b) m i in (j, not-true _ t)

-- what `weighed` says: at the first place, and behind it
module _ (A : ℕ) (E : ℕ → ℕ) where
  pub weighed_first : (m : ℕ) → m ≡ 0 → weighed A E 0 m ≡ DONE
  unfolding weighed
  weighed_first m e = rw e

  pub weighed_second : (m : ℕ) → 0 < m → weighed A E 0 m ≡ IMPOSSIBLE
  unfolding weighed
  weighed_second zero p = absurd (omega arith)
  weighed_second (suc m) p = refl

  pub weighed_more : (n m : ℕ) → 0 < m → weighed A E (suc n) m ≡ weight E (E (suc n)) m
  unfolding weighed
  weighed_more n zero p = absurd (omega arith)
  weighed_more n (suc m) p = refl

  pub weighed_fits : (n m : ℕ) → m ≡ 0 → length (opens E (E (suc n))) < A → weighed A E (suc n) m ≡ DONE
  unfolding weighed
  weighed_fits n m e l = rw (e, lt-ltb _ _ l)

  pub weighed_full : (n m : ℕ) → m ≡ 0 → A ≤ length (opens E (E (suc n))) → weighed A E (suc n) m ≡ FULL
  unfolding weighed
  weighed_full n m e l = rw (e, le-ltb _ _ l)

  pub weighed_room : (n m : ℕ) → weighed A E (suc n) m ≡ DONE → m ≡ 0 → length (opens E (E (suc n))) < A
  weighed_room n m w e = either (which (ltb (length (opens E (E (suc n)))) A))
      (λ t. ltb-true _ _ t)
      (λ f. absurd (omega (arith, weighed_full n m e (ltb-false _ _ f))))

  -- a value that stands is zero or open
  pub weighed_done : (n m : ℕ) → weighed A E n m ≡ DONE → (m ≡ 0) ⊎ ((0 < n) × In m (possible E (E n)) × (hidden E (E n) m ≡ false))
  weighed_done zero m w = either (zero_or_more m) (λ z. inl z) (λ p. absurd (omega (arith, weighed_second m p)))
  weighed_done (suc n) m w = either (zero_or_more m)
      (λ z. inl z)
      (λ p. let (i, f) = weight_done E (E (suc n)) m (sym (weighed_more n m p) ∙ w) in inr (omega arith, i, f))

-- places that pass
pub passes_sound : {A : ℕ} {E : ℕ → ℕ} {n : ℕ} → Passes A E n → Sound E n
passes_sound {A} p = record { over = A; passes = p }

pub passes_part : {A : ℕ} {E : ℕ → ℕ} {n : ℕ} (k : ℕ) → k ≤ n → Passes A E n → Passes A E k
passes_part k l p = record { step = λ i h. p.step i (omega arith) }

pub passes_none : (A : ℕ) (E : ℕ → ℕ) → Passes A E 0
passes_none A E = record { step = λ i h. absurd (omega arith) }

pub passes_suc : {A : ℕ} {E : ℕ → ℕ} (n : ℕ) → Passes A E n → weighed A E n (E (suc n)) ≡ DONE → Passes A E (suc n)
passes_suc {A} {E} n p w = record {
  step = λ k h. either (same? k n) (λ e. subst (λ (j : ℕ). weighed A E j (E (suc j)) ≡ DONE) (sym e) w) (λ d. p.step k (omega arith));
}

pub sound_part : {E : ℕ → ℕ} {n : ℕ} (k : ℕ) → k ≤ n → Sound E n → Sound E k
sound_part k l s = record { over = s.over; passes = passes_part k l s.passes }

pub sound_at : {E : ℕ → ℕ} {n : ℕ} → Sound E n → (i : ℕ) → i < n → 0 < E (suc i) → (0 < i) × In (E (suc i)) (possible E (E i)) × (hidden E (E i) (E (suc i)) ≡ false)
sound_at {E} s i h p = either (weighed_done s.over E i (E (suc i)) (s.passes.step i h)) (λ e. absurd (omega arith)) (λ r. r)

pub small_more : {E : ℕ → ℕ} {n : ℕ} → Small E n → (i : ℕ) → i ≤ n → 0 < i → In (E (suc i)) (possible E (E i)) → E (suc i) ≤ i
small_more small zero h p j = absurd (omega arith)
small_more small (suc k) h p j = let l = small.below k h in omega (arith, possible_range small _ (omega arith) _ j)

pub sound_small : {E : ℕ → ℕ} (n : ℕ) → Sound E n → Small E n
sound_small zero s = record { below = λ i h. absurd (omega arith) }
sound_small {E} (suc n) s =
    let small = sound_small n (sound_part n (omega arith) s) in record {
      below = λ i h. either (zero_or_more (E (suc i)))
          (λ e. omega arith)
          (λ p. let (q, j, f) = sound_at s i h p in small_more small i (omega arith) q j);
    }

-- behind sound places
module _ {E : ℕ → ℕ} {n : ℕ} (sound : Sound E n) where
  small : Small E n
  small = sound_small n sound

  pub echo_low : (b : ℕ) → b < n → E (suc b) ≤ b
  echo_low b h = small.below b h

  pub echo_below : (b : ℕ) → 0 < b → b ≤ n → E b < b
  echo_below zero p h = absurd (omega arith)
  echo_below (suc b) p h = omega (arith, echo_low b h)

  -- the greatest possible value is not hidden
  pub top_open : (b : ℕ) → b ≤ n → hidden E b (suc b) ≡ false
  unfolding hidden
  top_open b h = any_none _ (possible E b) (λ k i. both_left _ _ (le-ltb (suc b) k (possible_range small b h k i).1))

  -- below it, what is hidden: the echo of the greatest, and what is hidden behind
  hidden_hit : (b m : ℕ) → b ≤ n → m ≤ b → E (suc b) ≡ m → hidden E b m ≡ true
  unfolding hidden
  hidden_hit b m h l e = any_in _ (possible_top small b h) (both_true _ _ (lt-ltb m (suc b) (omega arith)) (eq-eqb _ _ e))

  hidden_on : (b m : ℕ) → b < n → (E (suc (suc b)) ≡ m → ⊥) → hidden E (suc b) m ≡ hidden E (E (suc b)) m
  unfolding hidden any
  hidden_on b m h d = rw (possible_suc small b h, both_right (ltb m (suc (suc b))) _ (ne_eqb _ _ d))

  -- the echo above 0 of a possible value is possible
  pub echo_possible : (b : ℕ) → b < n → (k : ℕ) → In k (possible E b) → 0 < E k → In (E k) (possible E b)
  echo_possible b h zero i p = absurd (omega (arith, possible_range small b (omega arith) zero i))
  echo_possible b h (suc zero) i p = absurd (omega (arith, (sound_at sound 0 (omega arith) p).0))
  echo_possible b h (suc (suc c)) i p =
      let l : suc c < n = omega (arith, possible_range small b (omega arith) (suc (suc c)) i) in
      possible_part small (suc c) b (omega arith) i (E (suc (suc c))) (rw (possible_suc small c (omega arith)) (there (sound_at sound (suc c) l p).1))

  -- the number of m along the chain: at its top, above it, at its end, at what the top hides, and on
  pub walk_top : (b m : ℕ) → b ≤ n → m ≡ suc b → weight E b m ≡ DONE
  walk_top b m h e = rw e (weight_open E b (suc b) (possible_top small b h) (top_open b h))

  pub walk_over : (b m : ℕ) → b ≤ n → suc b < m → weight E b m ≡ IMPOSSIBLE
  walk_over b m h l = weight_not E b m (λ i. omega (arith, possible_range small b h m i))

  pub walk_end : (m : ℕ) → (m ≡ 1 → ⊥) → weight E 0 m ≡ IMPOSSIBLE
  walk_end m d = weight_not E 0 m (λ i. either (In-cons (rw (possible_zero E) at i)) d In-nil)

  pub walk_hit : (b m : ℕ) → b < n → 0 < m → E (suc b) ≡ m → weight E b m ≡ HIDDEN
  walk_hit b m h p e = weight_hidden E b m
      (rw e at (echo_possible b h (suc b) (possible_top small b (omega arith)) (omega arith)))
      (hidden_hit b m (omega arith) (omega (arith, echo_low b h)) e)

  pub walk_on : (b m : ℕ) → b < n → (m ≡ suc (suc b) → ⊥) → (E (suc (suc b)) ≡ m → ⊥) → weight E (suc b) m ≡ weight E (E (suc b)) m
  unfolding weight any
  walk_on b m h d k = rw (hidden_on b m h k, possible_suc small b h, ne_eqb m (suc (suc b)) d)

  -- the open values along the chain: one at its end; the top adds itself, and hides its echo where that is above 0
  pub opens_zero : length (opens E 0) ≡ 1
  unfolding opens keep
  opens_zero = rw (possible_zero E, top_open 0 (omega arith))

  opens_suc : (b : ℕ) → b < n → opens E (suc b) ≡ suc (suc b) ∷ keep (λ m. not (hidden E (suc b) m)) (possible E (E (suc b)))
  unfolding opens keep
  opens_suc b h = rw (possible_suc small b h, top_open (suc b) h)

  pub opens_fresh : (b : ℕ) → suc b < n → E (suc (suc b)) ≡ 0 → length (opens E (suc b)) ≡ suc (length (opens E (E (suc b))))
  unfolding opens
  opens_fresh b h e = let l = echo_low b (omega arith) in
      ap length (opens_suc b (omega arith)) ∙ ap (λ (k : List ℕ). suc (length k))
      (keep_same (λ m. not (hidden E (suc b) m)) (λ m. not (hidden E (E (suc b)) m)) (possible E (E (suc b)))
      (λ m i. ap not (hidden_on b m (omega arith) (λ z. omega (arith, possible_range small (E (suc b)) (omega arith) m i)))))

  pub opens_used : (b : ℕ) → suc b < n → 0 < E (suc (suc b)) → length (opens E (suc b)) ≡ length (opens E (E (suc b)))
  unfolding opens
  opens_used b h p = let l = echo_low b (omega arith) in let (q, i, f) = sound_at sound (suc b) h p in
      ap length (opens_suc b (omega arith)) ∙ sym (keep_less (λ m. not (hidden E (E (suc b)) m)) (λ m. not (hidden E (suc b) m)) (E (suc (suc b))) (possible E (E (suc b)))
      (possible_falling small (E (suc b)) (omega arith)) i (ap not f) (ap not (hidden_hit (suc b) (E (suc (suc b))) (omega arith) (echo_low (suc b) h) refl))
      (λ m j d. ap not (sym (hidden_on b m (omega arith) (λ z. d (sym z))))))

  -- there are as many open values as possible values with the echo 0
  pub opens_zeros : (b : ℕ) → b < n → length (opens E b) ≡ length (keep (λ m. eqb (E m) 0) (possible E b))
  unfolding keep
  opens_zeros b h = down_ind small (λ b. b < n → length (opens E b) ≡ length (keep (λ m. eqb (E m) 0) (possible E b))) base step b (omega arith) h
    where
      base : 0 < n → length (opens E 0) ≡ length (keep (λ m. eqb (E m) 0) (possible E 0))
      base l = opens_zero ∙ rw (possible_zero E, eq-eqb (E 1) 0 (omega (arith, echo_low 0 l)))

      step : (b : ℕ) → b < n → (E (suc b) < n → length (opens E (E (suc b))) ≡ length (keep (λ m. eqb (E m) 0) (possible E (E (suc b))))) → suc b < n
          → length (opens E (suc b)) ≡ length (keep (λ m. eqb (E m) 0) (possible E (suc b)))
      step b l rest k = let r = rest (omega (arith, echo_low b l)) in either (zero_or_more (E (suc (suc b))))
          (λ e. opens_fresh b k e ∙ rw (possible_suc small b l, eq-eqb (E (suc (suc b))) 0 e) (ap suc r))
          (λ p. opens_used b k p ∙ rw (possible_suc small b l, ne_eqb (E (suc (suc b))) 0 (λ z. omega arith)) r)

-- never more than A are open
pub opens_at_most : {A : ℕ} {E : ℕ → ℕ} {n : ℕ} → 0 < A → Passes A E n → (b : ℕ) → b < n → length (opens E b) ≤ A
opens_at_most {A} {E} {n} pos passes b h = down_ind (sound_small n s) (λ b. b < n → length (opens E b) ≤ A)
    (λ l. omega (arith, opens_zero s))
    (λ b l rest k. either (zero_or_more (E (suc (suc b))))
    (λ e. omega (arith, opens_fresh s b k e, weighed_room A E b _ (passes.step (suc b) k) e))
    (λ p. omega (arith, opens_used s b k p, rest (omega (arith, echo_low s b l)))))
    b (omega arith) h
  where
    s : Sound E n
    s = passes_sound passes

-- every standing prefix has a next value, over every A: zero at the first place, and behind it the greatest possible one
top_stands : (A : ℕ) {E : ℕ → ℕ} {n : ℕ} → Sound E (suc n) → weighed A E (suc n) (suc (E (suc n))) ≡ DONE
top_stands A {E} {n} s = weighed_more A E n _ (omega arith) ∙ walk_top s (E (suc n)) _ (omega (arith, echo_low s n (omega arith))) refl

-- the greatest value at the first place, and behind it
pub peak_none : (E : ℕ → ℕ) (i : ℕ) → i ≡ 0 → 0 ≡ peak E i
unfolding peak
peak_none E i z = rw z

pub peak_some : (E : ℕ → ℕ) (i r : ℕ) → r ≡ E i → (i ≡ 0 → ⊥) → r + 1 ≡ peak E i
unfolding peak
peak_some E zero r e d = absurd (d refl)
peak_some E (suc i) r e d = rw (e, add-one)

-- it stands, and what stands is not above it
module _ {A : ℕ} {E : ℕ → ℕ} where
  pub peak_low : (n : ℕ) → Passes A E n → peak E n ≤ n
  unfolding peak
  peak_low zero p = omega arith
  peak_low (suc n) p = omega (arith, (sound_small (suc n) (passes_sound p)).below n (omega arith))

  pub peak_stands : (n : ℕ) → Passes A E n → weighed A E n (peak E n) ≡ DONE
  unfolding peak
  peak_stands zero p = weighed_first A E 0 refl
  peak_stands (suc n) p = top_stands A (passes_sound p)

  pub peak_most : (n m : ℕ) → Passes A E n → weighed A E n m ≡ DONE → m ≤ peak E n
  unfolding peak
  peak_most zero m p w = either (weighed_done A E zero m w) (λ e. omega arith) (λ r. absurd (omega (arith, r.0)))
  peak_most (suc n) m p w = let s = sound_small (suc n) (passes_sound p) in either (weighed_done A E (suc n) m w)
      (λ e. omega arith)
      (λ r. (possible_range s (E (suc n)) (omega (arith, s.below n (omega arith))) m r.1).1)
