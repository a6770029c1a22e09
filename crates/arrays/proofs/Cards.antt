-- Rows with the array's echoes: what is hidden and open, said by cards; and that every place of a row over A passes. Assumes nothing.
use mathlib.Core.Path.{◌≡◌, refl, sym, ap, subst, ◌∙◌}
use mathlib.Core.Bool.{true}
use mathlib.Core.List.{List, [], ◌∷◌}
use Prim.Native.Nat.{ℕ, zero, suc, ◌+◌, ◌≤◌, ◌<◌}
use native.Mathlib.Omega.{arith}
use lib.Dec.{ltb, eqb}
use lib.ListN.{length}
use borrow.Author.Tests.{ltb-true, lt-ltb, eqb-true, eq-eqb}
use Rattle.words.specs.Lists.{both, each}
use Rattle.words.specs.Rows.{Small, echo, Alike}
use Rattle.words.specs.Numbers.{DONE, first_letter}
use Rattle.words.specs.Stand.{possible, hidden, opens, weight, weighed}
use Rattle.words.proofs.Lists.{which, either, same?, not_both, both_true, both_out, In, here, there, In-cons, In-each-out, any_in, any_out, zero_or_more, Falls, keep_falls, each_long}
use Rattle.rows.specs.Border.{Border}
use Rattle.rows.proofs.Borders.{echo_border, echo_most, border_step, border_chain}
use Rattle.arrays.specs.Steps.{Passes, Inside, Step, Echoing}
use Rattle.arrays.proofs.Pigeon.{Distinct, fits}
use Rattle.arrays.proofs.Rules.{open_in, open_out, small_at, possible_in, possible_out, possible_suc, possible_range, possible_part, possible_below, possible_falling, small_more, weight_open, weighed_first, weighed_more, weighed_fits}
use Rattle.arrays.proofs.Alike.{behind_alike}
use Rattle.words.proofs.Rows.{alike_at, alike_sym}

pub inside_at : {A : ℕ} {X : ℕ → ℕ} {n : ℕ} → Inside A X n → (k : ℕ) → 0 < k → k ≤ n → (first_letter ≤ X k) × (X k < first_letter + A)
inside_at i zero p h = absurd (omega arith)
inside_at i (suc k) p h = i.letter k h

-- the echoes of a row are echoing (001, Lemma 2.1)
pub echo_step : (X : ℕ → ℕ) (i : ℕ) → Step X (echo X) i
echo_step X i = record { hit = λ p. hits i (echo X (suc i)) p (echo_border X (suc i) (omega arith)); most = λ p m j e. mosts m p j e }
  where
    hits : (i m : ℕ) → 0 < m → Border X (suc i) m → (0 < i) × In m (possible (echo X) (echo X i)) × (X m ≡ X (suc i))
    hits zero m p b = absurd (omega (arith, b.less))
    hits (suc i) zero p b = absurd (omega arith)
    hits (suc i) (suc k) p b = let (c, e) = (border_step X (suc i) k).0 b in (omega arith, possible_in (echo X) _ k ((border_chain X (suc i) k (omega arith)).0 c), e)

    mosts : (m : ℕ) → 0 < i → In m (possible (echo X) (echo X i)) → X m ≡ X (suc i) → m ≤ echo X (suc i)
    mosts zero p j e = omega arith
    mosts (suc k) p j e = echo_most ((border_step X i k).1 ((border_chain X i k p).1 (possible_out (echo X) _ k j), e))

pub echo_echoing : (X : ℕ → ℕ) (n : ℕ) → Echoing X (echo X) n
echo_echoing X n = record { step = λ i h. echo_step X i }

pub echoing_part : {X E : ℕ → ℕ} {n : ℕ} (k : ℕ) → k ≤ n → Echoing X E n → Echoing X E k
echoing_part k l s = record { step = λ i h. s.step i (omega arith) }

pub echoing_small : {X E : ℕ → ℕ} (n : ℕ) → Echoing X E n → Small E n
echoing_small zero s = record { below = λ i h. absurd (omega arith) }
echoing_small {X} {E} (suc n) s =
    let small = echoing_small n (echoing_part n (omega arith) s) in record {
      below = λ i h. either (zero_or_more (E (suc i)))
          (λ e. omega arith)
          (λ p. let (q, j, f) = (s.step i h).hit p in small_more small i (omega arith) q j);
    }

-- it does not matter by which names row and echoes go
pub echoing_alike : {X Y E F : ℕ → ℕ} {n : ℕ} → Alike X Y n → Alike E F n → Echoing X E n → Echoing Y F n
echoing_alike {X} {Y} {E} {F} {n} x a s =
    let small = echoing_small n s in
    record {
      step = λ i h. let t = s.step i h in let e = a.same i h in let l = small.below i h in record {
        hit = λ p. let (q, j, z) = t.hit (omega arith) in (
          q,
          subst (λ (k : List ℕ). In (F (suc i)) k) (behind_alike a small i q (omega arith)) (subst (λ (k : ℕ). In k (possible E (E i))) e j),
          ap Y (sym e) ∙ sym (alike_at x (E (suc i)) (omega arith) (omega arith)) ∙ z ∙ x.same i h,
        );
        most = λ q m j z.
            let g : In m (possible E (E i)) = subst (λ (k : List ℕ). In m k) (sym (behind_alike a small i q (omega arith))) j in
            let b = small_at small i q (omega arith) in
            let r = possible_range small (E i) (omega arith) m g in
            rw (← e) (t.most q m g (alike_at x m r.0 (omega arith) ∙ z ∙ sym (x.same i h)));
      };
    }

-- a row has one array of echoes
step_below : {X E F : ℕ → ℕ} (n : ℕ) → Alike E F n → Small E n → Step X E n → Step X F n → E (suc n) ≤ F (suc n)
step_below {X} {E} {F} n a small s t = either (zero_or_more (E (suc n)))
    (λ z. omega arith)
    (λ p. let (h, j, e) = s.hit p in t.most h (E (suc n)) (subst (λ (l : List ℕ). In (E (suc n)) l) (behind_alike a small n h (omega arith)) j) e)

pub echoing_unique : {X E F : ℕ → ℕ} (n : ℕ) → Echoing X E n → Echoing X F n → Alike E F n
echoing_unique zero p q = record { same = λ i h. absurd (omega arith) }
echoing_unique {X} {E} {F} (suc n) p q =
    let s = echoing_part n (omega arith) p in
    let t = echoing_part n (omega arith) q in
    let a = echoing_unique n s t in
    let x = p.step n (omega arith) in
    let y = q.step n (omega arith) in
    record {
      same = λ i h. either (same? i n)
          (λ e. subst (λ (k : ℕ). E (suc k) ≡ F (suc k)) (sym e) (omega (arith, step_below n a (echoing_small n s) x y, step_below n (alike_sym a) (echoing_small n t) y x)))
          (λ d. a.same i (omega arith));
    }

each_distinct : (X : ℕ → ℕ) (l : List ℕ) → Falls l → ((m k : ℕ) → In m l → In k l → m < k → X m ≡ X k → ⊥) → Distinct (each X l)
unfolding Falls Distinct each
each_distinct X [] f d = tt
each_distinct X (x ∷ l) f d = (
  (λ i. let (m, j, e) = In-each-out X l (X x) i in d m x (there j) here (f.0 m j) e),
  each_distinct X l f.1 (λ m k i j. d m k (there i) (there j)),
)

module _ {X E : ℕ → ℕ} {n : ℕ} (has : Echoing X E n) where
  small : Small E n
  small = echoing_small n has

  -- a place and its echo have one card
  echo_card : (k : ℕ) → k ≤ n → 0 < k → 0 < E k → X (E k) ≡ X k
  echo_card zero h q p = absurd (omega arith)
  echo_card (suc i) h q p = ((has.step i h).hit p).2

  -- of two possible places with one card the lower is hidden: down from the upper, by its echo
  twin_step : (b m k : ℕ) → b < n → In m (possible E b) → In k (possible E b) → m < k → X m ≡ X k
      → ((j : ℕ) → j < k → In j (possible E b) → m < j → X m ≡ X j → hidden E b m ≡ true) → hidden E b m ≡ true
  unfolding hidden
  twin_step b m zero h i j l e rest = absurd (omega arith)
  twin_step b m (suc zero) h i j l e rest = absurd (omega (arith, possible_range small b (omega arith) m i))
  twin_step b m (suc (suc c)) h i j l e rest =
      let r = possible_range small b (omega arith) (suc (suc c)) j in
      let q = possible_range small b (omega arith) m i in
      let s = has.step (suc c) (omega arith) in
      let high = s.most (omega arith) m (possible_below small (suc c) b (omega arith) j m i (omega arith)) e in
      let hit = s.hit (omega arith) in
      either (same? (E (suc (suc c))) m)
      (λ z. any_in _ j (both_true _ _ (lt-ltb m (suc (suc c)) l) (eq-eqb _ _ z)))
      (λ d. rest (E (suc (suc c))) (omega (arith, small.below (suc c) (omega arith)))
      (possible_part small (suc c) b (omega arith) j _ (rw (possible_suc small c (omega arith)) (there hit.1)))
      (omega arith) (e ∙ sym hit.2))

  twins : (f b m k : ℕ) → k ≤ f → b < n → In m (possible E b) → In k (possible E b) → m < k → X m ≡ X k → hidden E b m ≡ true
  twins zero b m k g h i j l e = absurd (omega arith)
  twins (suc f) b m k g h i j l e = twin_step b m k h i j l e (λ q a c d p. twins f b m q (omega arith) h i c d p)

  pub twin_hidden : (b m k : ℕ) → b < n → In m (possible E b) → In k (possible E b) → m < k → X m ≡ X k → hidden E b m ≡ true
  twin_hidden b m k = twins k b m k (omega arith)

  -- and a hidden place has a twin above it
  pub hidden_twin : (b m : ℕ) → b < n → 0 < m → hidden E b m ≡ true → (k : ℕ) × In k (possible E b) × (m < k) × (X m ≡ X k)
  unfolding hidden
  hidden_twin b m h p t =
      let (k, i, q) = any_out (λ k. both (ltb m k) (eqb (E k) m)) (possible E b) t in
      let (l, e) = both_out (ltb m k) (eqb (E k) m) q in
      let r = possible_range small b (omega arith) k i in
      let z = eqb-true (E k) m e in
      (k, i, ltb-true m k l, ap X (sym z) ∙ echo_card k (omega arith) r.0 (omega arith))

  -- so each possible place has an open one with its card, itself or above it
  open_from : (f b m : ℕ) → suc b ≤ m + f → b < n → In m (possible E b) → (k : ℕ) × In k (opens E b) × (X m ≡ X k)
  open_from zero b m g h i = either (which (hidden E b m))
      (λ t. let (k, j, l, e) = hidden_twin b m h (omega arith) t in absurd (omega (arith, possible_range small b (omega arith) k j)))
      (λ u. (m, open_in E b m i u, refl))
  open_from (suc f) b m g h i = either (which (hidden E b m))
      (λ t. let (k, j, l, e) = hidden_twin b m h (possible_range small b (omega arith) m i).0 t in
      let (q, o, z) = open_from f b k (omega arith) h j in (q, o, e ∙ z))
      (λ u. (m, open_in E b m i u, refl))

  pub open_twin : (b m : ℕ) → b < n → In m (possible E b) → (k : ℕ) × In k (opens E b) × (X m ≡ X k)
  open_twin b m = open_from (suc b) b m (omega arith)

  -- the open places have different cards
  open_distinct : (b : ℕ) → b < n → Distinct (each X (opens E b))
  unfolding opens
  open_distinct b h = each_distinct X (opens E b) (keep_falls _ _ (possible_falling small b (omega arith)))
      (λ m k i j l e. let (p, u) = open_out E b m i in let (q, v) = open_out E b k j in not_both (twin_hidden b m k h p q l e) u)

  -- a place that a row over A has, passes. Zero: the place's own card is one more letter than those of the open places
  module _ {A : ℕ} (inside : Inside A X n) where
    room : (i : ℕ) → suc i < n → E (suc (suc i)) ≡ 0 → length (opens E (E (suc i))) < A
    unfolding Distinct
    room i h z =
        let b = E (suc i) in
        let c = X (suc (suc i)) in
        let l = small.below i (omega arith) in
        let other : In c (each X (opens E b)) → ⊥ = λ j. (let (m, o, e) = In-each-out X (opens E b) c j in let (q, u) = open_out E b m o in
        omega (arith, (has.step (suc i) h).most (omega arith) m q e, possible_range small b (omega arith) m q)) in
        omega (
          arith,
          each_long X (opens E b),
          fits A first_letter (c ∷ each X (opens E b)) (other, open_distinct b (omega arith))
              (λ x j. either (In-cons j)
              (λ e. rw e (inside.letter (suc i) h))
              (λ k. let (m, o, e) = In-each-out X (opens E b) x k in
              let r = possible_range small b (omega arith) m (open_out E b m o).0 in rw (← e) (inside_at inside m r.0 (omega arith)))),
        )

    open_hit : (i : ℕ) → suc i < n → 0 < E (suc (suc i)) → weight E (E (suc i)) (E (suc (suc i))) ≡ DONE
    open_hit i h p = let (q, j, e) = (has.step (suc i) h).hit p in let l = small.below i (omega arith) in
        weight_open E _ _ j (either (which (hidden E (E (suc i)) (E (suc (suc i)))))
        (λ t. let (k, o, g, z) = hidden_twin (E (suc i)) _ (omega arith) p t in absurd (omega (arith, (has.step (suc i) h).most q k o (sym z ∙ e))))
        (λ u. u))

    pub row_passes : Passes A E n
    row_passes = record { step = at_place }
      where
        at_place : (i : ℕ) → i < n → weighed A E i (E (suc i)) ≡ DONE
        at_place zero h = either (zero_or_more (E 1)) (λ z. weighed_first A E _ z) (λ p. absurd (omega (arith, ((has.step 0 h).hit p).0)))
        at_place (suc i) h = either (zero_or_more (E (suc (suc i)))) (λ z. weighed_fits A E i _ z (room i h z)) (λ p. weighed_more A E i _ p ∙ open_hit i h p)
