-- One card more: behind places that pass, the rule's card gives the array's echo, is one of the A letters, and is the least that does. Assumes nothing.
use mathlib.Core.Path.{◌≡◌, refl, sym, subst, ◌∙◌}
use Prim.Native.Nat.{ℕ, zero, suc, ◌+◌, ◌≤◌, ◌<◌}
use native.Mathlib.Omega.{arith}
use lib.Dec.{ltb}
use lib.ListN.{length}
use borrow.Author.Tests.{ltb-true, ltb-false}
use Rattle.words.specs.Lists.{each}
use Rattle.words.specs.Numbers.{DONE, first_letter}
use Rattle.words.specs.Stand.{possible, opens, weighed}
use Rattle.words.specs.Least.{least_not, free_letter, next_card}
use Rattle.words.proofs.Lists.{which, either, same?, not_both, In, In-each, In-each-out, zero_or_more, each_long}
use Rattle.arrays.specs.Steps.{Inside, Step, Echoing}
use Rattle.words.specs.Rows.{Alike}
use Rattle.arrays.proofs.Pigeon.{free, free_from, free_least, free_none, free_tried}
use Rattle.arrays.proofs.Rules.{possible_range, weight_done, weighed_done, weighed_more, weighed_room}
use Rattle.words.proofs.Rows.{alike_at, alike_refl}
use Rattle.arrays.proofs.Cards.{inside_at, echoing_small, echoing_alike, twin_hidden, open_twin}

pub next_zero : (E X : ℕ → ℕ) (n m : ℕ) → m ≡ 0 → next_card E X (suc n) m ≡ free_letter (each X (possible E (E (suc n))))
unfolding next_card
next_zero E X n m e = rw e

pub next_more : (E X : ℕ → ℕ) (n m : ℕ) → 0 < m → next_card E X (suc n) m ≡ X m
unfolding next_card
next_more E X n zero p = absurd (omega arith)
next_more E X n (suc m) p = refl

-- where fewer than A values are open, one of the A letters is the card of no possible place
module _ {X E : ℕ → ℕ} {n : ℕ} (has : Echoing X E n) (A b : ℕ) (h : b < n) (room : length (opens E b) < A) where
  fresh : (x : ℕ) × (first_letter ≤ x) × (x < first_letter + A) × (In x (each X (possible E b)) → ⊥)
  fresh = let (x, p, q, d) = free A first_letter (each X (opens E b)) (omega (arith, each_long X (opens E b))) in (
    x,
    p,
    q,
    λ i. (let (m, j, e) = In-each-out X (possible E b) x i in let (k, o, z) = open_twin has b m h j in
        d (subst (λ (y : ℕ). In y (each X (opens E b))) (sym z ∙ e) (In-each X o))),
  )

  fresh_inside : free_letter (each X (possible E b)) < first_letter + A
  fresh_inside = let (x, p, q, d) = fresh in omega (arith, free_least (each X (possible E b)) x p d)

  pub fresh_tried : least_not A first_letter (each X (possible E b)) ≡ free_letter (each X (possible E b))
  fresh_tried = let (x, p, q, d) = fresh in free_tried (each X (possible E b)) A x p q d

-- the rule's card is one of the A letters
next_inside : {X E : ℕ → ℕ} (A n : ℕ) → 0 < A → Inside A X n → Echoing X E n → weighed A E n (E (suc n)) ≡ DONE
    → (first_letter ≤ next_card E X n (E (suc n))) × (next_card E X n (E (suc n)) < first_letter + A)
unfolding next_card
next_inside A zero p inside has w = (omega arith, omega arith)
next_inside {X} {E} A (suc n) p inside has w =
    let small = echoing_small (suc n) has in
    let l = small.below n (omega arith) in
    either (zero_or_more (E (suc (suc n))))
    (λ z. rw (next_zero E X n _ z) (free_from (each X (possible E (E (suc n)))), fresh_inside has A (E (suc n)) (omega arith) (weighed_room A E n _ w z)))
    (λ q. let (i, u) = weight_done E (E (suc n)) _ (sym (weighed_more A E n _ q) ∙ w) in
    rw (next_more E X n _ q) (inside_at inside _ q (omega (arith, possible_range small (E (suc n)) (omega arith) _ i))))

-- Y is X with the rule's card behind its first n
module _ {X Y E : ℕ → ℕ} where
  grow_zero : (n : ℕ) → Alike X Y (suc n) → Y (suc (suc n)) ≡ next_card E X (suc n) (E (suc (suc n))) → Echoing X E (suc n) → E (suc (suc n)) ≡ 0 → Step Y E (suc n)
  grow_zero n same new has z =
      let small = echoing_small (suc n) has in
      let l = small.below n (omega arith) in
      record {
        hit = λ p. absurd (omega arith);
        most = λ p m j e. let r = possible_range small (E (suc n)) (omega arith) m j in
            absurd (free_none (each X (possible E (E (suc n))))
            (subst (λ (y : ℕ). In y (each X (possible E (E (suc n))))) (alike_at same m r.0 (omega arith) ∙ e ∙ new ∙ next_zero E X n _ z) (In-each X j)));
      }

  grow_more : (A n : ℕ) → Alike X Y (suc n) → Y (suc (suc n)) ≡ next_card E X (suc n) (E (suc (suc n))) → Echoing X E (suc n)
      → weighed A E (suc n) (E (suc (suc n))) ≡ DONE → 0 < E (suc (suc n)) → Step Y E (suc n)
  grow_more A n same new has w p =
      let m = E (suc (suc n)) in
      let small = echoing_small (suc n) has in
      let l = small.below n (omega arith) in
      let (i, u) = weight_done E (E (suc n)) m (sym (weighed_more A E n m p) ∙ w) in
      let r = possible_range small (E (suc n)) (omega arith) m i in
      let card : Y (suc (suc n)) ≡ X m = new ∙ next_more E X n m p in
      record {
        hit = λ _. (omega arith, i, sym (alike_at same m p (omega arith)) ∙ sym card);
        most = λ _ k j e. let q = possible_range small (E (suc n)) (omega arith) k j in either (which (ltb m k))
            (λ t. absurd (not_both (twin_hidden has (E (suc n)) m k (omega arith) i j (ltb-true m k t)
            (sym card ∙ sym e ∙ sym (alike_at same k q.0 (omega arith)))) u))
            (λ f. ltb-false m k f);
      }

  grow_step : (A n : ℕ) → Alike X Y n → Y (suc n) ≡ next_card E X n (E (suc n)) → Echoing X E n → weighed A E n (E (suc n)) ≡ DONE → Step Y E n
  grow_step A zero same new has w = record {
    hit = λ p. either (weighed_done A E 0 (E 1) w) (λ e. absurd (omega arith)) (λ r. absurd (omega arith));
    most = λ p. absurd (omega arith);
  }
  grow_step A (suc n) same new has w = either (zero_or_more (E (suc (suc n)))) (grow_zero n same new has) (grow_more A n same new has w)

  -- it has the array's echo there
  pub grow : (A n : ℕ) → Alike X Y n → Y (suc n) ≡ next_card E X n (E (suc n)) → Echoing X E n → weighed A E n (E (suc n)) ≡ DONE → Echoing Y E (suc n)
  grow A n same new has w = record {
    step = λ i h. either (same? i n)
        (λ e. subst (λ (j : ℕ). Step Y E j) (sym e) (grow_step A n same new has w))
        (λ d. (echoing_alike same (alike_refl E n) has).step i (omega arith));
  }

  pub grow_inside : (A n : ℕ) → 0 < A → Alike X Y n → Y (suc n) ≡ next_card E X n (E (suc n)) → Inside A X n → Echoing X E n → weighed A E n (E (suc n)) ≡ DONE → Inside A Y (suc n)
  grow_inside A n p same new inside has w = record {
    letter = λ i h. either (same? i n)
        (λ e. rw e (rw new (next_inside A n p inside has w)))
        (λ d. rw (← same.same i (omega arith)) (inside.letter i (omega arith)));
  }

-- no row with these echoes has a lower card there
pub lowest : {X Z E : ℕ → ℕ} {A : ℕ} (n : ℕ) → Alike X Z n → Inside A Z (suc n) → Echoing Z E (suc n) → next_card E X n (E (suc n)) ≤ Z (suc n)
unfolding next_card
lowest zero same inside has = (inside.letter 0 (omega arith)).0
lowest {X} {Z} {E} (suc n) same inside has =
    let s = has.step (suc n) (omega arith) in
    let small = echoing_small (suc (suc n)) has in
    let l = small.below n (omega arith) in
    let k = small.below (suc n) (omega arith) in
    either (zero_or_more (E (suc (suc n))))
    (λ z. rw (next_zero E X n _ z) (free_least (each X (possible E (E (suc n)))) (Z (suc (suc n))) (inside.letter (suc n) (omega arith)).0 (λ i.
    (let (m, j, e) = In-each-out X (possible E (E (suc n))) (Z (suc (suc n))) i in
    let r = possible_range small (E (suc n)) (omega arith) m j in
    omega (arith, s.most (omega arith) m j (sym (alike_at same m r.0 (omega arith)) ∙ e))))))
    (λ p. let e : next_card E X (suc n) (E (suc (suc n))) ≡ Z (suc (suc n)) = next_more E X n (E (suc (suc n))) p ∙ alike_at same (E (suc (suc n))) p (omega arith) ∙ (s.hit p).2 in omega arith)
