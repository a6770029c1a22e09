-- Equations of the words on rows: a card, a chain, looks, each at nothing and at one more. Assumes nothing.
use mathlib.Core.Path.{◌≡◌, refl, sym, ap, ◌∙◌}
use mathlib.Core.Bool.{cond}
use mathlib.Core.List.{List, [], ◌∷◌}
use Prim.Native.Nat.{ℕ, zero, suc, ◌-◌, ◌≤◌, ◌<◌}
use native.Mathlib.Omega.{arith}
use lib.Dec.{eqb}
use lib.ListN.{get_or, take}
use lib.Seq.{get_or-take}
use Rattle.words.specs.Lists.{at}
use Rattle.words.specs.Rows.{card, Small, Alike, down_in, down, chain, looks_from}
use Rattle.words.proofs.Lists.{either, In, In-nil, In-cons, Falls}
use Rattle.words.proofs.Places.{index_at}

-- the card of place i is the byte at index i - 1
pub card_index : (x : List ℕ) (i : ℕ) → 0 < i → get_or x (i - 1) 0 ≡ card x i
unfolding card
card_index x i h = index_at x i h

module _ {E : ℕ → ℕ} {n : ℕ} (small : Small E n) where
  -- THE induction: down the chain from b
  pub down_ind : (P : ℕ → Type 0) → P 0 → ((b : ℕ) → b < n → P (E (suc b)) → P (suc b)) → (b : ℕ) → b ≤ n → P b
  down_ind P z s b h = go b b (omega arith) h
    where
      go : (f b : ℕ) → b ≤ f → b ≤ n → P b
      go zero zero l h = z
      go zero (suc b) l h = absurd (omega arith)
      go (suc f) zero l h = z
      go (suc f) (suc b) l h = s b h (go f (E (suc b)) (omega (arith, small.below b h)) (omega (arith, small.below b h)))

  -- no more steps than b are needed
  fuel : {T : Type 0} (z : T) (s : ℕ → T → T) (f g b : ℕ) → b ≤ f → b ≤ g → b ≤ n → down_in f E z s b ≡ down_in g E z s b
  unfolding down_in
  fuel z s zero zero b l k h = refl
  fuel z s zero (suc g) zero l k h = refl
  fuel z s zero (suc g) (suc b) l k h = absurd (omega arith)
  fuel z s (suc f) zero zero l k h = refl
  fuel z s (suc f) zero (suc b) l k h = absurd (omega arith)
  fuel z s (suc f) (suc g) zero l k h = refl
  fuel z s (suc f) (suc g) (suc b) l k h =
      let r = small.below b h in
      ap (s (suc b)) (fuel z s f g (E (suc b)) (omega arith) (omega arith) (omega arith))

  pub down_suc : {T : Type 0} (z : T) (s : ℕ → T → T) (b : ℕ) → b < n → down E z s (suc b) ≡ s (suc b) (down E z s (E (suc b)))
  unfolding down down_in
  down_suc z s b h = let r = small.below b h in ap (s (suc b)) (fuel z s b (E (suc b)) (E (suc b)) (omega arith) (omega arith) (omega arith))

  pub chain_suc : (b : ℕ) → b < n → chain E (suc b) ≡ suc b ∷ chain E (E (suc b))
  unfolding chain
  chain_suc b h = down_suc (0 ∷ []) (λ k rest. k ∷ rest) b h

  pub looks_suc : (X : ℕ → ℕ) (c b : ℕ) → b < n → looks_from X E c (suc b) ≡ cond (eqb (X (suc (suc b))) c) 1 (suc (looks_from X E c (E (suc b))))
  unfolding looks_from
  looks_suc X c b h = down_suc 1 (λ k rest. cond (eqb (X (suc k)) c) 1 (suc rest)) b h

pub down_zero : {T : Type 0} (E : ℕ → ℕ) (z : T) (s : ℕ → T → T) → down E z s 0 ≡ z
unfolding down down_in
down_zero E z s = refl

pub chain_zero : (E : ℕ → ℕ) → chain E 0 ≡ 0 ∷ []
unfolding chain
chain_zero E = down_zero E (0 ∷ []) (λ k rest. k ∷ rest)

pub looks_zero : (X E : ℕ → ℕ) (c : ℕ) → looks_from X E c 0 ≡ 1
unfolding looks_from
looks_zero X E c = down_zero E 1 (λ k rest. cond (eqb (X (suc k)) c) 1 (suc rest))

-- a part of what is small is small
pub small_less : {E : ℕ → ℕ} {n : ℕ} (m : ℕ) → m ≤ n → Small E n → Small E m
small_less m h s = record { below = λ i l. s.below i (omega arith) }

-- tables with the same echoes have the same walks
pub small_alike : {E F : ℕ → ℕ} {n : ℕ} → Alike E F n → Small E n → Small F n
small_alike a s = record { below = λ i h. omega (arith, s.below i h, a.same i h) }

pub alike_at : {E F : ℕ → ℕ} {n : ℕ} → Alike E F n → (k : ℕ) → 0 < k → k ≤ n → E k ≡ F k
alike_at a zero p h = absurd (omega arith)
alike_at a (suc k) p h = a.same k h

pub alike_refl : (E : ℕ → ℕ) (n : ℕ) → Alike E E n
alike_refl E n = record { same = λ i h. refl }

pub alike_part : {E F : ℕ → ℕ} {n : ℕ} (k : ℕ) → k ≤ n → Alike E F n → Alike E F k
alike_part k l a = record { same = λ i h. a.same i (omega arith) }

pub alike_take : (e : List ℕ) (k : ℕ) → Alike (at e) (at (take k e)) k
unfolding at
alike_take e k = record { same = λ i h. sym (get_or-take k e i 0 h) }

pub alike_sym : {E F : ℕ → ℕ} {n : ℕ} → Alike E F n → Alike F E n
alike_sym a = record { same = λ i h. sym (a.same i h) }

-- lists that go along for n places have the same there
pub alike_along : (t u : List ℕ) (n : ℕ) → take n t ≡ take n u → Alike (at t) (at u) n
alike_along t u n e = record { same = λ i h. (alike_take t n).same i h ∙ ap (λ (x : List ℕ). at x (suc i)) e ∙ (alike_sym (alike_take u n)).same i h }

pub down_alike : {T : Type 0} {E F : ℕ → ℕ} {n : ℕ} (z : T) (s : ℕ → T → T) → Small E n → Alike E F n → (b : ℕ) → b ≤ n → down E z s b ≡ down F z s b
down_alike {T} {E} {F} z s small a = down_ind small (λ b. down E z s b ≡ down F z s b)
    (down_zero E z s ∙ sym (down_zero F z s))
    (λ b h rest. down_suc small z s b h ∙ ap (s (suc b)) (rest ∙ ap (down F z s) (a.same b h)) ∙ sym (down_suc (small_alike a small) z s b h))

pub chain_alike : {E F : ℕ → ℕ} {n : ℕ} → Small E n → Alike E F n → (b : ℕ) → b ≤ n → chain E b ≡ chain F b
unfolding chain
chain_alike small a b h = down_alike (0 ∷ []) (λ k rest. k ∷ rest) small a b h

pub looks_alike : {E F : ℕ → ℕ} {n : ℕ} (X : ℕ → ℕ) (c : ℕ) → Small E n → Alike E F n → (b : ℕ) → b ≤ n → looks_from X E c b ≡ looks_from X F c b
unfolding looks_from
looks_alike X c small a b h = down_alike 1 (λ k rest. cond (eqb (X (suc k)) c) 1 (suc rest)) small a b h

-- a chain falls from b to zero
pub chain_range : {E : ℕ → ℕ} {n : ℕ} → Small E n → (b : ℕ) → b ≤ n → (m : ℕ) → In m (chain E b) → m ≤ b
chain_range {E} small = down_ind small (λ b. (m : ℕ) → In m (chain E b) → m ≤ b)
    (λ m i. either (In-cons (rw (chain_zero E) at i)) (λ e. omega arith) (λ j. absurd (In-nil j)))
    (λ b h rest m i. either (In-cons (rw (chain_suc small b h) at i)) (λ e. omega arith) (λ j. omega (arith, rest m j, small.below b h)))

pub chain_falls : {E : ℕ → ℕ} {n : ℕ} → Small E n → (b : ℕ) → b ≤ n → Falls (chain E b)
unfolding Falls
chain_falls {E} small = down_ind small (λ b. Falls (chain E b))
    (rw (chain_zero E) ((λ m i. absurd (In-nil i)), tt))
    (λ b h rest. rw (chain_suc small b h) ((λ m i. omega (arith, small.below b h, chain_range small (E (suc b)) (omega (arith, small.below b h)) m i)), rest))
