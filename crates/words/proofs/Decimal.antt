-- Numbers in decimal: two equations, the bytes, and reading back. Assumes nothing.
use mathlib.Core.Path.{◌≡◌, refl, sym, ap, ◌∙◌}
use mathlib.Core.Logic.{◌⊎◌, inl, inr}
use mathlib.Core.List.{List, [], ◌∷◌, ◌++◌}
use Prim.Native.Nat.{ℕ, zero, suc, ◌+◌, ◌-◌, ◌*◌, ◌/◌, ◌%◌, ◌^◌, ◌≤◌, ◌<◌}
use native.Mathlib.Omega.{arith}
use native.Mathlib.Nat.{pow-suc}
use lib.Dec.{ltb}
use lib.ListN.{length, length-append}
use borrow.Author.Tests.{lt-ltb, le-ltb, ltb-true, ltb-false}
use Rattle.words.specs.Sheet.{decimal_in, decimal, value}
use Rattle.words.proofs.Lists.{which, either, In, In-nil, In-cons, here, there}

fuel : (f g n : ℕ) → n ≤ f → n ≤ g → decimal_in f n ≡ decimal_in g n
unfolding decimal_in
fuel zero zero n l h = refl
fuel zero (suc g) n l h = rw (lt-ltb n 10 (omega arith))
fuel (suc f) zero n l h = rw (lt-ltb n 10 (omega arith))
fuel (suc f) (suc g) n l h = either (which (ltb n 10))
    (λ t. rw t)
    (λ u. rw u (ap (λ (r : List ℕ). r ++ ((48 + n % 10) ∷ [])) (fuel f g (n / 10) (less f l (ltb-false n 10 u)) (less g h (ltb-false n 10 u)))))
  where
    less : (k : ℕ) → n ≤ suc k → 10 ≤ n → n / 10 ≤ k
    less k l h = omega arith

pub decimal_small : (n : ℕ) → n < 10 → decimal n ≡ (48 + n) ∷ []
unfolding decimal decimal_in
decimal_small zero h = refl
decimal_small (suc n) h = rw (lt-ltb (suc n) 10 h)

pub decimal_more : (n : ℕ) → 10 ≤ n → decimal n ≡ decimal (n / 10) ++ ((48 + n % 10) ∷ [])
unfolding decimal decimal_in
decimal_more zero h = absurd (omega arith)
decimal_more (suc n) h = rw (le-ltb (suc n) 10 h) (ap (λ (r : List ℕ). r ++ ((48 + suc n % 10) ∷ [])) (fuel n (suc n / 10) (suc n / 10) (omega arith) (omega arith)))

-- THE induction, by a number's digits: what holds of the numbers below 10, and of n where it holds of n / 10
pub digits : (P : ℕ → Type 0) → ((n : ℕ) → n < 10 → P n) → ((n : ℕ) → 10 ≤ n → P (n / 10) → P n) → (n : ℕ) → P n
digits P z s n = go n n (omega arith)
  where
    go : (f n : ℕ) → n ≤ f → P n
    go zero n h = z n (omega arith)
    go (suc f) n h = either (which (ltb n 10)) (λ t. z n (ltb-true n 10 t)) (λ u. let l = ltb-false n 10 u in s n l (go f (n / 10) (omega arith)))

-- how many bytes
pub decimal_long : (n : ℕ) → 10 ≤ n → length (decimal n) ≡ suc (length (decimal (n / 10)))
decimal_long n h = ap length (decimal_more n h) ∙ length-append (decimal (n / 10)) ((48 + n % 10) ∷ []) ∙ omega arith

pub decimal_some : (n : ℕ) → 0 < length (decimal n)
decimal_some = digits (λ n. 0 < length (decimal n)) (λ n h. omega (arith, ap length (decimal_small n h))) (λ n h e. omega (arith, decimal_long n h))

-- a number below 10 to the k has at most k digits
pub decimal_width : (k n : ℕ) → n < 10 ^ suc k → length (decimal n) ≤ suc k
decimal_width zero n h = omega (arith, ap length (decimal_small n (omega arith)))
decimal_width (suc k) n h = either (which (ltb n 10))
    (λ t. omega (arith, ap length (decimal_small n (ltb-true n 10 t))))
    (λ u. let l = ltb-false n 10 u in omega (arith, decimal_long n l, decimal_width k (n / 10) (omega (arith, pow-suc 10 (suc k)))))

-- every byte is a digit
pub decimal_digits : (n d : ℕ) → In d (decimal n) → (48 ≤ d) × (d ≤ 57)
decimal_digits = digits (λ n. (d : ℕ) → In d (decimal n) → (48 ≤ d) × (d ≤ 57))
    (λ n h d i. either (In-cons (rw (decimal_small n h) at i)) (λ e. (omega arith, omega arith)) (λ j. absurd (In-nil j)))
    (λ n h rest d i. either (In-snoc (decimal (n / 10)) (rw (decimal_more n h) at i)) (λ j. rest d j) (λ e. (omega arith, omega arith)))
  where
    In-snoc : {d b : ℕ} (s : List ℕ) → In d (s ++ (b ∷ [])) → In d s ⊎ (d ≡ b)
    In-snoc [] i = either (In-cons i) inr (λ j. absurd (In-nil j))
    In-snoc (a ∷ s) here = inl here
    In-snoc (a ∷ s) (there i) = either (In-snoc s i) (λ j. inl (there j)) inr

-- no leading zero
pub decimal_head : (n : ℕ) (s : List ℕ) → decimal n ≡ 48 ∷ s → n ≡ 0
decimal_head = digits (λ n. (s : List ℕ) → decimal n ≡ 48 ∷ s → n ≡ 0)
    (λ n h s e. let z : (48 + n) ∷ [] ≡ 48 ∷ s = sym (decimal_small n h) ∙ e in let w : 48 + n ≡ 48 = cc in omega arith)
    (λ n h rest s e. absurd (front n s h rest (decimal (n / 10)) refl (sym (decimal_more n h) ∙ e)))
  where
    front : (n : ℕ) (s : List ℕ) → 10 ≤ n → ((s : List ℕ) → decimal (n / 10) ≡ 48 ∷ s → n / 10 ≡ 0) → (d : List ℕ) → decimal (n / 10) ≡ d → d ++ ((48 + n % 10) ∷ []) ≡ 48 ∷ s → ⊥
    front n s h rest [] q e = omega (arith, decimal_some (n / 10), ap length q)
    front n s h rest (a ∷ d) q e = let z : a ≡ 48 = cc in omega (arith, rest d (q ∙ ap (λ (b : ℕ). b ∷ d) z))

-- reading back
pub value_snoc : (v : ℕ) (l : List ℕ) (b : ℕ) → value v (l ++ (b ∷ [])) ≡ 10 * value v l + (b - 48)
unfolding value
value_snoc v [] b = refl
value_snoc v (d ∷ l) b = value_snoc (10 * v + (d - 48)) l b

value_decimal : (n : ℕ) → value 0 (decimal n) ≡ n
unfolding value
value_decimal = digits (λ n. value 0 (decimal n) ≡ n)
    (λ n h. ap (value 0) (decimal_small n h) ∙ one n)
    (λ n h e. ap (value 0) (decimal_more n h) ∙ value_snoc 0 (decimal (n / 10)) (48 + n % 10) ∙ omega (arith, e))
  where
    one : (n : ℕ) → value 0 ((48 + n) ∷ []) ≡ n
    one n = omega arith

pub decimal_read : (m n : ℕ) → decimal m ≡ decimal n → m ≡ n
decimal_read m n e = sym (value_decimal m) ∙ ap (value 0) e ∙ value_decimal n
