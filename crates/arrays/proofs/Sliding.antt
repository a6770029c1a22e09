-- The chain over a stretch of places whose echoes all lie at the same distance below them. Assumes nothing.
use mathlib.Core.Path.{◌≡◌, sym, ap, ◌∙◌}
use Prim.Native.Nat.{ℕ, zero, suc, ◌+◌, ◌-◌, ◌*◌, ◌/◌, ◌%◌, ◌≤◌, ◌<◌}
use native.Mathlib.Omega.{arith}
use native.Mathlib.Nat.{suc-mul, div-add-mod'}
use Rattle.words.specs.Numbers.{limit}
use Rattle.words.specs.Stand.{weight}
use Rattle.words.proofs.Lists.{either, same?}
use Rattle.arrays.specs.Steps.{Sound, Slides, peak}
use Rattle.arrays.proofs.Rules.{passes_part, peak_most, echo_below, walk_on}

-- an echo is at most one more than the echo before
rise : {E : ℕ → ℕ} {n : ℕ} → Sound E n → (k : ℕ) → suc k < n → E (suc (suc k)) ≤ suc (E (suc k))
unfolding peak
rise s k h = peak_most (suc k) _ (passes_part (suc k) (omega arith) s.passes) (s.passes.step (suc k) h)

-- so that no later place lies less far above its echo
far : {E : ℕ → ℕ} {n : ℕ} → Sound E n → (i k : ℕ) → 0 < i → i ≤ k → k ≤ n → E k + i ≤ E i + k
far {E} s i zero p l h = absurd (omega arith)
far {E} s i (suc zero) p l h = let e : i ≡ 1 = omega arith in omega (arith, ap E e)
far {E} s i (suc (suc k)) p l h = either (same? i (suc (suc k)))
    (λ e. omega (arith, ap E e))
    (λ d. omega (arith, rise s k (omega arith), far s i (suc k) p (omega arith) (omega arith)))

-- from place x to place b all echoes lie d below
module _ {E : ℕ → ℕ} {b : ℕ} (sound : Sound E (suc b)) (x d : ℕ) (pos : 0 < x) (some : 0 < d) (here : E x + d ≡ x) (there : E b + d ≡ b) where
  steady : (j : ℕ) → x ≤ j → j ≤ b → E j + d ≡ j
  steady j l h = omega (arith, far sound x j pos l (omega arith), far sound j b (omega arith) h (omega arith))

  step : (m y : ℕ) → m ≤ x → x + d ≤ y → y < b → weight E y m ≡ weight E (E y) m
  step m zero l g h = absurd (omega arith)
  step m (suc y) l g h = walk_on sound y m (omega arith) (λ e. omega arith) (λ e. omega (arith, steady (suc (suc y)) (omega arith) (omega arith)))

  down : (m k : ℕ) → m ≤ x → x + k * d < b → weight E (x + k * d) m ≡ weight E x m
  down m zero l h = let z : x + 0 * d ≡ x = omega arith in ap (λ (y : ℕ). weight E y m) z
  down m (suc k) l h = let q = suc-mul k d in let z : E (x + suc k * d) ≡ x + k * d = omega (arith, q, steady (x + suc k * d) (omega arith) (omega arith)) in
      step m (x + suc k * d) l (omega (arith, q)) h ∙ ap (λ (y : ℕ). weight E y m) z ∙ down m k l (omega (arith, q))

  slides : (m k : ℕ) → m ≤ x → E b ≡ x + k * d → Slides E b m x
  slides m k l e = record { below = omega arith; weighs = ap (λ (y : ℕ). weight E y m) e ∙ down m k l (omega arith) }

-- the ways out of `slide`
module _ {E : ℕ → ℕ} {b : ℕ} (sound : Sound E (suc b)) (pos : 0 < b) where
  next_low : E b < b
  next_low = echo_below sound b pos (omega arith)

  pub slide_less : (c : ℕ) → c ≡ E b → c ≤ b
  slide_less c e = omega (arith, next_low)

  pub slide_some : (c : ℕ) → c ≡ E b → 0 < b - c
  slide_some c e = omega (arith, next_low)

  slide_end : (m c : ℕ) → c ≡ E b → m + 2 * (b - c) + 16 * (b - c) ≤ c → m + 2 * (b - c) + (c - (m + 2 * (b - c))) % (b - c) ≤ b
  slide_end m c e l = omega (arith, next_low, div-add-mod' (c - (m + 2 * (b - c))) (b - c))

  pub slide_in : (m c : ℕ) → c ≡ E b → b < limit → m + 2 * (b - c) + 16 * (b - c) ≤ c → m + 2 * (b - c) + (c - (m + 2 * (b - c))) % (b - c) ≤ limit
  slide_in m c e h l = omega (arith, slide_end m c e l)

  pub slide_above : (m c : ℕ) → c ≡ E b → 0 < m + 2 * (b - c) + (c - (m + 2 * (b - c))) % (b - c)
  slide_above m c e = omega (arith, next_low)

  pub slide_near : (m c : ℕ) → c ≡ E b → Slides E b m c
  slide_near m c e = record { below = omega (arith, next_low); weighs = ap (λ (y : ℕ). weight E y m) (sym e) }

  pub slide_far : (m c y : ℕ) → c ≡ E b → y ≡ E (m + 2 * (b - c) + (c - (m + 2 * (b - c))) % (b - c)) → m + 2 * (b - c) + 16 * (b - c) ≤ c
      → y + (b - c) ≡ m + 2 * (b - c) + (c - (m + 2 * (b - c))) % (b - c) → Slides E b m (m + 2 * (b - c) + (c - (m + 2 * (b - c))) % (b - c))
  slide_far m c y e f l h = slides sound (m + 2 * (b - c) + (c - (m + 2 * (b - c))) % (b - c)) (b - c) (omega (arith, next_low)) (omega (arith, next_low))
      (omega arith) (omega (arith, next_low)) m ((c - (m + 2 * (b - c))) / (b - c)) (omega arith)
      (omega (arith, div-add-mod' (c - (m + 2 * (b - c))) (b - c)))
