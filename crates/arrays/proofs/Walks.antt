-- The step rules as the code's walks take them: `b + 1` for `suc b`, and a result r for what is shown. Assumes nothing.
use mathlib.Core.Path.{◌≡◌, refl, sym, ap, ◌∙◌}
use Prim.Native.Nat.{ℕ, zero, suc, ◌+◌, ◌≤◌, ◌<◌}
use native.Mathlib.Omega.{arith}
use native.Mathlib.Numerals.{add-one}
use lib.ListN.{length}
use Rattle.words.specs.Numbers.{DONE, IMPOSSIBLE, HIDDEN}
use Rattle.words.specs.Stand.{opens, weight}
use Rattle.arrays.specs.Steps.{Sound, Slides}
use Rattle.arrays.proofs.Rules.{sound_part, echo_below, walk_top, walk_over, walk_end, walk_hit, walk_on, opens_zero, opens_fresh, opens_used}

module _ (E : ℕ → ℕ) (b : ℕ) (sound : Sound E (suc b)) where
  -- the next echo of a walk
  low : (b ≡ 0 → ⊥) → E b < b
  low d = echo_below sound b (omega arith) (omega arith)

  pub next_at : (t y : ℕ) → b ≡ t → y ≡ E b → (b ≡ 0 → ⊥) → y < t
  next_at t y z e d = omega (arith, low d)

  pub next_in : (n y : ℕ) → b < n → y ≡ E b → (b ≡ 0 → ⊥) → y < n
  next_in n y h e d = omega (arith, low d)

  pub next_sound : (y : ℕ) → y ≡ E b → (b ≡ 0 → ⊥) → Sound E (suc y)
  next_sound y e d = sound_part (suc y) (omega (arith, low d)) sound

  -- the ways out of `weigh`
  pub weigh_top : (m : ℕ) → b + 1 ≡ m → DONE ≡ weight E b m
  weigh_top m e = sym (walk_top sound b m (omega arith) (omega arith))

  pub weigh_over : (m : ℕ) → b + 1 < m → IMPOSSIBLE ≡ weight E b m
  weigh_over m l = sym (walk_over sound b m (omega arith) (omega arith))

  pub weigh_end : (m : ℕ) → b ≡ 0 → (b + 1 ≡ m → ⊥) → IMPOSSIBLE ≡ weight E b m
  weigh_end m z d = rw z (sym (walk_end sound m (λ e. d (omega arith))))

  pub weigh_hit : (m x : ℕ) → x ≡ E (b + 1) → 0 < m → x ≡ m → HIDDEN ≡ weight E b m
  weigh_hit m x q p e = sym (walk_hit sound b m (omega arith) p (ap E (sym (add-one b)) ∙ sym q ∙ e))

  pub weigh_on : (m x y r : ℕ) → x ≡ E (b + 1) → Slides E b m y → (b ≡ 0 → ⊥) → (b + 1 ≡ m → ⊥) → (x ≡ m → ⊥) → r ≡ weight E y m → r ≡ weight E b m
  weigh_on m x y r q w z d e h = h ∙ sym (go b sound z d (λ k. e (q ∙ rw add-one k)) ∙ w.weighs)
    where
      go : (b : ℕ) → Sound E (suc b) → (b ≡ 0 → ⊥) → (b + 1 ≡ m → ⊥) → (E (suc b) ≡ m → ⊥) → weight E b m ≡ weight E (E b) m
      go zero s z d e = absurd (z refl)
      go (suc b) s z d e = walk_on s b m (omega arith) (λ q. d (omega arith)) e

  -- the ways out of `open_count`; no more than b + 1 are open, so that the sum fits
  pub open_end : b ≡ 0 → 1 ≡ length (opens E b)
  open_end z = rw z (sym (opens_zero sound))

  pub open_fresh : (x y r : ℕ) → x ≡ E (b + 1) → y ≡ E b → (b ≡ 0 → ⊥) → x ≡ 0 → r ≡ length (opens E y) → r + 1 ≡ length (opens E b)
  open_fresh x y r q w d e h = rw (h, w) (go b sound d (rw add-one at (sym q ∙ e)))
    where
      go : (b : ℕ) → Sound E (suc b) → (b ≡ 0 → ⊥) → E (suc b) ≡ 0 → length (opens E (E b)) + 1 ≡ length (opens E b)
      go zero s d e = absurd (d refl)
      go (suc b) s d e = omega (arith, opens_fresh s b (omega arith) e)

  pub open_used : (x y r : ℕ) → x ≡ E (b + 1) → y ≡ E b → (b ≡ 0 → ⊥) → (x ≡ 0 → ⊥) → r ≡ length (opens E y) → r ≡ length (opens E b)
  open_used x y r q w d e h = rw (h, w) (go b sound d (λ k. e (q ∙ rw add-one k)))
    where
      go : (b : ℕ) → Sound E (suc b) → (b ≡ 0 → ⊥) → (E (suc b) ≡ 0 → ⊥) → length (opens E (E b)) ≡ length (opens E b)
      go zero s d e = absurd (d refl)
      go (suc b) s d e = sym (opens_used s b (omega arith) (omega arith))

  pub few_fresh : (y r : ℕ) → y ≡ E b → (b ≡ 0 → ⊥) → r ≤ y + 1 → r + 1 ≤ b + 1
  few_fresh y r e d l = omega (arith, low d)

  pub few_used : (y r : ℕ) → y ≡ E b → (b ≡ 0 → ⊥) → r ≤ y + 1 → r ≤ b + 1
  few_used y r e d l = omega (arith, low d)
