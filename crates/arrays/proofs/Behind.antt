-- The number of a value behind the first places, in the code's terms. Assumes nothing.
use mathlib.Core.Path.{◌≡◌, refl, sym, ◌∙◌}
use Prim.Native.Nat.{ℕ, zero, suc, ◌≤◌, ◌<◌}
use native.Mathlib.Omega.{arith}
use lib.ListN.{length}
use Rattle.words.specs.Numbers.{DONE, IMPOSSIBLE, FULL}
use Rattle.words.specs.Stand.{opens, weight, weighed}
use Rattle.arrays.specs.Steps.{Passes, Sound}
use Rattle.arrays.proofs.Rules.{passes_sound, sound_part, echo_below, weighed_first, weighed_second, weighed_more, weighed_fits, weighed_full}

-- the value m behind the first i places
module _ (A : ℕ) (E : ℕ → ℕ) (i m : ℕ) where
  pub first_zero : i ≡ 0 → m ≡ 0 → DONE ≡ weighed A E i m
  first_zero z e = rw z (sym (weighed_first A E m e))

  pub first_above : i ≡ 0 → (m ≡ 0 → ⊥) → IMPOSSIBLE ≡ weighed A E i m
  first_above z d = rw z (sym (weighed_second A E m (omega arith)))

  pub later_more : (b r : ℕ) → b ≡ E i → (i ≡ 0 → ⊥) → 0 < m → r ≡ weight E b m → r ≡ weighed A E i m
  later_more b r e d p h = go i b d e h
    where
      go : (i b : ℕ) → (i ≡ 0 → ⊥) → b ≡ E i → r ≡ weight E b m → r ≡ weighed A E i m
      go zero b d e h = absurd (d refl)
      go (suc i) b d e h = h ∙ rw e (sym (weighed_more A E i m p))

  pub later_fits : (b r : ℕ) → b ≡ E i → (i ≡ 0 → ⊥) → m ≤ 0 → r ≡ length (opens E b) → r < A → DONE ≡ weighed A E i m
  later_fits b r e d p h l = sym (go i b d e h)
    where
      go : (i b : ℕ) → (i ≡ 0 → ⊥) → b ≡ E i → r ≡ length (opens E b) → weighed A E i m ≡ DONE
      go zero b d e h = absurd (d refl)
      go (suc i) b d e h = weighed_fits A E i m (omega arith) (rw (← e, ← h) l)

  pub later_full : (b r : ℕ) → b ≡ E i → (i ≡ 0 → ⊥) → m ≤ 0 → r ≡ length (opens E b) → A ≤ r → FULL ≡ weighed A E i m
  later_full b r e d p h l = sym (go i b d e h)
    where
      go : (i b : ℕ) → (i ≡ 0 → ⊥) → b ≡ E i → r ≡ length (opens E b) → weighed A E i m ≡ FULL
      go zero b d e h = absurd (d refl)
      go (suc i) b d e h = weighed_full A E i m (omega arith) (rw (← e, ← h) l)

-- behind the first i places, which pass
module _ (A : ℕ) (E : ℕ → ℕ) (i b : ℕ) (passes : Passes A E i) (is : b ≡ E i) (later : i ≡ 0 → ⊥) where
  behind_low : b < i
  behind_low = omega (arith, echo_below (passes_sound passes) i (omega arith) (omega arith))

  pub behind_in : (n : ℕ) → i ≤ n → b < n
  behind_in n h = omega (arith, behind_low)

  pub behind_sound : Sound E (suc b)
  behind_sound = sound_part (suc b) behind_low (passes_sound passes)
