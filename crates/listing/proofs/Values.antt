-- The values at a place, in the code's terms: one written, and the possible ones, from the greatest down the chain. Assumes nothing.
use mathlib.Core.Path.{◌≡◌, refl, sym, ◌∙◌}
use mathlib.Core.Logic.{◌⊎◌, inl, inr}
use mathlib.Core.List.{List}
use Prim.Native.Nat.{ℕ, zero, suc, ◌-◌, ◌≤◌, ◌<◌}
use native.Mathlib.Omega.{arith}
use native.Mathlib.Numerals.{sub-one}
use lib.ListN.{length, take}
use lib.Seq.{take-set-le}
use Rattle.words.specs.Lists.{at, placed}
use Rattle.words.specs.Rows.{Small, Alike}
use Rattle.words.specs.Numbers.{DONE, limit}
use Rattle.words.specs.Stand.{possible, weighed}
use Rattle.words.proofs.Lists.{either, same?, In, there}
use Rattle.words.proofs.Places.{placed_same, placed_other}
use Rattle.words.proofs.Rows.{alike_part}
use Rattle.arrays.specs.Steps.{Passes, Possible, peak}
use Rattle.arrays.proofs.Rules.{small_at, possible_range, possible_suc, possible_top, possible_part, possible_below, passes_sound, passes_part, sound_small, peak_low, passes_suc}
use Rattle.arrays.proofs.Reasons.{above}
use Rattle.arrays.proofs.Alike.{weighed_alike, passes_alike}
use Rattle.listing.specs.Values.{Kept}

-- one place written
pub placed_alike : (e : List ℕ) (i m : ℕ) → Alike (at e) (at (placed e (suc i) m)) i
placed_alike e i m = record { same = λ k h. sym (placed_other e (suc i) m (suc k) (λ z. omega arith)) }

pub placed_weighed : (A : ℕ) (e : List ℕ) (i m k v : ℕ) → k ≤ i → Passes A (at e) i → weighed A (at (placed e (suc i) m)) k v ≡ weighed A (at e) k v
placed_weighed A e i m k v l p = sym (weighed_alike A k v (alike_part k l (placed_alike e i m)) (sound_small k (passes_sound (passes_part k l p))))

pub placed_passes : (A : ℕ) (e : List ℕ) (i m : ℕ) → i < length e → Passes A (at e) i → weighed A (at e) i m ≡ DONE → Passes A (at (placed e (suc i) m)) (suc i)
placed_passes A e i m h p w = passes_suc i (passes_alike (placed_alike e i m) p)
    (rw (placed_same e (suc i) m (omega arith) h) (placed_weighed A e i m i m (omega arith) p ∙ w))

-- a possible value and the next below it, behind the first i places
module _ {A : ℕ} {E : ℕ → ℕ} {i : ℕ} (passes : Passes A E i) where
  small : Small E i
  small = sound_small i (passes_sound passes)

  pub peak_possible : Possible E i (peak E i)
  unfolding peak Possible
  peak_possible = go i small
    where
      go : (i : ℕ) → Small E i → (peak E i ≡ 0) ⊎ ((0 < i) × In (peak E i) (possible E (E i)))
      go zero s = inl refl
      go (suc i) s = inr (omega arith, possible_top s (E (suc i)) (omega (arith, s.below i (omega arith))))

  start_low : 0 < i → E i < i
  start_low l = small_at small i l (omega arith)

  pub value_most : (m : ℕ) → Possible E i m → m ≤ i
  value_most m h = either (same? m 0)
      (λ z. omega arith)
      (λ d. let (l, j) = above E i m (omega arith) h in omega (arith, start_low l, possible_range small (E i) (omega (arith, start_low l)) m j))

  pub value_above : (m : ℕ) → Possible E i m → 0 < m → peak E (m - 1) < m
  value_above m h l = omega (arith, peak_low (m - 1) (passes_part (m - 1) (omega (arith, value_most m h)) passes))

  next_at : (m : ℕ) → m ≤ i → 0 < i → In m (possible E (E i)) → Possible E i (peak E (m - 1))
  unfolding peak Possible
  next_at zero k l j = inl refl
  next_at (suc zero) k l j = inl refl
  next_at (suc (suc c)) k l j = rw sub-one (inr (
    l,
    possible_part small (suc c) (E i) (omega (arith, start_low l)) j (suc (E (suc c)))
        (rw (possible_suc small c (omega arith)) (there (possible_top small (E (suc c)) (omega (arith, small.below c (omega arith)))))),
  ))

  pub next_value : (m : ℕ) → Possible E i m → 0 < m → Possible E i (peak E (m - 1))
  next_value m h q = let (l, j) = above E i m q h in next_at m (value_most m h) l j

  pub gap : (m j : ℕ) → 0 < i → m ≤ i → In m (possible E (E i)) → In j (possible E (E i)) → j < m → j ≤ peak E (m - 1)
  unfolding peak
  gap zero j l k q h z = absurd (omega arith)
  gap (suc zero) j l k q h z = absurd (omega (arith, possible_range small (E i) (omega (arith, start_low l)) j h))
  gap (suc (suc c)) j l k q h z = rw sub-one (possible_range small (E (suc c)) (omega (arith, small.below c (omega arith))) j
      (possible_below small (suc c) (E i) (omega (arith, start_low l)) q j h (omega arith))).1

-- the table keeps the first i places, whatever is written behind them
pub kept_none : (t : List ℕ) (i : ℕ) → length t ≡ limit → Kept t t i
kept_none t i l = record { long = l; same = refl }

pub take_placed : (i k v : ℕ) (t : List ℕ) → i ≤ k → take i (placed t (suc k) v) ≡ take i t
unfolding placed
take_placed i k v t l = take-set-le i t k v l
