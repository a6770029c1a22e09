-- Judging bytes: what the checks leave, and the answer packed. Assumes nothing.
use mathlib.Core.Path.{◌≡◌, refl, sym, ap, ◌∙◌}
use mathlib.Core.List.{List, [], ◌∷◌}
use Prim.Native.Nat.{ℕ, ◌*◌, ◌≤◌, ◌<◌}
use native.Mathlib.Omega.{arith}
use lib.ListN.{length, take}
use mir.Syntax.{w64}
use mir.Val.{Fits}
use Rattle.std.specs.Prelude.{Result}
use Rattle.words.specs.declared.Refusal.{Refusal}
use Rattle.words.specs.Refusals.{refused, outcome}
use Rattle.words.specs.Numbers.{DONE, limit, matching, sizes}
use Rattle.words.specs.Stand.{verdict}
use Rattle.words.specs.Strips.{closed, closing, joint, joining}
use Rattle.words.specs.Outcomes.{decoded, judge_answer, packing, host_judge_outcome}
use Rattle.words.proofs.Checks.{cleared, sizes_clear, matching_clear}
use Rattle.words.proofs.Refusals.{stops, goes_on, goes_last}
use Rattle.arrays.specs.Steps.{Holds}
use Rattle.judging.specs.Judging.{Judges}
use Rattle.tables.proofs.Strips.{closed_fits, joint_fits, closing_long, joining_long}
use Rattle.host.proofs.Decoding.{decoded_long, decode_start}
use Rattle.host.proofs.Packing.{judge_bounded}

module _ (A n : ℕ) (l : List ℕ) where
  -- a check that refuses is the answer
  pub judge_size : (r : Refusal) → refused r ≡ sizes A n → refused r ≡ judge_answer A n l
  unfolding judge_answer
  judge_size r e = stops (sizes A n) (matching (2 * n) (length l)) (verdict A (decoded l) ∷ []) r e

  module _ (sized : (DONE, 0) ≡ sizes A n) where
    pub judge_within : n ≤ limit
    judge_within = (sizes_clear A n (cleared DONE 0 (sizes A n) sized refl)).2

    -- 2n is a number of bytes where n is within the limit
    pub double_fits : Fits w64 (2 * n)
    double_fits = record { fits = omega (arith, judge_within) }

    pub judge_match : (r : Refusal) → refused r ≡ matching (2 * n) (length l) → refused r ≡ judge_answer A n l
    unfolding judge_answer
    judge_match r e = goes_on (sizes A n) (matching (2 * n) (length l)) (refused r) (verdict A (decoded l) ∷ []) sized
        (stops (matching (2 * n) (length l)) (verdict A (decoded l)) [] r e)

    module _ (matched : (DONE, 0) ≡ matching (2 * n) (length l)) where
      pub judge_bytes : length l ≡ 2 * n
      judge_bytes = matching_clear (2 * n) (length l) (cleared DONE 0 (matching (2 * n) (length l)) matched refl)

      pub judge_told : (t : List ℕ) (r : Result (Unit {0}) Refusal) → Holds t (decoded l) → Judges A t n r → outcome r ≡ judge_answer A n l
      unfolding judge_answer
      judge_told t r held judged = goes_on (sizes A n) (matching (2 * n) (length l)) (outcome r) (verdict A (decoded l) ∷ []) sized
          (goes_last (matching (2 * n) (length l)) (verdict A (decoded l)) (outcome r) matched
          (judged.says ∙ ap (λ (m : ℕ). verdict A (take m t)) (sym (decoded_long l n judge_bytes)) ∙ ap (verdict A) held.array))

  -- the answer packed
  module _ (k p : ℕ) (s : ℕ × ℕ) (is : (k, p) ≡ s) (says : s ≡ judge_answer A n l) where
    pub judge_place : p ≤ limit
    judge_place = omega (arith, (judge_bounded A n l).place, ap (λ (r : ℕ × ℕ). r.1) (is ∙ says))

    pub judge_packed : (r : ℕ) → r ≡ packing (k, p) 0 → r ≡ host_judge_outcome A n l
    unfolding host_judge_outcome
    judge_packed r e = e ∙ ap (λ (t : ℕ × ℕ). packing t 0) (is ∙ says)

-- a strip's length by the strip
module _ (s : List ℕ) (q p : ℕ × ℕ) where
  module _ (x : List ℕ) (is : (s, q) ≡ closing x p) where
    closing_is : length s ≡ closed x
    closing_is = ap (λ (t : List ℕ × (ℕ × ℕ)). length t.0) is ∙ closing_long x p

    pub closing_fit : length s < 1099511627776
    closing_fit = omega (arith, closing_is, closed_fits x)

    pub closing_packed : (r : ℕ) → r ≡ packing (DONE, 0) (length s) → r ≡ packing (DONE, 0) (closed x)
    closing_packed r e = e ∙ ap (packing (DONE, 0)) closing_is

  module _ (x y : List ℕ) (is : (s, q) ≡ joining x y p) where
    joining_is : length s ≡ joint x y
    joining_is = ap (λ (t : List ℕ × (ℕ × ℕ)). length t.0) is ∙ joining_long x y p

    pub joining_fit : length s < 1099511627776
    joining_fit = omega (arith, joining_is, joint_fits x y)

    pub joining_packed : (r : ℕ) → r ≡ packing (DONE, 0) (length s) → r ≡ packing (DONE, 0) (joint x y)
    joining_packed r e = e ∙ ap (packing (DONE, 0)) joining_is

-- what the check needs beside the answers
pub ruleset host_steps = (judge_size, judge_within, double_fits, judge_match, judge_bytes, judge_told, decode_start)
