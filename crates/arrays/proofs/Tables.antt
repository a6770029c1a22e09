-- An array in a table: its first n entries. Writing it there place by place, in the code's terms. Assumes nothing.
use mathlib.Core.Path.{◌≡◌, sym, ap, ◌∙◌}
use mathlib.Core.List.{List}
use Prim.Native.Nat.{ℕ, suc, ◌+◌, ◌≤◌, ◌<◌}
use native.Mathlib.Omega.{arith}
use lib.ListN.{length, take}
use lib.Seq.{ext_get_or, get_or-take, length-take-le, take_all}
use Rattle.words.specs.Lists.{at, placed}
use Rattle.words.specs.Rows.{Alike}
use Rattle.words.proofs.Lists.{either, same?}
use Rattle.words.proofs.Places.{placed_long, placed_same, placed_other}
use Rattle.arrays.specs.Steps.{Holds}

-- the first i entries of t, which keeps its length k, are those of e
pub record Copied (e t : List ℕ) (k i : ℕ) : Type 0 where
  pub long : length t ≡ k
  pub right : Alike (at t) (at e) i

pub copied_start : (e t : List ℕ) (k : ℕ) → length t ≡ k → Copied e t k 0
copied_start e t k h = record { long = h; right = record { same = λ j l. absurd (omega arith) } }

module _ {e t : List ℕ} {k i : ℕ} (copying : Copied e t k i) where
  pub copied_more : (u : List ℕ) (v : ℕ) → i < k → v ≡ at e (i + 1) → u ≡ placed t (i + 1) v → Copied e u k (i + 1)
  copied_more u v h q z = record { long = ap length z ∙ placed_long t (i + 1) v ∙ copying.long; right = record { same = λ j m. ap (λ (s : List ℕ). at s (suc j)) z ∙ entry j m } }
    where
      entry : (j : ℕ) → j < i + 1 → at (placed t (i + 1) v) (suc j) ≡ at e (suc j)
      entry j m = either (same? (suc j) (i + 1))
          (λ w. ap (at (placed t (i + 1) v)) w ∙ placed_same t (i + 1) v (omega arith) (omega (arith, copying.long)) ∙ q ∙ ap (at e) (sym w))
          (λ d. placed_other t (i + 1) v (suc j) d ∙ copying.right.same j (omega arith))

  copied_part : (n : ℕ) → n ≤ i → n ≤ k → n ≤ length e → take n t ≡ take n e
  unfolding at
  copied_part n h l m = ext_get_or 0 (take n t) (take n e) (length-take-le n t (omega (arith, copying.long)) ∙ sym (length-take-le n e m))
      (λ j g. let r : j < n = omega (arith, length-take-le n t (omega (arith, copying.long))) in
      get_or-take n t j 0 r ∙ copying.right.same j (omega arith) ∙ sym (get_or-take n e j 0 r))

  pub held_done : length e ≤ i → length e ≤ k → Holds t e
  held_done h l = record { array = copied_part (length e) h l (omega arith) ∙ take_all (length e) e (omega arith) }
