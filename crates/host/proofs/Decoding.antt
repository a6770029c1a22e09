-- Bytes and the echoes that they stand for. Assumes nothing.
use mathlib.Core.Path.{◌≡◌, refl, sym, ap, ◌∙◌}
use mathlib.Core.List.{List, [], ◌∷◌}
use Prim.Native.Nat.{ℕ, zero, suc, ◌+◌, ◌-◌, ◌*◌, ◌<◌, ◌≤◌}
use native.Mathlib.Omega.{arith}
use native.Mathlib.Numerals.{add-one}
use lib.ListN.{length, get_or, set}
use Rattle.words.specs.Lists.{at, placed}
use Rattle.words.specs.Outcomes.{decoded}
use Rattle.words.specs.Numbers.{limit}
use Rattle.arrays.specs.Steps.{Holds}
use Rattle.words.proofs.Places.{set_placed}
use Rattle.arrays.proofs.Tables.{Copied, copied_start, copied_more, held_done}

pub decoded_long : (l : List ℕ) (n : ℕ) → length l ≡ 2 * n → length (decoded l) ≡ n
unfolding decoded
decoded_long [] n h = omega arith
decoded_long (low ∷ []) n h = absurd (omega arith)
decoded_long (low ∷ high ∷ l) zero h = absurd (omega arith)
decoded_long (low ∷ high ∷ l) (suc n) h = ap suc (decoded_long l n (omega arith))

decoded_at : (l : List ℕ) (i : ℕ) → 2 * i + 1 < length l → at (decoded l) (suc i) ≡ get_or l (2 * i) 0 + 256 * get_or l (2 * i + 1) 0
unfolding decoded at
decoded_at [] i h = absurd (omega arith)
decoded_at (low ∷ []) i h = absurd (omega arith)
decoded_at (low ∷ high ∷ l) zero h = refl
decoded_at (low ∷ high ∷ l) (suc i) h =
    let p : suc (suc (2 * i)) ≡ 2 * suc i = omega arith in
    let q : suc (suc (2 * i + 1)) ≡ 2 * suc i + 1 = omega arith in
    decoded_at l i (omega arith) ∙ ap (λ (m : ℕ). get_or (low ∷ high ∷ l) m 0 + 256 * get_or l (2 * i + 1) 0) p
    ∙ ap (λ (m : ℕ). get_or (low ∷ high ∷ l) (2 * suc i) 0 + 256 * get_or (low ∷ high ∷ l) m 0) q

-- the loop that decodes: the first i echoes are in the table
placed_next : (t : List ℕ) (i v : ℕ) → set t i v ≡ placed t (i + 1) v
placed_next t i v = let z : i ≡ i + 1 - 1 = omega arith in ap (λ (k : ℕ). set t k v) z ∙ set_placed t (i + 1) v (omega arith)

module _ (l t : List ℕ) (i : ℕ) (decoding : Copied (decoded l) t limit i) (n : ℕ) (bytes : length l ≡ 2 * n) (room : n ≤ limit) where
  pub decode_more : (u : List ℕ) (v : ℕ) → i < n → v ≡ get_or l (2 * i) 0 + 256 * get_or l (2 * i + 1) 0 → u ≡ set t i v → Copied (decoded l) u limit (i + 1)
  decode_more u v h q r = copied_more decoding u v (omega arith)
      (q ∙ sym (ap (at (decoded l)) (add-one i) ∙ decoded_at l i (omega arith))) (r ∙ placed_next t i v)

  pub decode_done : n ≤ i → Holds t (decoded l)
  decode_done h = let e = decoded_long l n bytes in held_done decoding (omega arith) (omega arith)

pub decode_start : (l t : List ℕ) → length t ≡ limit → Copied (decoded l) t limit 0
decode_start l t h = copied_start (decoded l) t limit h
