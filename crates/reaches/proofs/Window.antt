-- The window walk: one card more or no more, the mirror, and the loop that writes a reach table in the code's own terms. Assumes nothing.
use mathlib.Core.Path.{◌≡◌, sym, ap, subst, ◌∙◌}
use mathlib.Core.List.{List}
use Prim.Native.Nat.{ℕ, suc, min, ◌+◌, ◌-◌, ◌≤◌, ◌<◌}
use native.Mathlib.Omega.{arith}
use native.Mathlib.Numerals.{add-one}
use lib.ListN.{length}
use Rattle.std.proofs.Common.{Option, Some}
use Rattle.words.specs.Lists.{at, placed}
use Rattle.words.specs.Rows.{card, reach, reaches}
use Rattle.words.proofs.Lists.{either, same?}
use Rattle.words.proofs.Places.{each_only, placed_long, placed_same, placed_other}
use Rattle.rows.proofs.Reaching.{reach_low, reach_agree, reach_most, reach_whole}
use Rattle.reaches.specs.Reach.{Windowed, Reaching}

-- one card more, or no more, at the place with d cards before it in a row of n
module _ (X : ℕ → ℕ) (n d : ℕ) where
  pub reach_more : (k : ℕ) → k ≤ reach X n (suc d) → d + k < n → X (suc k) ≡ X (d + suc k) → suc k ≤ reach X n (suc d)
  reach_more k h l e = reach_most X n d (suc k) (omega arith)
      (λ j p q. either (same? j (suc k)) (λ z. ap X z ∙ e ∙ ap (λ (m : ℕ). X (d + m)) (sym z)) (λ z. reach_agree X n d j p (omega arith)))

  pub reach_stop : (k : ℕ) → k ≤ reach X n (suc d) → (X (suc k) ≡ X (d + suc k) → ⊥) → k ≡ reach X n (suc d)
  reach_stop k h f = either (same? k (reach X n (suc d))) (λ e. e) (λ g. absurd (f (reach_agree X n d (suc k) (omega arith) (omega arith))))

-- the mirror: behind the first i cards, within the window behind the first l, the row runs as behind the first i - l
pub reach_mirror : (X : ℕ → ℕ) (n l i k : ℕ) → l < i → k ≤ reach X n (suc (i - l)) → k ≤ l + reach X n (suc l) - i → i < n → k ≤ reach X n (suc i)
reach_mirror X n l i k h a b g = reach_most X n i k (omega (arith, reach_low X n l))
    (λ j p q. reach_agree X n (i - l) j p (omega arith) ∙ reach_agree X n l (i - l + j) (omega arith) (omega arith) ∙ ap X (omega arith))

-- stretching a reach behind the first i cards, k of which are known to agree
module _ (x : List ℕ) (i k : ℕ) (known : k ≤ reach (card x) (length x) (i + 1)) where
  stretch_known : k ≤ reach (card x) (length x) (suc i)
  stretch_known = rw add-one at known

  module _ (a b : ℕ) (at-a : a ≡ card x (k + 1)) (at-b : b ≡ card x (i + k + 1)) where
    pub stretch_stop : (a ≡ b → ⊥) → k ≡ reach (card x) (length x) (i + 1)
    stretch_stop d = rw add-one (reach_stop (card x) (length x) i k stretch_known
        (λ e. d (at-a ∙ ap (card x) (add-one k) ∙ e ∙ ap (card x) (omega arith) ∙ sym at-b)))

    pub stretch_more : k < length x - i → a ≡ b → k + 1 ≤ reach (card x) (length x) (i + 1)
    stretch_more l e = rw (add-one k, add-one i) (reach_more (card x) (length x) i k stretch_known (omega arith)
        (ap (card x) (sym (add-one k)) ∙ sym at-a ∙ e ∙ at-b ∙ ap (card x) (omega arith)))

  pub stretch_end : length x - i ≤ k → length x - i ≡ reach (card x) (length x) (i + 1)
  stretch_end l = rw add-one (omega (arith, stretch_known, reach_low (card x) (length x) i))

-- the loop that writes a reach table
pub reach_start : (x t u : List ℕ) → length t ≡ length x → (length x ≡ 0 → ⊥) → u ≡ placed t 1 (length x) → Reaching x u 1
reach_start x t u l d q =
    let w = ap length q ∙ placed_long t 1 (length x) in
    record {
      within = omega arith;
      whole = omega arith;
      right = λ k h.
          let z : 1 ≡ suc k = omega arith in
          subst (λ (m : ℕ). at u m ≡ reach (card x) (length x) m) z
          (ap (λ (m : List ℕ). at m 1) q ∙ placed_same t 1 (length x) (omega arith) (omega arith) ∙ sym (reach_whole (card x) (length x)));
    }

module _ {x t : List ℕ} {i : ℕ} (reaching : Reaching x t i) where
  -- what the window and the mirror place tell
  pub reach_mirrored : (w : Option ℕ) (l a b r : ℕ) → Windowed w i → w ≡ Some l → i < length x → a ≡ at t (l + 1) → b ≡ at t (i - l + 1) → r ≡ min b (l + a - i)
      → r ≤ reach (card x) (length x) (i + 1)
  reach_mirrored w l a b r kept is g p q e =
      let (s, m) = subst (λ (v : Option ℕ). Windowed v i) is kept in
      rw add-one (reach_mirror (card x) (length x) l i r m
      (omega (arith, q, ap (at t) (add-one (i - l)), reaching.right (i - l) (omega arith)))
      (omega (arith, p, ap (at t) (add-one l), reaching.right l m)) g)

  pub reach_next : (k : ℕ) (u : List ℕ) → i < length x → k ≡ reach (card x) (length x) (i + 1) → u ≡ placed t (i + 1) k → Reaching x u (i + 1)
  reach_next k u h e q =
      let w = ap length q ∙ placed_long t (i + 1) k in
      record {
        within = omega arith;
        whole = omega (arith, reaching.whole);
        right = λ d g. ap (λ (v : List ℕ). at v (suc d)) q ∙ entry d g;
      }
    where
      entry : (d : ℕ) → d < i + 1 → at (placed t (i + 1) k) (suc d) ≡ reach (card x) (length x) (suc d)
      entry d g = either (same? (suc d) (i + 1))
          (λ z. ap (at (placed t (i + 1) k)) z ∙ placed_same t (i + 1) k (omega arith) (omega (arith, reaching.whole)) ∙ e ∙ ap (reach (card x) (length x)) (sym z))
          (λ z. placed_other t (i + 1) k (suc d) z ∙ reaching.right d (omega arith))

  pub reach_done : length x ≤ i → t ≡ reaches x
  unfolding reaches
  reach_done h = each_only (reach (card x) (length x)) (length x) t reaching.whole (λ d g. reaching.right d (omega arith))

pub reach_none : (x t : List ℕ) → length x ≡ 0 → length t ≡ length x → t ≡ reaches x
unfolding reaches
reach_none x t z l = each_only (reach (card x) (length x)) (length x) t l (λ d g. absurd (omega arith))
