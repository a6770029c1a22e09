-- Laws of reach: what it says, and its place on the chains. Assumes nothing.
use mathlib.Core.Path.{◌≡◌, refl, ap, ◌∙◌}
use mathlib.Core.Logic.{◌↔◌}
use Prim.Native.Nat.{ℕ, suc, ◌+◌, ◌-◌, ◌≤◌, ◌<◌}
use native.Mathlib.Omega.{arith}
use lib.Dec.{eqb}
use Rattle.words.specs.Rows.{agree, echo, chain, reach}
use Rattle.words.proofs.Lists.{greatest_low, greatest_passes, greatest_most, In}
use Rattle.rows.proofs.Borders.{agree_out, agree_in, border_chain}

-- the place with d cards before it, in a row of n: its reach stays in the row, its cards agree so far, and nothing that agrees is greater
module _ (X : ℕ → ℕ) (n d : ℕ) where
  pub reach_low : reach X n (suc d) ≤ n - d
  unfolding reach
  reach_low = omega (arith, greatest_low (agree eqb X X d) (suc (n - d)) (omega arith))

  pub reach_agree : (j : ℕ) → 0 < j → j ≤ reach X n (suc d) → X j ≡ X (d + j)
  unfolding reach agree
  reach_agree j p h = agree_out X X d (reach X n (suc d)) (greatest_passes (agree eqb X X d) (suc (n - d)) refl) j p h

  pub reach_most : (k : ℕ) → k ≤ n - d → ((j : ℕ) → 0 < j → j ≤ k → X j ≡ X (d + j)) → k ≤ reach X n (suc d)
  unfolding reach
  reach_most k h a = greatest_most (agree eqb X X d) (suc (n - d)) k (omega arith) (agree_in X X d k a)

  -- THE law: a place but the first reaches k exactly if k is on the chain of the place where these k cards end
  pub reach_chain : (k : ℕ) → 0 < d → d + k ≤ n → (k ≤ reach X n (suc d)) ↔ In k (chain (echo X) (echo X (d + k)))
  reach_chain k p f = (
    λ h. (border_chain X (d + k) k (omega arith)).0 (record {
      less = omega arith;
      edge = record { short = omega arith; same = λ j m q l e. reach_agree j q (omega arith) ∙ ap X (omega arith) };
    }),
    λ i.
        let b = (border_chain X (d + k) k (omega arith)).1 i in
        reach_most k (omega arith) (λ j q l. b.edge.same j (d + j) q l (omega arith)),
  )

-- place 1 reaches the whole row
pub reach_whole : (X : ℕ → ℕ) (n : ℕ) → reach X n 1 ≡ n
reach_whole X n = omega (arith, reach_low X n 0, reach_most X n 0 n (omega arith) (λ j p h. ap X (omega arith)))
