-- Reach, periods and looks of a row are functions of its echoes alone. Assumes nothing.
use mathlib.Core.Path.{◌≡◌, refl, sym, ap, subst, ◌∙◌}
use mathlib.Core.Bool.{Bool, true}
use mathlib.Core.List.{List}
use Prim.Native.Nat.{ℕ, zero, suc, ◌+◌, ◌-◌, ◌≤◌, ◌<◌}
use native.Mathlib.Omega.{arith}
use lib.Dec.{ltb, eqb}
use lib.ListN.{length}
use borrow.Author.Tests.{eqb-true, eq-eqb}
use Rattle.words.specs.Lists.{each, keep, falling, greatest, at}
use Rattle.words.specs.Rows.{card, Small, Alike, echo, echoes, chain, reach, reaches, borders, periods, looks_from, looks}
use Rattle.words.proofs.Lists.{In, any_in, any_out, greatest_low, greatest_passes, greatest_most}
use Rattle.words.proofs.Places.{each_place, each_only, places_length}
use Rattle.words.proofs.Rows.{small_less, small_alike, alike_sym, chain_zero, chain_alike, looks_alike}
use Rattle.rows.specs.Border.{looks_of}
use Rattle.rows.specs.Reach.{on_chain, reach_of, reaches_of, periods_along, periods_of}
use Rattle.rows.proofs.Borders.{echo_below, echo_small, chain_borders}
use Rattle.rows.proofs.Looking.{looks_alone}
use Rattle.rows.proofs.Reaching.{reach_low, reach_chain, reach_whole}
use Rattle.rows.proofs.Walks.{echoes_long, echoes_at}

-- the test and membership say the same
pub on_chain_in : (E : ℕ → ℕ) (i k : ℕ) → In k (chain E (E i)) → on_chain E i k ≡ true
unfolding on_chain
on_chain_in E i k m = any_in (eqb k) m (eq-eqb k k refl)

pub on_chain_out : (E : ℕ → ℕ) (i k : ℕ) → on_chain E i k ≡ true → In k (chain E (E i))
unfolding on_chain
on_chain_out E i k t = let (m, j, e) = any_out (eqb k) (chain E (E i)) t in subst (λ (a : ℕ). In a (chain E (E i))) (sym (eqb-true k m e)) j

-- E has the echoes of X at the first n places
module _ (X E : ℕ → ℕ) (n : ℕ) (alike : Alike E (echo X) n) where
  small : Small E n
  small = small_alike (alike_sym alike) (echo_small X n)

  chain_own : (i : ℕ) → 0 < i → i ≤ n → chain E (E i) ≡ chain (echo X) (echo X i)
  chain_own zero p h = absurd (omega arith)
  chain_own (suc i) p h = ap (chain E) (alike.same i h)
      ∙ chain_alike small alike (echo X (suc i)) (omega (arith, echo_below X (suc i) p))

  -- place 1 reaches n; every other place what the chains say
  pub reach_alone : (d : ℕ) → d < n → reach X n (suc d) ≡ reach_of E n (suc d)
  unfolding reach_of
  reach_alone zero h = reach_whole X n
  reach_alone (suc d) h = omega (arith, up, down)
    where
      p : ℕ → Bool
      p k = on_chain E (suc d + k) k

      top : ℕ
      top = greatest p (suc (n - suc d))

      low : top ≤ n - suc d
      low = omega (arith, greatest_low p (suc (n - suc d)) (omega arith))

      passes : (k : ℕ) → k ≤ n - suc d → k ≤ reach X n (suc (suc d)) → p k ≡ true
      passes k l r = on_chain_in E (suc d + k) k
          (subst (λ (c : List ℕ). In k c) (sym (chain_own (suc d + k) (omega arith) (omega arith))) ((reach_chain X n (suc d) k (omega arith) (omega arith)).0 r))

      fits : (k : ℕ) → k ≤ n - suc d → p k ≡ true → k ≤ reach X n (suc (suc d))
      fits k l t = (reach_chain X n (suc d) k (omega arith) (omega arith)).1
          (subst (λ (c : List ℕ). In k c) (chain_own (suc d + k) (omega arith) (omega arith)) (on_chain_out E (suc d + k) k t))

      up : reach X n (suc (suc d)) ≤ top
      up = let l = reach_low X n (suc d) in greatest_most p (suc (n - suc d)) (reach X n (suc (suc d))) (omega arith) (passes (reach X n (suc (suc d))) l (omega arith))

      down : top ≤ reach X n (suc (suc d))
      down = fits top low (greatest_passes p (suc (n - suc d)) (passes 0 (omega arith) (omega arith)))

-- the borders above 0 are those on the chain of the last place; an empty row has none
pub borders_alone : (X E : ℕ → ℕ) (n : ℕ) → Alike E (echo X) n → E 0 ≡ 0 → keep (ltb 0) (borders X n) ≡ keep (ltb 0) (chain E (E n))
unfolding borders falling keep
borders_alone X E zero a z = rw z (rw (chain_zero E) refl)
borders_alone X E (suc i) a z = ap (keep (ltb 0)) (sym (chain_own X E (suc i) a (suc i) (omega arith) (omega arith) ∙ chain_borders X (suc i) (omega arith)))

-- looks need the echoes of the first n places only
pub looks_same : (E F : ℕ → ℕ) (n : ℕ) → Small E n → Alike E F n → looks_of E n ≡ looks_of F n
unfolding looks_of
looks_same E F zero s a = refl
looks_same E F (suc zero) s a = refl
looks_same E F (suc (suc i)) s a = omega (
  arith,
  looks_same E F (suc i) (small_less (suc i) (omega arith) s) (record { same = λ j h. a.same j (omega arith) }),
  looks_alike (λ j. j) (E (suc (suc i))) s a (E (suc i)) (omega (arith, s.below i (omega arith))),
  ap (λ (m : ℕ). looks_from (λ j. j) F m (E (suc i))) (a.same (suc i) (omega arith)),
  ap (looks_from (λ j. j) F (F (suc (suc i)))) (a.same i (omega arith)),
)

-- the same of a row as a list
module _ (x : List ℕ) where
  row_alike : Alike (at (echoes x)) (echo (card x)) (length x)
  row_alike = record { same = echoes_at x }

  pub reach_echoes : reaches x ≡ reaches_of (echoes x)
  unfolding reaches reaches_of
  reach_echoes = rw (echoes_long x) (each_only (reach_of (at (echoes x)) (length x)) (length x) (reaches x) (places_length (reach (card x) (length x)) (length x))
      (λ d h. each_place (reach (card x) (length x)) (length x) d h ∙ reach_alone (card x) (at (echoes x)) (length x) row_alike d h))

  pub periods_echoes : periods x ≡ periods_of (echoes x)
  unfolding periods periods_of periods_along at
  periods_echoes = rw (echoes_long x) (ap (each (λ k. length x - k)) (borders_alone (card x) (at (echoes x)) (length x) row_alike refl))

  pub looks_echoes : looks x ≡ looks_of (at (echoes x)) (length (echoes x))
  unfolding looks
  looks_echoes = rw (echoes_long x) (looks_alone (card x) (length x)
      ∙ sym (looks_same (at (echoes x)) (echo (card x)) (length x) (small (card x) (at (echoes x)) (length x) row_alike) row_alike))

-- rows with the same echoes have the same reach table, the same periods and the same looks
module _ (x y : List ℕ) (same : echoes x ≡ echoes y) where
  pub rows_reach : reaches x ≡ reaches y
  rows_reach = reach_echoes x ∙ ap reaches_of same ∙ sym (reach_echoes y)

  pub rows_periods : periods x ≡ periods y
  rows_periods = periods_echoes x ∙ ap periods_of same ∙ sym (periods_echoes y)

  pub rows_looks : looks x ≡ looks y
  rows_looks = looks_echoes x ∙ ap (λ (e : List ℕ). looks_of (at e) (length e)) same ∙ sym (looks_echoes y)
