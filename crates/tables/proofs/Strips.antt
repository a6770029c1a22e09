-- The strips' lengths, at the limit and within it. Assumes nothing.
use mathlib.Core.Path.{◌≡◌, sym, ap, ◌∙◌}
use mathlib.Core.List.{List}
use Prim.Native.Nat.{ℕ, zero, suc, ◌-◌, ◌≤◌, ◌<◌}
use native.Mathlib.Omega.{arith}
use lib.Dec.{leb}
use lib.ListN.{length}
use borrow.Author.Tests.{le-leb, lt-leb, leb-true}
use Rattle.words.specs.Lists.{both}
use Rattle.words.specs.Rows.{card, echo}
use Rattle.words.specs.Numbers.{limit}
use Rattle.words.specs.Strips.{closed, closing, overlap, joint, joining}
use Rattle.words.proofs.Lists.{both_true, both_left, both_right, both_out, which, either}
use Rattle.rows.proofs.Borders.{echo_zero, echo_below}
use Rattle.rows.proofs.Growing.{overlap_closes}
use Rattle.rows.proofs.Walks.{part_long}

pub closed_none : (x : List ℕ) → length x ≡ 0 → 0 ≡ closed x
unfolding closed
closed_none x z = rw (le-leb (length x) limit (omega arith)) (sym (ap (echo (card x)) z ∙ echo_zero (card x)))

pub closed_over : (x : List ℕ) → limit < length x → 0 ≡ closed x
unfolding closed
closed_over x l = rw (lt-leb (length x) limit l)

pub closed_by : (x : List ℕ) (k : ℕ) → length x ≤ limit → k ≡ echo (card x) (length x) → k ≡ closed x
unfolding closed
closed_by x k l q = rw (le-leb (length x) limit l) q

module _ (x y : List ℕ) where
  pub joint_none : length y ≡ 0 → 0 ≡ joint x y
  unfolding joint
  joint_none z = either (which (both (leb (length x) limit) (leb (length y) limit)))
      (λ t. rw t (omega (arith, overlap_closes (card x) (length x) (card y) (length y))))
      (λ f. rw f)

  pub joint_right : limit < length y → 0 ≡ joint x y
  unfolding joint
  joint_right l = rw (both_right (leb (length x) limit) (leb (length y) limit) (lt-leb (length y) limit l))

  pub joint_left : limit < length x → 0 ≡ joint x y
  unfolding joint
  joint_left l = rw (both_left (leb (length x) limit) (leb (length y) limit) (lt-leb (length x) limit l))

  module _ (k : ℕ) (is : k ≡ overlap (card x) (length x) (card y) (length y)) where
    pub joint_by : length x ≤ limit → length y ≤ limit → k ≡ joint x y
    unfolding joint
    joint_by l m = rw (both_true (leb (length x) limit) (leb (length y) limit) (le-leb (length x) limit l) (le-leb (length y) limit m)) is

    pub joint_fits_left : k ≤ length x
    joint_fits_left = let (c, f) = overlap_closes (card x) (length x) (card y) (length y) in omega (arith, c.short)

    pub joint_fits_right : k ≤ length y
    joint_fits_right = let (c, f) = overlap_closes (card x) (length x) (card y) (length y) in omega arith

-- how long the strips are
echo_low : (X : ℕ → ℕ) (n : ℕ) → echo X n ≤ n
echo_low X zero = omega (arith, echo_zero X)
echo_low X (suc n) = omega (arith, echo_below X (suc n) (omega arith))

pub closed_fits : (x : List ℕ) → (closed x ≤ length x) × (closed x ≤ limit)
unfolding closed
closed_fits x = either (which (leb (length x) limit))
    (λ t. rw t (let l = leb-true (length x) limit t in (echo_low (card x) (length x), omega (arith, echo_low (card x) (length x)))))
    (λ f. rw f (omega arith, omega arith))

pub joint_fits : (x y : List ℕ) → (joint x y ≤ length y) × (joint x y ≤ limit)
unfolding joint
joint_fits x y = either (which (both (leb (length x) limit) (leb (length y) limit)))
    (λ t. rw t (
    let l = leb-true (length y) limit (both_out (leb (length x) limit) (leb (length y) limit) t).1 in
    let (c, f) = overlap_closes (card x) (length x) (card y) (length y) in
    (f, omega arith)))
    (λ f. rw f (omega arith, omega arith))

pub closing_long : (x : List ℕ) (p : ℕ × ℕ) → length (closing x p).0 ≡ closed x
unfolding closing
closing_long x p = part_long x p (length x - closed x) (closed x) (omega (arith, closed_fits x))

pub joining_long : (x y : List ℕ) (p : ℕ × ℕ) → length (joining x y p).0 ≡ joint x y
unfolding joining
joining_long x y p = part_long y p 0 (joint x y) (omega (arith, joint_fits x y))

-- what the strips' lengths need
pub ruleset strip_steps = (closed_none, closed_over, closed_by, joint_none, joint_right, joint_left, joint_by, joint_fits_left, joint_fits_right)
