-- The theory of borders (001, Lemma 2.1), from the relation between two rows: the first k cards of Y are the last k of X[1..i]. A border is the case
-- Y = X. Assumes nothing.
use mathlib.Core.Path.{◌≡◌, refl, sym, ap, subst, ◌∙◌}
use mathlib.Core.Bool.{true}
use mathlib.Core.Logic.{◌↔◌}
use Prim.Native.Nat.{ℕ, zero, suc, ◌+◌, ◌-◌, ◌≤◌, ◌<◌}
use native.Mathlib.Omega.{arith}
use lib.Dec.{eqb}
use borrow.Author.Tests.{eqb-true, eq-eqb}
use Rattle.words.specs.Lists.{greatest, keep, falling}
use Rattle.words.specs.Rows.{agree, closes, echo, chain, borders, Small}
use Rattle.words.proofs.Lists.{which, either, same?, not_both, greatest_low, greatest_passes, greatest_most, In, there, In-nil, In-cons, In-here, keep_in, keep_out, falling_in, falling_out, falling_falls, keep_falls, falls_same}
use Rattle.words.proofs.Rows.{down_ind, chain_zero, chain_suc, chain_falls}
use Rattle.rows.specs.Border.{Closes, Border}

pub agree_out : (Y X : ℕ → ℕ) (d k : ℕ) → agree eqb Y X d k ≡ true → (j : ℕ) → 0 < j → j ≤ k → Y j ≡ X (d + j)
unfolding agree
agree_out Y X d zero t j p h = absurd (omega arith)
agree_out Y X d (suc k) t j p h = either (which (eqb (Y (suc k)) (X (d + suc k))))
    (λ u. either (same? j (suc k)) (λ e. rw e (eqb-true _ _ u)) (λ n. agree_out Y X d k (rw u at t) j p (omega arith)))
    (λ f. absurd (not_both (rw f at t) refl))

pub agree_in : (Y X : ℕ → ℕ) (d k : ℕ) → ((j : ℕ) → 0 < j → j ≤ k → Y j ≡ X (d + j)) → agree eqb Y X d k ≡ true
unfolding agree
agree_in Y X d zero a = refl
agree_in Y X d (suc k) a = rw (eq-eqb _ _ (a (suc k) (omega arith) (omega arith))) (agree_in Y X d k (λ j p h. a j p (omega arith)))

-- the test and the relation say the same
pub closes_out : (Y X : ℕ → ℕ) (i k : ℕ) → k ≤ i → closes Y X i k ≡ true → Closes Y X i k
unfolding closes
closes_out Y X i k l t = record { short = l; same = λ j h p m e. agree_out Y X (i - k) k t j p m ∙ ap X (omega arith) }

pub closes_in : {Y X : ℕ → ℕ} {i k : ℕ} → Closes Y X i k → closes Y X i k ≡ true
unfolding closes
closes_in {Y} {X} {i} {k} c = agree_in Y X (i - k) k (λ j p h. c.same j (i - k + j) p h (omega (arith, c.short)))

-- nothing closes every row, and every row closes itself
pub closes_none : (Y X : ℕ → ℕ) (i : ℕ) → Closes Y X i 0
closes_none Y X i = record { short = omega arith; same = λ j h p m e. absurd (omega arith) }

pub closes_all : (X : ℕ → ℕ) (i : ℕ) → Closes X X i i
closes_all X i = record { short = omega arith; same = λ j h p m e. ap X (omega arith) }

-- what closes the part that closes a row closes the row; of two that close one row the shorter closes the longer
pub closes_trans : {Y X : ℕ → ℕ} {i k m : ℕ} → Closes Y X i k → Closes Y Y k m → Closes Y X i m
closes_trans {Y} {X} {i} {k} {m} c d = record {
  short = omega (arith, c.short, d.short);
  same = λ j h p l e. d.same j (k - m + j) p l (omega (arith, d.short)) ∙ c.same (k - m + j) h (omega arith) (omega (arith, d.short)) (omega (arith, d.short));
}

pub closes_of : {Y X : ℕ → ℕ} {i k m : ℕ} → Closes Y X i k → Closes Y X i m → m ≤ k → Closes Y Y k m
closes_of {Y} {X} {i} {k} {m} c d s = record {
  short = s;
  same = λ j h p l e. d.same j (i - m + j) p l (omega (arith, d.short)) ∙ sym (c.same h (i - m + j) (omega arith) (omega arith) (omega (arith, d.short)));
}

-- one card more, and one less
pub closes_more : {Y X : ℕ → ℕ} {i k : ℕ} → Closes Y X i k → Y (suc k) ≡ X (suc i) → Closes Y X (suc i) (suc k)
closes_more {Y} {X} {i} {k} c q = record {
  short = omega (arith, c.short);
  same = λ j h p l e. either (same? j (suc k)) (λ z. ap Y z ∙ q ∙ ap X (omega arith)) (λ d. c.same j h p (omega arith) (omega arith));
}

pub closes_less : {Y X : ℕ → ℕ} {i k : ℕ} → Closes Y X (suc i) (suc k) → Closes Y X i k
closes_less c = record { short = omega (arith, c.short); same = λ j h p l e. c.same j h p (omega arith) (omega arith) }

pub closes_card : {Y X : ℕ → ℕ} {i k : ℕ} → Closes Y X (suc i) (suc k) → Y (suc k) ≡ X (suc i)
closes_card {Y} {X} {i} {k} c = c.same (suc k) (suc i) (omega arith) (omega arith) (omega arith)

-- the same of borders: a border of a border is a border; of two borders of one prefix the shorter is a border of the longer
pub border_border : {X : ℕ → ℕ} {i k m : ℕ} → Border X i k → Border X k m → Border X i m
border_border b c = record { less = omega (arith, b.less, c.less); edge = closes_trans b.edge c.edge }

pub border_of : {X : ℕ → ℕ} {i k m : ℕ} → Border X i k → Border X i m → m < k → Border X k m
border_of b c l = record { less = l; edge = closes_of b.edge c.edge (omega arith) }

-- k + 1 is a border of place i + 1 exactly if k is one of place i and the cards match
pub border_step : (X : ℕ → ℕ) (i k : ℕ) → Border X (suc i) (suc k) ↔ (Border X i k × (X (suc k) ≡ X (suc i)))
border_step X i k = (
  λ b. (record { less = omega (arith, b.less); edge = closes_less b.edge }, closes_card b.edge),
  λ b. record { less = omega (arith, b.0.less); edge = closes_more b.0.edge b.1 },
)

-- the echo is a border, the greatest, and the only number with that property
pub echo_border : (X : ℕ → ℕ) (i : ℕ) → 0 < i → Border X i (echo X i)
unfolding echo
echo_border X i h =
    let l = greatest_low (closes X X i) i h in
    record { less = l; edge = closes_out X X i (echo X i) (omega arith) (greatest_passes (closes X X i) i (closes_in (closes_none X X i))) }

pub echo_most : {X : ℕ → ℕ} {i k : ℕ} → Border X i k → k ≤ echo X i
unfolding echo
echo_most {X} {i} {k} b = greatest_most (closes X X i) i k b.less (closes_in b.edge)

pub echo_only : (X : ℕ → ℕ) (i k : ℕ) → Border X i k → ((m : ℕ) → Border X i m → m ≤ k) → k ≡ echo X i
echo_only X i k b most = omega (arith, most (echo X i) (echo_border X i (omega (arith, b.less))), echo_most b)

-- every echo is below its place, and at most one more than the echo before
pub echo_below : (X : ℕ → ℕ) (i : ℕ) → 0 < i → echo X i < i
echo_below X i h = (echo_border X i h).less

pub echo_zero : (X : ℕ → ℕ) → echo X 0 ≡ 0
unfolding echo greatest
echo_zero X = refl

pub echo_one : (X : ℕ → ℕ) → 0 ≡ echo X 1
echo_one X = omega (arith, echo_below X 1 (omega arith))

pub echo_rises : (X : ℕ → ℕ) (i : ℕ) → echo X (suc i) ≤ suc (echo X i)
echo_rises X i = go (echo X (suc i)) (echo_border X (suc i) (omega arith))
  where
    go : (m : ℕ) → Border X (suc i) m → m ≤ suc (echo X i)
    go zero b = omega arith
    go (suc k) b = omega (arith, echo_most ((border_step X i k).0 b).0)

pub echo_small : (X : ℕ → ℕ) (n : ℕ) → Small (echo X) n
echo_small X n = record { below = λ i h. omega (arith, echo_below X (suc i) (omega arith)) }

-- what closes a place and is shorter closes its echo
pub closes_echo : {X : ℕ → ℕ} {i k : ℕ} → Closes X X i k → k < i → Closes X X (echo X i) k
closes_echo {X} {i} {k} c l = closes_of (echo_border X i (omega arith)).edge c (echo_most (record { less = l; edge = c }))

-- the chain from b on holds exactly what closes X[1..b], b itself among it
pub chain_closes : (X : ℕ → ℕ) (b k : ℕ) → In k (chain (echo X) b) → Closes X X b k
chain_closes X b k = down_ind (echo_small X b) (λ b. In k (chain (echo X) b) → Closes X X b k)
    (λ i. either (In-cons (rw (chain_zero (echo X)) at i)) (λ e. subst (λ (m : ℕ). Closes X X 0 m) (sym e) (closes_none X X 0)) (λ j. absurd (In-nil j)))
    (λ c h rest i. either (In-cons (rw (chain_suc (echo_small X b) c h) at i))
    (λ e. subst (λ (m : ℕ). Closes X X (suc c) m) (sym e) (closes_all X (suc c)))
    (λ j. closes_trans (echo_border X (suc c) (omega arith)).edge (rest j)))
    b (omega arith)

pub closes_chain : (X : ℕ → ℕ) (b k : ℕ) → Closes X X b k → In k (chain (echo X) b)
closes_chain X b k = down_ind (echo_small X b) (λ b. Closes X X b k → In k (chain (echo X) b))
    (λ c. rw (chain_zero (echo X)) (In-here (omega (arith, c.short))))
    (λ d h rest c. rw (chain_suc (echo_small X b) d h)
    (either (same? k (suc d)) (λ e. In-here e) (λ n. there (rest (closes_echo c (omega (arith, c.short)))))))
    b (omega arith)

-- m is a border of place i exactly if it is on the chain of place i
pub border_chain : (X : ℕ → ℕ) (i m : ℕ) → 0 < i → Border X i m ↔ In m (chain (echo X) (echo X i))
border_chain X i m h = (
  λ b. closes_chain X (echo X i) m (closes_echo b.edge b.less),
  λ j.
      let c = chain_closes X (echo X i) m j in
      let b = echo_border X i h in
      record { less = omega (arith, c.short, b.less); edge = closes_trans b.edge c },
)

-- the chain of place i is the list of its borders, the longest first (001, Lemma 2.1)
pub chain_borders : (X : ℕ → ℕ) (i : ℕ) → 0 < i → chain (echo X) (echo X i) ≡ borders X i
unfolding borders
chain_borders X i h =
    let l = echo_below X i h in
    falls_same (chain (echo X) (echo X i)) (keep (closes X X i) (falling i)) (chain_falls (echo_small X i) (echo X i) (omega arith)) (keep_falls (closes X X i) (falling i) (falling_falls i))
    (λ m j. let b = (border_chain X i m h).1 j in keep_in (closes X X i) (falling_in i m b.less) (closes_in b.edge))
    (λ m j.
    let (k, t) = keep_out (closes X X i) (falling i) m j in
    let s = falling_out i m k in
    (border_chain X i m h).0 (record { less = s; edge = closes_out X X i m (omega arith) t }))
