-- Looks: the bound 2n - 2, and that they are a function of the echoes alone. Assumes nothing.
use mathlib.Core.Path.{◌≡◌, refl, sym, ap, subst, ◌∙◌}
use Prim.Native.Nat.{ℕ, zero, suc, ◌+◌, ◌-◌, ◌*◌, ◌≤◌, ◌<◌}
use native.Mathlib.Omega.{arith}
use borrow.Author.Tests.{eq-eqb, ne_eqb}
use Rattle.words.specs.Rows.{Small, echo, looks_from, looks_at, looks_to}
use Rattle.words.proofs.Lists.{either, same?}
use Rattle.words.proofs.Rows.{down_ind, looks_zero, looks_suc}
use Rattle.rows.specs.Border.{Closes, Border, grown, looks_of}
use Rattle.rows.proofs.Borders.{closes_of, closes_trans, closes_more, closes_less, closes_card, echo_border, echo_most, echo_below, echo_rises, echo_small}
use Rattle.rows.proofs.Growing.{grown_low, grown_on, echo_next}

module _ {E : ℕ → ℕ} {n : ℕ} (small : Small E n) (X : ℕ → ℕ) (c : ℕ) where
  -- a look that finds its card is the last; one that does not goes on with the echo
  pub looks_hit : (b : ℕ) → b ≤ n → X (suc b) ≡ c → looks_from X E c b ≡ 1
  looks_hit zero h e = looks_zero X E c
  looks_hit (suc b) h e = looks_suc small X c b h ∙ rw (eq-eqb (X (suc (suc b))) c e)

  pub looks_on : (b : ℕ) → b < n → (X (suc (suc b)) ≡ c → ⊥) → looks_from X E c (suc b) ≡ suc (looks_from X E c (E (suc b)))
  looks_on b h d = looks_suc small X c b h ∙ rw (ne_eqb (X (suc (suc b))) c d)

module _ (X : ℕ → ℕ) where
  -- a look either lowers the border or grows it
  looks_grown : (c n b : ℕ) → b ≤ n → looks_from X (echo X) c b + grown X b c ≤ b + 2
  looks_grown c n = down_ind (echo_small X n) (λ b. looks_from X (echo X) c b + grown X b c ≤ b + 2)
      (omega (arith, looks_zero X (echo X) c, grown_low X 0 c))
      (λ b h rest. either (same? (X (suc (suc b))) c)
      (λ e. omega (arith, looks_hit (echo_small X n) X c (suc b) h e, grown_low X (suc b) c))
      (λ d. omega (arith, looks_on (echo_small X n) X c b h d, grown_on X (suc b) c (λ z. omega arith) d, echo_below X (suc b) (omega arith))))

  looks_echo : (i : ℕ) → looks_to X (echo X) (suc i) + echo X (suc i) ≤ 2 * i
  unfolding looks_to looks_at
  looks_echo zero = omega (arith, echo_below X 1 (omega arith))
  looks_echo (suc i) = omega (
    arith,
    looks_echo i,
    echo_next X (suc i) (omega arith),
    looks_grown (X (suc (suc i))) (suc i) (echo X (suc i)) (omega (arith, echo_below X (suc i) (omega arith))),
  )

  -- the looks of a row are at most 2n - 2, and 0 for the empty row
  pub looks_most : (n : ℕ) → looks_to X (echo X) n ≤ 2 * n - 2
  unfolding looks_to
  looks_most zero = omega arith
  looks_most (suc i) = omega (arith, looks_echo i)

  -- at a place behind the first i, from b on: a look finds its card exactly where b + 1 is the echo
  looks_own : (i b : ℕ) → 0 < i → b ≤ i → Closes X X i b → b < i → echo X (suc i) ≤ suc b
      → looks_from X (echo X) (X (suc i)) b ≡ looks_from (λ j. j) (echo X) (echo X (suc i)) b
  looks_own i b p = down_ind (echo_small X i) (λ b. Closes X X i b → b < i → echo X (suc i) ≤ suc b → looks_from X (echo X) (X (suc i)) b ≡ looks_from (λ j. j) (echo X) (echo X (suc i)) b)
      (λ c l m. looks_zero X (echo X) (X (suc i)) ∙ sym (looks_zero (λ j. j) (echo X) (echo X (suc i))))
      (λ b h rest c l m. either (same? (echo X (suc i)) (suc (suc b)))
      (λ e. looks_hit (echo_small X i) X (X (suc i)) (suc b) h (found (suc b) e) ∙ sym (looks_hit (echo_small X i) (λ j. j) (echo X (suc i)) (suc b) h (sym e)))
      (λ d. looks_on (echo_small X i) X (X (suc i)) b h (λ z. d (omega (arith, most (suc b) c l z)))
      ∙ ap suc (rest (closes_trans c (echo_border X (suc b) (omega arith)).edge) (omega (arith, echo_below X (suc b) (omega arith))) (lower (suc b) c l (omega arith)))
      ∙ sym (looks_on (echo_small X i) (λ j. j) (echo X (suc i)) b h (λ z. d (sym z)))))
      b
    where
      found : (b : ℕ) → echo X (suc i) ≡ suc b → X (suc b) ≡ X (suc i)
      found b e = closes_card (subst (λ (m : ℕ). Border X (suc i) m) e (echo_border X (suc i) (omega arith))).edge

      most : (b : ℕ) → Closes X X i b → b < i → X (suc b) ≡ X (suc i) → suc b ≤ echo X (suc i)
      most b c l z = echo_most (record { less = omega arith; edge = closes_more c z })

      under : (b m : ℕ) → Closes X X i b → b < i → Border X (suc i) m → m ≤ b → m ≤ suc (echo X b)
      under b zero c l g h = omega arith
      under b (suc k) c l g h = omega (arith, echo_most (record { less = h; edge = closes_of c (closes_less g.edge) (omega arith) }))

      lower : (b : ℕ) → Closes X X i b → b < i → echo X (suc i) ≤ b → echo X (suc i) ≤ suc (echo X b)
      lower b c l h = under b (echo X (suc i)) c l (echo_border X (suc i) (omega arith)) h

  looks_place : (i : ℕ) → looks_from X (echo X) (X (suc (suc i))) (echo X (suc i)) ≡ looks_from (λ j. j) (echo X) (echo X (suc (suc i))) (echo X (suc i))
  looks_place i = let b = echo_border X (suc i) (omega arith) in
      looks_own (suc i) (echo X (suc i)) (omega arith) (omega (arith, b.less)) b.edge b.less (echo_rises X (suc i))

  -- the looks of a row are a function of its echoes
  pub looks_alone : (n : ℕ) → looks_to X (echo X) n ≡ looks_of (echo X) n
  unfolding looks_to looks_at looks_of
  looks_alone zero = refl
  looks_alone (suc zero) = refl
  looks_alone (suc (suc i)) = omega (arith, looks_alone (suc i), looks_place i)
