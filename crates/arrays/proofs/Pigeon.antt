-- Letters and holes: a list shorter than a range misses a letter of it, different letters of a range are no more than it has, and the least letter that is
-- no member. Assumes nothing.
use mathlib.Core.Path.{◌≡◌, refl, sym, ap, subst, ◌∙◌}
use mathlib.Core.Bool.{Bool, true, false, not}
use mathlib.Core.List.{List, [], ◌∷◌}
use Prim.Native.Nat.{ℕ, zero, suc, ◌+◌, ◌≤◌, ◌<◌}
use native.Mathlib.Omega.{arith}
use lib.Dec.{eqb}
use lib.ListN.{length}
use borrow.Author.Tests.{eqb-true, eqb-false, eq-eqb, ne_eqb, not-true}
use Rattle.words.specs.Lists.{any, keep}
use Rattle.words.specs.Numbers.{first_letter}
use Rattle.words.specs.Least.{least_not, free_letter}
use Rattle.words.proofs.Lists.{which, either, same?, not_both, In, here, there, any_in, any_out, keep_yes, keep_no, keep_in, keep_out, keep_few, in?}

-- no member stands twice
unfoldable pub Distinct : List ℕ → Type 0
Distinct [] = Unit
Distinct (x ∷ l) = (In x l → ⊥) × Distinct l

-- all but c
abbrev pub but : ℕ → ℕ → Bool
but c x = not (eqb c x)

pub keep_shorter : (p : ℕ → Bool) {c : ℕ} {l : List ℕ} → In c l → p c ≡ false → length (keep p l) < length l
keep_shorter p (here {l}) h = rw (keep_no p _ l h) (omega (arith, keep_few p l))
keep_shorter p (there {x} {l} i) h = either (which (p x))
    (λ t. rw (keep_yes p x l t) (omega (arith, keep_shorter p i h)))
    (λ f. rw (keep_no p x l f) (omega (arith, keep_shorter p i h)))

keep_distinct : (p : ℕ → Bool) (l : List ℕ) → Distinct l → Distinct (keep p l)
unfolding Distinct keep
keep_distinct p [] d = tt
keep_distinct p (x ∷ l) d = either (which (p x))
    (λ t. rw t ((λ i. d.0 (keep_out p l x i).0), keep_distinct p l d.1))
    (λ f. rw f (keep_distinct p l d.1))

keep_all : (p : ℕ → Bool) (l : List ℕ) → ((m : ℕ) → In m l → p m ≡ true) → keep p l ≡ l
unfolding keep
keep_all p [] h = refl
keep_all p (x ∷ l) h = rw (h x here, keep_all p l (λ m i. h m (there i)))

-- leaving one letter out costs at most one
one_less : (c : ℕ) (l : List ℕ) → Distinct l → length l ≤ suc (length (keep (but c) l))
unfolding Distinct
one_less c [] d = omega arith
one_less c (x ∷ l) d = either (same? c x)
    (λ e. rw (keep_no (but c) x l (ap not (eq-eqb c x e)), keep_all (but c) l (λ m i. ap not (ne_eqb c m (λ z. d.0 (subst (λ (k : ℕ). In k l) (sym z ∙ e) i))))) (omega arith))
    (λ n. rw (keep_yes (but c) x l (ap not (ne_eqb c x n))) (omega (arith, one_less c l d.1)))

-- different letters of a range are no more than the range has
pub fits : (f c : ℕ) (l : List ℕ) → Distinct l → ((x : ℕ) → In x l → (c ≤ x) × (x < c + f)) → length l ≤ f
fits zero c [] d h = omega arith
fits zero c (x ∷ l) d h = absurd (omega (arith, h x here))
fits (suc f) c l d h = omega (
  arith,
  one_less c l d,
  fits f (suc c) (keep (but c) l) (keep_distinct (but c) l d)
      (λ x i. let (j, t) = keep_out (but c) l x i in let n = eqb-false c x (not-true _ t) in low x (h x j) n),
)
  where
    low : (x : ℕ) → (c ≤ x) × (x < c + suc f) → (c ≡ x → ⊥) → (suc c ≤ x) × (x < suc c + f)
    low x r n = omega arith

-- a range longer than l has a letter that is not in l
pub free : (f c : ℕ) (l : List ℕ) → length l < f → (x : ℕ) × (c ≤ x) × (x < c + f) × (In x l → ⊥)
free zero c l h = absurd (omega arith)
free (suc f) c l h = either (in? c l)
    (λ i. let (x, a, b, d) = free f (suc c) (keep (but c) l) (omega (arith, keep_shorter (but c) i (ap not (eq-eqb c c refl)))) in
    (x, omega arith, omega arith, λ j. d (keep_in (but c) j (ap not (ne_eqb c x (λ z. omega arith))))))
    (λ d. (c, omega arith, omega arith, d))

-- the least letter from c on that is not in l: from c on, at most any that is free, and free itself where one is within reach
module _ (l : List ℕ) where
  skipped : (c x : ℕ) → any (eqb c) l ≡ true → (In x l → ⊥) → c ≡ x → ⊥
  skipped c x t d z = let (k, i, e) = any_out (eqb c) l t in d (subst (λ (y : ℕ). In y l) (sym (eqb-true c k e) ∙ z) i)

  least_not_from : (f c : ℕ) → c ≤ least_not f c l
  unfolding least_not
  least_not_from zero c = omega arith
  least_not_from (suc f) c = either (which (any (eqb c) l)) (λ t. rw t (omega (arith, least_not_from f (suc c)))) (λ n. rw n (omega arith))

  pub least_not_most : (f c x : ℕ) → c ≤ x → (In x l → ⊥) → least_not f c l ≤ x
  unfolding least_not
  least_not_most zero c x a d = a
  least_not_most (suc f) c x a d = either (which (any (eqb c) l))
      (λ t. let n = skipped c x t d in rw t (least_not_most f (suc c) x (omega arith) d))
      (λ n. rw n a)

  least_not_free : (f c x : ℕ) → c ≤ x → x ≤ c + f → (In x l → ⊥) → In (least_not f c l) l → ⊥
  unfolding least_not
  least_not_free zero c x a b d = let e : x ≡ c = omega arith in subst (λ (y : ℕ). In y l → ⊥) e d
  least_not_free (suc f) c x a b d = either (which (any (eqb c) l))
      (λ t. let n = skipped c x t d in rw t (least_not_free f (suc c) x (omega arith) (omega arith) d))
      (λ n. rw n (λ i. not_both (any_in (eqb c) i (eq-eqb c c refl)) n))

  -- the least letter that is no member
  pub free_from : first_letter ≤ free_letter l
  unfolding free_letter
  free_from = least_not_from (length l) first_letter

  pub free_least : (x : ℕ) → first_letter ≤ x → (In x l → ⊥) → free_letter l ≤ x
  unfolding free_letter
  free_least x a d = least_not_most (length l) first_letter x a d

  pub free_none : In (free_letter l) l → ⊥
  unfolding free_letter
  free_none = let (x, a, b, d) = free (suc (length l)) first_letter l (omega arith) in least_not_free (length l) first_letter x a (omega arith) d

  -- trying f letters finds it, where one of them is free
  pub free_tried : (f x : ℕ) → first_letter ≤ x → x < first_letter + f → (In x l → ⊥) → least_not f first_letter l ≡ free_letter l
  free_tried f x a b d = omega (
    arith,
    least_not_most f first_letter (free_letter l) free_from free_none,
    free_least (least_not f first_letter l) (least_not_from f first_letter) (least_not_free f first_letter x a (omega arith) d),
  )
