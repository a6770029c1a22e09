-- The words on lines with more bytes behind. Assumes nothing.
use mathlib.Core.Path.{◌≡◌, refl, sym, ap, ◌∙◌}
use mathlib.Core.Bool.{Bool, true, false}
use mathlib.Core.List.{List, [], ◌∷◌, ◌++◌}
use Prim.Native.Nat.{ℕ, suc, ◌+◌, ◌≤◌, ◌<◌, min}
use native.Mathlib.Omega.{arith}
use lib.Dec.{leb, eqb}
use lib.ListN.{length, length-append}
use borrow.Author.Tests.{eq-eqb, ne_eqb, le-leb, leb-true}
use Rattle.words.specs.Lists.{both, every}
use Rattle.words.specs.Numbers.{DONE, ALPHABET}
use Rattle.words.proofs.Lists.{which, either, both_true, both_left, both_right, both_out}
use Rattle.words.specs.Sheet.{value}
use Rattle.lines.specs.Line.{TAB, END, until, past, count, line_of, digit, numeral, good, meaning}
use Rattle.lines.specs.Taking.{figures}

module _ (c : ℕ) where
  count_yes : (b : ℕ) (l : List ℕ) → eqb b c ≡ true → count c (b ∷ l) ≡ suc (count c l)
  unfolding count
  count_yes b l t = rw t

  count_no : (b : ℕ) (l : List ℕ) → eqb b c ≡ false → count c (b ∷ l) ≡ count c l
  unfolding count
  count_no b l f = rw f

  pub count_more : (l m : List ℕ) → count c (l ++ m) ≡ count c l + count c m
  unfolding count
  count_more [] m = omega arith
  count_more (b ∷ l) m = either (which (eqb b c)) (λ t. rw t (omega (arith, count_more l m))) (λ f. rw f (count_more l m))

  pub count_one : (b : ℕ) → b ≡ c → count c (b ∷ []) ≡ 1
  unfolding count
  count_one b e = rw (eq-eqb b c e)

  pub count_other : (b : ℕ) → (b ≡ c → ⊥) → count c (b ∷ []) ≡ 0
  unfolding count
  count_other b d = rw (ne_eqb b c d)

  -- behind a first c nothing changes what stands before it
  pub until_met : (l m : List ℕ) → (count c l ≡ 0 → ⊥) → until c (l ++ m) ≡ until c l
  unfolding until count
  until_met [] m d = absurd (d refl)
  until_met (b ∷ l) m d = either (which (eqb b c)) (λ t. rw t) (λ f. rw f (ap (λ (k : List ℕ). b ∷ k) (until_met l m (λ z. d (count_no b l f ∙ z)))))

  -- a byte c closes what stands before it, and where none stands yet any other joins it
  pub until_here : (l : List ℕ) (b : ℕ) (m : List ℕ) → b ≡ c → until c (l ++ (b ∷ m)) ≡ until c l
  unfolding until
  until_here [] b m e = rw (eq-eqb b c e)
  until_here (x ∷ l) b m e = either (which (eqb x c)) (λ t. rw t) (λ f. rw f (ap (λ (k : List ℕ). x ∷ k) (until_here l b m e)))

  pub until_snoc : (l : List ℕ) (b : ℕ) → count c l ≡ 0 → (b ≡ c → ⊥) → until c (l ++ (b ∷ [])) ≡ until c l ++ (b ∷ [])
  unfolding until
  until_snoc [] b z d = rw (ne_eqb b c d)
  until_snoc (x ∷ l) b z d = either (which (eqb x c))
      (λ t. absurd (omega (arith, count_yes x l t)))
      (λ f. rw f (ap (λ (k : List ℕ). x ∷ k) (until_snoc l b (sym (count_no x l f) ∙ z) d)))

  pub past_met : (l m : List ℕ) → (count c l ≡ 0 → ⊥) → past c (l ++ m) ≡ past c l ++ m
  unfolding past count
  past_met [] m d = absurd (d refl)
  past_met (b ∷ l) m d = either (which (eqb b c)) (λ t. rw t) (λ f. rw f (past_met l m (λ z. d (count_no b l f ∙ z))))

  pub past_open : (l : List ℕ) (b : ℕ) → count c l ≡ 0 → past c (l ++ (b ∷ [])) ≡ past c l
  unfolding past
  past_open [] b z = either (which (eqb b c)) (λ t. rw t) (λ f. rw f)
  past_open (x ∷ l) b z = either (which (eqb x c)) (λ t. absurd (omega (arith, count_yes x l t))) (λ f. rw f (past_open l b (sym (count_no x l f) ∙ z)))

-- the line ends at byte 10 as at the end of input, and what stands behind it is not read
pub line_ends : (input rest : List ℕ) → line_of (input ++ (END ∷ rest)) ≡ line_of input
unfolding line_of
line_ends input rest = until_here END input END rest refl

pub every_snoc : (p : ℕ → Bool) (l : List ℕ) (b : ℕ) → every p (l ++ (b ∷ [])) ≡ both (every p l) (p b)
unfolding every both
every_snoc p [] b = either (which (p b)) (λ t. rw t) (λ f. rw f)
every_snoc p (x ∷ l) b = either (which (p x)) (λ t. rw t (every_snoc p l b)) (λ f. rw f)

-- the figures of a field with one more byte
pub figures_nil : figures [] ≡ 0
unfolding figures every
figures_nil = refl

module _ (l : List ℕ) (b : ℕ) where
  longer : length (l ++ (b ∷ [])) ≡ length l + 1
  longer = length-append l (b ∷ [])

  pub figures_digit : figures l < 2 → digit b ≡ true → figures (l ++ (b ∷ [])) ≡ figures l + 1
  unfolding figures
  figures_digit h t = either (which (every digit l))
      (λ e. let q : figures l ≡ min 3 (length l) = rw e in rw (every_snoc digit l b, both_true (every digit l) (digit b) e t, e) (omega (arith, longer, q)))
      (λ f. let q : figures l ≡ 3 = rw f in absurd (omega (arith, q)))

  pub figures_many : 2 ≤ figures l → figures (l ++ (b ∷ [])) ≡ 3
  unfolding figures
  figures_many h = either (which (every digit (l ++ (b ∷ []))))
      (λ e. let (p, q) = both_out (every digit l) (digit b) (sym (every_snoc digit l b) ∙ e) in let w : figures l ≡ min 3 (length l) = rw p in rw e (omega (arith, longer, w)))
      (λ f. rw f)

  pub figures_other : digit b ≡ false → figures (l ++ (b ∷ [])) ≡ 3
  unfolding figures
  figures_other f = rw (every_snoc digit l b, both_right (every digit l) (digit b) f)

-- an A of one or two digits, and none
pub numeral_yes : (l : List ℕ) → 0 < figures l → figures l ≤ 2 → numeral l ≡ true
unfolding figures numeral
numeral_yes l p q = either (which (every digit l))
    (λ e. let w : figures l ≡ min 3 (length l) = rw e in both_true _ _ e (both_true (leb 1 (length l)) (leb (length l) 2) (le-leb 1 (length l) (omega arith)) (le-leb (length l) 2 (omega arith))))
    (λ f. let w : figures l ≡ 3 = rw f in absurd (omega arith))

pub numeral_out : (l : List ℕ) → numeral l ≡ true → (0 < figures l) × (figures l ≤ 2)
unfolding figures numeral
numeral_out l t =
    let (e, r) = both_out (every digit l) (both (leb 1 (length l)) (leb (length l) 2)) t in
    let (p, q) = both_out (leb 1 (length l)) (leb (length l) 2) r in
    let w : figures l ≡ min 3 (length l) = rw e in
    (omega (arith, leb-true 1 (length l) p), omega (arith, leb-true (length l) 2 q))

-- what a good line means, and any other
pub meaning_good : (l : List ℕ) → count TAB l ≡ 1 → numeral (until TAB l) ≡ true → meaning l ≡ (DONE, value 0 (until TAB l), past TAB l)
unfolding meaning good
meaning_good l e n = rw (both_true (eqb (count TAB l) 1) (numeral (until TAB l)) (eq-eqb (count TAB l) 1 e) n)

pub meaning_tabs : (l : List ℕ) → (count TAB l ≡ 1 → ⊥) → meaning l ≡ (ALPHABET, 0, [])
unfolding meaning good
meaning_tabs l d = rw (both_left (eqb (count TAB l) 1) (numeral (until TAB l)) (ne_eqb (count TAB l) 1 d))

pub meaning_field : (l : List ℕ) → (numeral (until TAB l) ≡ true → ⊥) → meaning l ≡ (ALPHABET, 0, [])
unfolding meaning good
meaning_field l d = either (which (numeral (until TAB l)))
    (λ t. absurd (d t))
    (λ f. rw (both_right (eqb (count TAB l) 1) (numeral (until TAB l)) f))
