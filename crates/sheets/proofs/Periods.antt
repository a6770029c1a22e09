-- The periods along a chain, written and counted, in the code's terms. Assumes nothing.
use mathlib.Core.Path.{◌≡◌, refl, sym, ap, subst, ◌∙◌}
use mathlib.Core.List.{List, [], ◌∷◌, ◌++◌}
use Prim.Native.Nat.{ℕ, zero, suc, ◌+◌, ◌-◌, ◌≤◌, ◌<◌}
use native.Mathlib.Omega.{arith}
use lib.ListN.{length, get_or, length-append}
use borrow.Author.Tests.{lt-ltb}
use Rattle.words.specs.Lists.{at, each, keep}
use Rattle.words.specs.Rows.{Small}
use Rattle.words.specs.Sheet.{decimal, fields, line, word_periods}
use Rattle.words.proofs.Rows.{chain_zero, chain_suc}
use Rattle.fields.specs.Writing.{Put}
use Rattle.rows.specs.Reach.{periods_along, periods_of}
use Rattle.sheets.specs.Tables.{periods_line}

pub periods_zero : (E : ℕ → ℕ) (n : ℕ) → periods_along E n 0 ≡ []
unfolding periods_along keep each
periods_zero E n = rw (chain_zero E)

pub periods_suc : {E : ℕ → ℕ} {m : ℕ} → Small E m → (n b : ℕ) → b < m → periods_along E n (suc b) ≡ (n - suc b) ∷ periods_along E n (E (suc b))
unfolding periods_along keep each
periods_suc s n b h = rw (chain_suc s b h, lt-ltb 0 (suc b) (omega arith))

fields_some : (l : List ℕ) → 0 < length (fields l)
unfolding fields
fields_some [] = omega arith
fields_some (m ∷ l) = omega arith

pub fields_first : (l old : List ℕ) → length (fields l) ≤ length old → 0 < length old
fields_first l old h = omega (arith, fields_some l)

module _ (e : List ℕ) (b : ℕ) (small : Small (at e) (length e)) (within : b ≤ length e) where
  pub walk_split : (c : ℕ) → (b ≡ 0 → ⊥) → c ≡ at e b → fields (periods_along (at e) (length e) b) ≡ (9 ∷ decimal (length e - b)) ++ fields (periods_along (at e) (length e) c)
  unfolding fields
  walk_split c d z = go b within d ∙ ap (λ (k : ℕ). (9 ∷ decimal (length e - b)) ++ fields (periods_along (at e) (length e) k)) (sym z)
    where
      go : (b : ℕ) → b ≤ length e → (b ≡ 0 → ⊥) → fields (periods_along (at e) (length e) b) ≡ (9 ∷ decimal (length e - b)) ++ fields (periods_along (at e) (length e) (at e b))
      go zero h d = absurd (d refl)
      go (suc b) h d = ap fields (periods_suc small (length e) b h)

  pub walk_field : (old : List ℕ) → (b ≡ 0 → ⊥) → length (fields (periods_along (at e) (length e) b)) ≤ length old → length (9 ∷ decimal (length e - b)) ≤ length old
  walk_field old d r = omega (arith, ap length (walk_split (at e b) d refl), length-append (9 ∷ decimal (length e - b)) (fields (periods_along (at e) (length e) (at e b))))

  low : (b ≡ 0 → ⊥) → at e b < b
  low d = go b within d
    where
      go : (b : ℕ) → b ≤ length e → (b ≡ 0 → ⊥) → at e b < b
      go zero h d = absurd (d refl)
      go (suc b) h d = omega (arith, small.below b h)

  pub walk_falls : (t c : ℕ) → b ≡ t → c ≡ at e b → (b ≡ 0 → ⊥) → c < t
  walk_falls t c z q d = omega (arith, low d)

  pub walk_in : (c : ℕ) → c ≡ at e b → (b ≡ 0 → ⊥) → c ≤ length e
  walk_in c q d = omega (arith, low d)

pub walk_none : (e : List ℕ) (b : ℕ) → b ≡ 0 → fields (periods_along (at e) (length e) b) ≡ 10 ∷ []
unfolding fields
walk_none e b z = ap (λ (k : ℕ). fields (periods_along (at e) (length e) k)) z ∙ ap fields (periods_zero (at e) (length e))

pub walk_end : (e : List ℕ) (b : ℕ) (old new : List ℕ) (r : ℕ) → b ≡ 0 → Put (10 ∷ []) old new r → Put (fields (periods_along (at e) (length e) b)) old new r
walk_end e b old new r z p = subst (λ (t : List ℕ). Put t old new r) (sym (walk_none e b z)) p

-- the line of the periods
pub periods_split : (e : List ℕ) (b : ℕ) → b ≡ at e (length e) → line (periods_line e) ≡ word_periods ++ fields (periods_along (at e) (length e) b)
unfolding line periods_line periods_of
periods_split e b z = ap (λ (k : ℕ). word_periods ++ fields (periods_along (at e) (length e) k)) (sym z)

-- the last echo
pub at_last : (e : List ℕ) → at e (length e) ≡ get_or e (length e - 1) 0
unfolding at
at_last e = go e (length e) refl
  where
    go : (e : List ℕ) (n : ℕ) → n ≡ length e → at e n ≡ get_or e (n - 1) 0
    go [] zero z = refl
    go (x ∷ e) zero z = absurd (omega arith)
    go e (suc n) z = let y : n ≡ suc n - 1 = omega arith in ap (λ (k : ℕ). get_or e k 0) y

pub last_low : (e : List ℕ) (r : ℕ) → Small (at e) (length e) → r ≡ at e (length e) → r ≤ length e
unfolding at
last_low e r s z = go (length e) (omega arith) z
  where
    go : (n : ℕ) → n ≤ length e → r ≡ at e n → r ≤ length e
    go zero h z = omega arith
    go (suc n) h z = omega (arith, s.below n h)

-- how long they are
pub walk_one : (e : List ℕ) (b : ℕ) → b ≡ 0 → 1 ≡ length (fields (periods_along (at e) (length e) b))
walk_one e b z = sym (ap length (walk_none e b z))

module _ (e : List ℕ) (b : ℕ) (small : Small (at e) (length e)) (within : b ≤ length e) (c r w : ℕ) (q : c ≡ at e b) (d : b ≡ 0 → ⊥) where
  pub walk_count : w ≡ length (decimal (length e - b)) → r ≡ length (fields (periods_along (at e) (length e) c)) → r + w + 1 ≡ length (fields (periods_along (at e) (length e) b))
  walk_count y z = omega (arith, ap length (walk_split e b small within c d q), length-append (9 ∷ decimal (length e - b)) (fields (periods_along (at e) (length e) c)))

-- what counting along the chain needs
pub ruleset walk_counts = (walk_falls, walk_in, walk_one, walk_count)
