-- What the entries need of their checks, and what they answer, in the code's own terms. Assumes nothing.
use mathlib.Core.Path.{◌≡◌, refl, sym, ap, subst, ◌∙◌}
use mathlib.Core.List.{List, [], ◌∷◌, ◌++◌}
use Prim.Native.Nat.{ℕ, ◌-◌, ◌≤◌, ◌<◌}
use native.Mathlib.Omega.{arith}
use lib.Dec.{leb}
use lib.ListN.{length, drop}
use borrow.Author.Tests.{ne_eqb}
use Rattle.words.specs.declared.Reason.{Reason}
use Rattle.words.specs.declared.Reason.TheVariants.{Differs}
use Rattle.words.specs.declared.Refusal.{Refusal}
use Rattle.words.specs.Refusals.{number_of, refused}
use Rattle.words.specs.Rows.{echoes}
use Rattle.words.specs.Numbers.{DONE, ROOM, DIFFERS, differing, named, letters, limit, count_limit, alphabet, long, cards, unless, refusal, sizes, lent, rowed, paired}
use Rattle.words.specs.Sheet.{sheet}
use Rattle.words.specs.Listing.{First}
use Rattle.words.specs.Outcomes.{given, kept, answered, counted, sheet_outcome, guess_outcome, Rebuilds, Starts, Steps, refuses, starts}
use Rattle.words.specs.Strips.{closed, part, closing, joint, joining}
use Rattle.words.proofs.Checks.{cleared, named_none, named_place, refusal_stop, refusal_last, refusal_clear, long_clear, sizes_clear, lent_clear, paired_clear, answered_old, counted_none}
use Rattle.words.proofs.Refusals.{reason_some}
use Rattle.sheets.specs.Written.{written}
use Rattle.sheets.proofs.Outcome.{sheet_written}

-- what a check leaves where it refuses nothing
done : {C : ℕ × ℕ} → (DONE, 0) ≡ C → C.0 ≡ DONE
done {C} e = cleared DONE 0 C e refl

-- a row that no check refuses is within the limit, and a slice beside it has its length
module _ (A : ℕ) (x : List ℕ) where
  first : (c : ℕ × ℕ) → (DONE, 0) ≡ refusal (c ∷ cards A x ∷ []) → c.0 ≡ DONE
  first c e = (refusal_clear c (cards A x) [] (done e)).0

  pub row_within : (DONE, 0) ≡ refusal (sizes A (length x) ∷ cards A x ∷ []) → length x ≤ limit
  row_within e = (sizes_clear A (length x) (first (sizes A (length x)) e)).2

  pub row_letters : (DONE, 0) ≡ refusal (sizes A (length x) ∷ cards A x ∷ []) → A ≤ letters
  row_letters e = (sizes_clear A (length x) (first (sizes A (length x)) e)).1

  pub lent_within : (m : ℕ) → (DONE, 0) ≡ refusal (lent A (length x) m ∷ cards A x ∷ []) → length x ≤ limit
  lent_within m e = (lent_clear A (length x) m (first (lent A (length x) m) e)).2

  pub lent_matches : (m : ℕ) → (DONE, 0) ≡ refusal (lent A (length x) m ∷ cards A x ∷ []) → m ≡ length x
  lent_matches m e = (lent_clear A (length x) m (first (lent A (length x) m) e)).3

  pub sheet_done : (old new : List ℕ) (number len : ℕ) → (DONE, 0) ≡ rowed A x → (number, len, new) ≡ written (sheet A x) old → (number, 0, len, new) ≡ sheet_outcome A x old
  sheet_done old new number len e w = sheet_written A x old new number len (done e) w

  -- a sheet that the buffer has no room for
  pub sheet_over : (old new : List ℕ) (n p k : ℕ) (why : Reason) (r : Refusal) → (DONE, 0) ≡ rowed A x → (number_of why, 0, new) ≡ written (sheet A x) old
      → (n, p) ≡ refused r → r.reason ≡ why → r.place ≡ 0 → k ≡ 0 → (n, p, k, new) ≡ sheet_outcome A x old
  sheet_over old new n p k why r e w gives q z l =
      ap (λ (s : ℕ × ℕ). (s.0, s.1, k, new)) (gives ∙ ap (λ (v : Reason). (number_of v, r.place)) q ∙ ap (λ (m : ℕ). (number_of why, m)) z)
      ∙ ap (λ (m : ℕ). (number_of why, 0, m, new)) l ∙ sheet_done old new (number_of why) 0 e w

-- a strip by its length
pub closing_by : (x : List ℕ) (p : ℕ × ℕ) (k : ℕ) (r : List ℕ × (ℕ × ℕ)) → k ≡ closed x → r ≡ part x p (length x - k) k → r ≡ closing x p
unfolding closing
closing_by x p k r q h = h ∙ ap (λ (m : ℕ). part x p (length x - m) m) q

pub joining_by : (x y : List ℕ) (p : ℕ × ℕ) (k : ℕ) (r : List ℕ × (ℕ × ℕ)) → k ≡ joint x y → r ≡ part y p 0 k → r ≡ joining x y p
unfolding joining
joining_by x y p k r q h = h ∙ ap (part y p 0) q

pub sheet_refused : (A : ℕ) (x old : List ℕ) (n p : ℕ) → (n, p) ≡ rowed A x → (n ≡ DONE → ⊥) → (n, p, 0, old) ≡ sheet_outcome A x old
unfolding sheet_outcome given kept
sheet_refused A x old n p e d = subst (λ (S : ℕ × ℕ). (n, p, 0, old) ≡ told S) (refusal_stop (rowed A x) room (n, p) [] e d) (rw (ne_eqb n DONE d))
  where
    t : List ℕ
    t = sheet A x

    room : ℕ × ℕ
    room = unless (leb (length t) (length old)) ROOM

    told : ℕ × ℕ → ℕ × ℕ × ℕ × List ℕ
    told S = (S.0, S.1, given S (length t), kept S (t ++ drop (length t) old) old)

-- two rows that no check refuses
module _ (A : ℕ) (x g : List ℕ) (checked : (DONE, 0) ≡ paired A x g) where
  clear : (length x ≤ limit) × (length g ≤ limit) × (length g ≡ length x)
  clear = paired_clear A x g (done checked)

  pub pair_hidden : length x ≤ limit
  pair_hidden = clear.0

  pub pair_guess : length g ≤ limit
  pair_guess = clear.1

  pub pair_matches : length g ≡ length x
  pair_matches = clear.2

  told : (s : ℕ × ℕ) (d : ℕ) → d ≡ differing (echoes x) (echoes g) → s ≡ named DIFFERS d → s ≡ guess_outcome A x g
  unfolding guess_outcome
  told s d e q = refusal_last (paired A x g) (named DIFFERS (differing (echoes x) (echoes g))) (DONE, 0) s checked refl (q ∙ ap (named DIFFERS) e)

  pub guess_alike : differing (echoes x) (echoes g) ≡ 0 → (DONE, 0) ≡ guess_outcome A x g
  guess_alike e = told (DONE, 0) 0 (sym e) (named_none DIFFERS 0 refl)

  pub guess_apart : (s : ℕ × ℕ) (q : ℕ) → 0 < q → q ≡ differing (echoes x) (echoes g) → s ≡ refused (record { reason = Differs; place = q }) → s ≡ guess_outcome A x g
  guess_apart s q h e z = told s q e (z ∙ named_place DIFFERS q (λ y. omega arith))

-- an array that no check refuses
module _ (A : ℕ) (e : List ℕ) (checked : (DONE, 0) ≡ sizes A (length e)) where
  pub judge_within : length e ≤ limit
  judge_within = (sizes_clear A (length e) (done checked)).2

-- an answer that says what was found out before
pub rebuild_told : (A : ℕ) (e old new : List ℕ) (s t : ℕ × ℕ) → s ≡ t → Rebuilds A e old t new → Rebuilds A e old s new
rebuild_told A e old new s t q r = subst (λ (u : ℕ × ℕ). Rebuilds A e old u new) (sym q) r

pub next_told : (A : ℕ) (e new : List ℕ) (s t : ℕ × ℕ) → s ≡ t → Steps A e t new → Steps A e s new
next_told A e new s t q r = subst (λ (u : ℕ × ℕ). Steps A e u new) (sym q) r

pub first_done : (A n : ℕ) (old new : List ℕ) → (DONE, 0) ≡ lent A n (length old) → First A n new → Starts A n old (DONE, 0) new
first_done A n old new c f = starts (done c) f refl

-- a counted n is within its limit
pub count_within : (A n : ℕ) → (DONE, 0) ≡ refusal (alphabet A ∷ long count_limit n ∷ []) → n ≤ count_limit
unfolding refusal
count_within A n e = long_clear count_limit n (refusal_clear (alphabet A) (long count_limit n) [] (done e)).1

-- what an entry answers where a check refuses
module _ (n p : ℕ) (r : Refusal) (gives : (n, p) ≡ refused r) where
  some : n ≡ DONE → ⊥
  some z = reason_some r.reason (ap (λ (s : ℕ × ℕ). s.0) (sym gives) ∙ z)

  -- with a buffer, with a count, and alone
  pub buffer_refused : (C : ℕ × ℕ) (new old : List ℕ) → refused r ≡ C → (n, p, old) ≡ answered C new old
  buffer_refused C new old e = answered_old n p C new old (gives ∙ e) some

  pub count_refused : (C : ℕ × ℕ) (m k : ℕ) → k ≡ 0 → refused r ≡ C → (n, p, k) ≡ counted C m
  count_refused C m k z e = subst (λ (j : ℕ). (n, p, j) ≡ counted C m) (sym z) (counted_none n p C m (gives ∙ e) some)

  pub list_refused : (c d : ℕ × ℕ) (l : List (ℕ × ℕ)) → refused r ≡ c → (n, p) ≡ refusal (c ∷ d ∷ l)
  list_refused c d l e = refusal_stop c d (n, p) l (gives ∙ e) some

  module _ (A : ℕ) (x old : List ℕ) where
    pub rebuild_refused : refused r ≡ lent A (length x) (length old) → Rebuilds A x old (n, p) old
    rebuild_refused e = refuses some (gives ∙ e) refl

    pub first_refused : (k : ℕ) → refused r ≡ lent A k (length old) → Starts A k old (n, p) old
    first_refused k e = refuses some (gives ∙ e) refl

    pub sheet_none : (k : ℕ) → k ≡ 0 → refused r ≡ rowed A x → (n, p, k, old) ≡ sheet_outcome A x old
    sheet_none k z e = subst (λ (j : ℕ). (n, p, j, old) ≡ sheet_outcome A x old) (sym z) (sheet_refused A x old n p (gives ∙ e) some)

  pub next_refused : (A : ℕ) (e : List ℕ) → refused r ≡ sizes A (length e) → Steps A e (n, p) e
  next_refused A e q = refuses some (gives ∙ q) refl

-- what the check needs beside the answers
pub ruleset entry_steps = (cleared, refusal_last, row_within, row_letters, lent_within, lent_matches, closing_by, joining_by, pair_hidden, pair_guess, pair_matches, guess_alike, guess_apart, judge_within, rebuild_told, next_told, first_done, first_refused, rebuild_refused, next_refused, count_within)
