-- A row of which more cards than the limit are kept is answered as it is whole. Assumes nothing.
use mathlib.Core.Path.{◌≡◌, sym, ap, subst, ◌∙◌}
use mathlib.Core.Bool.{true}
use mathlib.Core.List.{List, [], ◌∷◌, ◌++◌}
use Prim.Native.Nat.{ℕ, ◌≤◌, ◌<◌}
use native.Mathlib.Omega.{arith}
use lib.Dec.{leb}
use lib.ListN.{length, take, drop, length-take, length-append}
use lib.Seq.{take_all, length-take-le}
use borrow.Author.Tests.{eq-eqb, ne_eqb, leb-true, leb-false}
use Rattle.words.specs.Numbers.{DONE, LONG, ROOM, limit, alphabet, cards, unless, refusal, sizes, rowed}
use Rattle.std.specs.Prelude.{Result, Ok}
use Rattle.words.specs.declared.Reason.{Reason}
use Rattle.words.specs.Outcomes.{given, kept, sheet_outcome}
use Rattle.words.specs.Sheet.{sheet}
use Rattle.words.proofs.Lists.{which, either, same?}
use Rattle.words.proofs.Checks.{cleared, long_over, refusal_stop, sizes_clear}
use Rattle.corridor.proofs.Entries.{sheet_refused}
use Rattle.lines.specs.Line.{line_of, meaning}
use Rattle.lines.specs.Taking.{Read, Tells, told_of}
use Rattle.lines.specs.declared.State.{State}
use Rattle.lines.specs.declared.Line.{Line}
use Rattle.lines.proofs.Pieces.{read_within}
use Rattle.sheet.specs.Outcome.{line_outcome, Answers}

-- of a row over the limit only A is told
over : (A : ℕ) (x old : List ℕ) → limit < length x → let S = refusal (alphabet A ∷ (LONG, 0) ∷ []) in (S.0, S.1, 0, old) ≡ sheet_outcome A x old
over A x old h = sheet_refused A x old S.0 S.1 (refusal_stop (sizes A (length x)) (cards A x) S [] long_row bad) bad
  where
    S : ℕ × ℕ
    S = refusal (alphabet A ∷ (LONG, 0) ∷ [])

    long_row : S ≡ sizes A (length x)
    long_row = ap (λ (c : ℕ × ℕ). refusal (alphabet A ∷ c ∷ [])) (long_over limit (length x) h)

    bad : S.0 ≡ DONE → ⊥
    bad z = omega (arith, (sizes_clear A (length x) (cleared S.0 S.1 (sizes A (length x)) long_row z)).2)

pub kept_outcome : (A n : ℕ) (x old : List ℕ) → limit < n → sheet_outcome A (take n x) old ≡ sheet_outcome A x old
kept_outcome A n x old h = either (which (leb (length x) n))
    (λ t. ap (λ (y : List ℕ). sheet_outcome A y old) (take_all n x (leb-true (length x) n t)))
    (λ f. let l = leb-false (length x) n f in sym (over A (take n x) old (omega (arith, length-take n x))) ∙ over A x old (omega arith))

-- a good line is answered
module _ (s : State) (row old : List ℕ) (ended : s.ended ≡ true) where
  pub answers_sheet : (l : Line) → Tells s (Ok l) → limit < length row → (r : ℕ × ℕ × ℕ × List ℕ) → r ≡ sheet_outcome l.a (take l.length row) old → Answers s row old r
  unfolding line_outcome
  answers_sheet l tells w r e = record {
    ended = ended;
    told = λ input h.
        let m = tells.means input row h in
        rw (eq-eqb (meaning (line_of input)).0 DONE (sym m.number))
        (e ∙ ap (λ (y : List ℕ). sheet_outcome l.a y old) m.row.same ∙ kept_outcome l.a (length row) (meaning (line_of input)).2 old w
        ∙ ap (λ (A : ℕ). sheet_outcome A (meaning (line_of input)).2 old) m.a);
  }

-- the length that is answered is within the buffer
given_within : (r : ℕ × ℕ) (t old : List ℕ) → given r (length t) ≤ length (kept r (t ++ drop (length t) old) old)
unfolding given kept
given_within r t old = either (same? r.0 DONE)
    (λ z. rw (eq-eqb r.0 DONE z) (omega (arith, length-append t (drop (length t) old))))
    (λ d. rw (ne_eqb r.0 DONE d) (omega arith))

outcome_within : (A : ℕ) (x old : List ℕ) → let r = sheet_outcome A x old in r.2 ≤ length r.3
unfolding sheet_outcome
outcome_within A x old = given_within (refusal (rowed A x ∷ unless (leb (length (sheet A x)) (length old)) ROOM ∷ [])) (sheet A x) old

line_within : (input old : List ℕ) → let r = line_outcome input old in r.2 ≤ length r.3
unfolding line_outcome
line_within input old = either (same? (meaning (line_of input)).0 DONE)
    (λ z. rw (eq-eqb (meaning (line_of input)).0 DONE z) (outcome_within (meaning (line_of input)).1 (meaning (line_of input)).2 old))
    (λ d. rw (ne_eqb (meaning (line_of input)).0 DONE d) (omega arith))

module _ (s : State) (row old new : List ℕ) (n p k : ℕ) (read : Read 0 s row) (answers : Answers s row old (n, p, k, new)) where
  pub answers_within : k ≤ length new
  answers_within = subst (λ (r : ℕ × ℕ × ℕ × List ℕ). r.2 ≤ length r.3) (sym (answers.told read.input read.taken)) (line_within read.input old)

  pub answers_part : length (take k new) ≡ k
  answers_part = length-take-le k new answers_within

pub read_part : (s : State) (r : Result Line Reason) (row : List ℕ) → Read 0 s row → Tells s r → length (take (told_of r).2 row) ≡ (told_of r).2
read_part s r row h t = length-take-le (told_of r).2 row (read_within 0 s r row h t)
