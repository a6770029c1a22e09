-- With 61,500 bytes lent the sheet has room: the program answers 0, 1, 2 or 4. Assumes nothing.
use mathlib.Core.Path.{◌≡◌}
use mathlib.Core.List.{List, []}
use Prim.Native.Nat.{ℕ, ◌≤◌}
use native.Mathlib.Omega.{arith}
use lib.Dec.{leb}
use lib.ListN.{length}
use borrow.Author.Tests.{eq-eqb, ne_eqb, le-leb}
use Rattle.words.specs.Numbers.{DONE, ALPHABET, CARD, ROOM, cards, unless, refusal, sizes, rowed}
use Rattle.words.specs.Outcomes.{sheet_outcome}
use Rattle.words.specs.Sheet.{sheet}
use Rattle.words.proofs.Lists.{which, either, same?}
use Rattle.words.proofs.Checks.{refusal_clear, sizes_clear}
use Rattle.words.proofs.Bounds.{Bounded, refusal_bounded, rowed_bounded}
use Rattle.sheets.proofs.Bound.{row_short}
use Rattle.lines.specs.Line.{line_of, good, meaning}
use Rattle.sheet.specs.Outcome.{line_outcome}

pub sheet_numbers : (A : ℕ) (x old : List ℕ) → 61500 ≤ length old → (sheet_outcome A x old).0 ≤ CARD
unfolding sheet_outcome unless refusal
sheet_numbers A x old w = (refusal_bounded (rowed A x) (unless (leb (length (sheet A x)) (length old)) ROOM) [] CARD (rowed_bounded A x) fits).number
  where
    fits : (rowed A x).0 ≡ DONE → Bounded CARD (unless (leb (length (sheet A x)) (length old)) ROOM)
    fits z =
        let (a, b, c) = sizes_clear A (length x) (refusal_clear (sizes A (length x)) (cards A x) [] z).0 in
        rw (le-leb (length (sheet A x)) (length old) (omega (arith, row_short A x b c))) (record { number = omega arith; place = omega arith })

meaning_low : (l : List ℕ) → (meaning l).0 ≤ ALPHABET
unfolding meaning
meaning_low l = either (which (good l)) (λ y. rw y (omega arith)) (λ f. rw f (omega arith))

pub line_numbers : (input old : List ℕ) → 61500 ≤ length old → (line_outcome input old).0 ≤ CARD
unfolding line_outcome
line_numbers input old w = either (same? (meaning (line_of input)).0 DONE)
    (λ z. rw (eq-eqb (meaning (line_of input)).0 DONE z) (sheet_numbers (meaning (line_of input)).1 (meaning (line_of input)).2 old w))
    (λ d. rw (ne_eqb (meaning (line_of input)).0 DONE d) (omega (arith, meaning_low (line_of input))))
