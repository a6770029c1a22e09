-- What `write` answers is what the sheet's entry answers once the checks are done. Assumes nothing.
use mathlib.Core.Path.{◌≡◌, refl, ap, ◌∙◌}
use mathlib.Core.Bool.{Bool}
use mathlib.Core.List.{List, ◌++◌}
use Prim.Native.Nat.{ℕ}
use lib.Dec.{leb}
use lib.ListN.{length, drop}
use Rattle.words.specs.Rows.{echoes, reaches, looks}
use Rattle.words.specs.Numbers.{DONE, ROOM, rowed, unless}
use Rattle.words.specs.Sheet.{lines, text, sheet}
use Rattle.words.specs.Outcomes.{sheet_outcome, given, kept}
use Rattle.words.proofs.Lists.{which, either}
use Rattle.words.proofs.Checks.{refusal_last}
use Rattle.sheets.specs.Written.{written}
use Rattle.rows.proofs.Alone.{periods_echoes}
use Rattle.sheets.specs.Tables.{periods_line, table_lines}

-- the sheet of a row is the text of its tables
pub sheet_tables : (A : ℕ) (x : List ℕ) → sheet A x ≡ text (table_lines (length x) A (echoes x) (reaches x) (looks x))
unfolding sheet lines table_lines periods_line
sheet_tables A x = rw (periods_echoes x)

pub tables_written : (A k : ℕ) (x e r old : List ℕ) (S : ℕ × ℕ × List ℕ) → e ≡ echoes x → r ≡ reaches x → k ≡ looks x
    → S ≡ written (text (table_lines (length x) A e r k)) old → S ≡ written (sheet A x) old
tables_written A k x e r old S p q z h = rw (p, q, z, ← sheet_tables A x) at h

room_place : (t : Bool) → 0 ≡ (unless t ROOM).1
unfolding unless
room_place t = either (which t) (λ y. rw y) (λ n. rw n)

pub sheet_written : (A : ℕ) (x old new : List ℕ) (number len : ℕ) → (rowed A x).0 ≡ DONE → (number, len, new) ≡ written (sheet A x) old
    → (number, 0, len, new) ≡ sheet_outcome A x old
unfolding sheet_outcome written
sheet_written A x old new number len p e =
    ap (λ (w : ℕ × ℕ × List ℕ). (w.0, 0, w.1, w.2)) e
    ∙ ap (λ (place : ℕ). (room.0, place, given room (length t), kept room (t ++ drop (length t) old) old)) (room_place fits)
    ∙ ap (λ (r : ℕ × ℕ). (r.0, r.1, given r (length t), kept r (t ++ drop (length t) old) old)) (refusal_last (rowed A x) room (rowed A x) room refl p refl)
  where
    t : List ℕ
    t = sheet A x

    fits : Bool
    fits = leb (length t) (length old)

    room : ℕ × ℕ
    room = unless fits ROOM
