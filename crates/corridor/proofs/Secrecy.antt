-- Demand 3, over runs of the entries and from their contracts alone. Two hidden rows over one alphabet with equal echoes: whatever the buffer and the
-- guess, refusals among it, sheet, looks and guess answer the same and leave the same. And equal sheets are of rows with equal echoes. Assumes nothing.
use mathlib.Core.Path.{◌≡◌, sym, ap, ◌∙◌}
use mathlib.Core.Bool.{true}
use mathlib.Core.List.{List, [], ◌∷◌, ◌++◌}
use Prim.Native.Nat.{ℕ}
use lib.Dec.{leb}
use lib.ListN.{length, take, drop}
use lib.Seq.{take_at}
use borrow.Author.Tests.{eq-eqb}
use Rattle.words.specs.Rows.{echoes}
use Rattle.words.specs.Numbers.{DONE, ROOM, unless, over, cards, refusal, rowed}
use Rattle.words.specs.Sheet.{lines, sheet}
use Rattle.words.specs.Outcomes.{given, kept, sheet_outcome, looks_outcome, guess_outcome}
use Rattle.words.proofs.Checks.{over_cards}
use Rattle.rows.proofs.Walks.{echoes_long}
use Rattle.rows.proofs.Alone.{rows_reach, rows_periods, rows_looks}
use Rattle.sheets.proofs.Reading.{sheet_read}
use Rattle.corridor.proofs.Runs.{Run}
use Rattle.corridor.proofs.sheet.Reads as sheet-reads
use Rattle.corridor.proofs.sheet.Kinds as sheet-kinds
use Rattle.corridor.proofs.looks.Reads as looks-reads
use Rattle.corridor.proofs.looks.Kinds as looks-kinds
use Rattle.corridor.proofs.guess.Reads as guess-reads
use Rattle.corridor.proofs.guess.Kinds as guess-kinds

-- what the outcomes say of two rows over A with equal echoes
module _ (A : ℕ) (x y : List ℕ) (this : over A x ≡ true) (that : over A y ≡ true) (same : echoes x ≡ echoes y) where
  rows_long : length x ≡ length y
  rows_long = sym (echoes_long x) ∙ ap length same ∙ echoes_long y

  rows_cards : cards A x ≡ cards A y
  rows_cards = over_cards A x this ∙ sym (over_cards A y that)

  rows_sheet : sheet A x ≡ sheet A y
  unfolding sheet lines
  rows_sheet = rw (rows_long, same, rows_reach x y same, rows_periods x y same, rows_looks x y same)

  sheet_alone : (old : List ℕ) → sheet_outcome A x old ≡ sheet_outcome A y old
  unfolding sheet_outcome
  sheet_alone old = rw (rows_sheet, rows_long, rows_cards)

  looks_alone : looks_outcome A x ≡ looks_outcome A y
  unfolding looks_outcome
  looks_alone = rw (rows_looks x y same, rows_long, rows_cards)

  guess_alone : (g : List ℕ) → guess_outcome A x g ≡ guess_outcome A y g
  unfolding guess_outcome
  guess_alone g = rw (same, rows_long, rows_cards)

abbrev pub SheetRun : Type 0
SheetRun = Run 2 sheet-kinds.ps sheet-kinds.r sheet-reads.Post

abbrev pub LooksRun : Type 0
LooksRun = Run 1 looks-kinds.ps looks-kinds.r looks-reads.Post

abbrev pub GuessRun : Type 0
GuessRun = Run 2 guess-kinds.ps guess-kinds.r guess-reads.Post

-- what a run shows: number, place and length, or count, and the buffer at exit
abbrev pub sheet_shows : SheetRun → ℕ × ℕ × ℕ × List ℕ
sheet_shows p = (p.result.number, p.result.place, p.result.length, p.exit.1.1.0.now)

abbrev pub looks_shows : LooksRun → ℕ × ℕ × ℕ
looks_shows p = (p.result.number, p.result.place, p.result.count)

abbrev pub guess_shows : GuessRun → ℕ × ℕ
guess_shows p = (p.result.number, p.result.place)

-- demand 3, its first half: the sheet
pub sheet_secret : (p q : SheetRun) → p.args.0 ≡ q.args.0 → p.args.1.1.0.now ≡ q.args.1.1.0.now
    → over p.args.0 p.args.1.0.now ≡ true → over q.args.0 q.args.1.0.now ≡ true → echoes p.args.1.0.now ≡ echoes q.args.1.0.now
    → sheet_shows p ≡ sheet_shows q
sheet_secret p q a buf u v e = p.meets ∙ sheet_alone p.args.0 p.args.1.0.now q.args.1.0.now u (ap (λ (A : ℕ). over A q.args.1.0.now) a ∙ v) e p.args.1.1.0.now
    ∙ ap (λ (A : ℕ). sheet_outcome A q.args.1.0.now p.args.1.1.0.now) a ∙ ap (sheet_outcome q.args.0 q.args.1.0.now) buf ∙ sym q.meets

-- the looks
pub looks_secret : (p q : LooksRun) → p.args.0 ≡ q.args.0
    → over p.args.0 p.args.1.0.now ≡ true → over q.args.0 q.args.1.0.now ≡ true → echoes p.args.1.0.now ≡ echoes q.args.1.0.now
    → looks_shows p ≡ looks_shows q
looks_secret p q a u v e = p.meets ∙ looks_alone p.args.0 p.args.1.0.now q.args.1.0.now u (ap (λ (A : ℕ). over A q.args.1.0.now) a ∙ v) e
    ∙ ap (λ (A : ℕ). looks_outcome A q.args.1.0.now) a ∙ sym q.meets

-- the answer to a guess, of any bytes and any length
pub guess_secret : (p q : GuessRun) → p.args.0 ≡ q.args.0 → p.args.1.1.0.now ≡ q.args.1.1.0.now
    → over p.args.0 p.args.1.0.now ≡ true → over q.args.0 q.args.1.0.now ≡ true → echoes p.args.1.0.now ≡ echoes q.args.1.0.now
    → guess_shows p ≡ guess_shows q
guess_secret p q a g u v e = p.meets ∙ guess_alone p.args.0 p.args.1.0.now q.args.1.0.now u (ap (λ (A : ℕ). over A q.args.1.0.now) a ∙ v) e p.args.1.1.0.now
    ∙ ap (λ (A : ℕ). guess_outcome A q.args.1.0.now p.args.1.1.0.now) a ∙ ap (guess_outcome q.args.0 q.args.1.0.now) g ∙ sym q.meets

-- its second half: a run that answers 0 has put the sheet at the start of the buffer
sheet_done : (A : ℕ) (x old new : List ℕ) (n p l : ℕ) → (n, p, l, new) ≡ sheet_outcome A x old → n ≡ DONE
    → (l ≡ length (sheet A x)) × (new ≡ sheet A x ++ drop (length (sheet A x)) old)
unfolding sheet_outcome given kept
sheet_done A x old new n p l e z =
    let w : r.0 ≡ DONE = ap (λ (t : ℕ × ℕ × ℕ × List ℕ). t.0) (sym e) ∙ z in (
      ap (λ (t : ℕ × ℕ × ℕ × List ℕ). t.2) e ∙ rw (eq-eqb r.0 DONE w),
      ap (λ (t : ℕ × ℕ × ℕ × List ℕ). t.3) e ∙ rw (eq-eqb r.0 DONE w),
    )
  where
    r : ℕ × ℕ
    r = refusal (rowed A x ∷ unless (leb (length (sheet A x)) (length old)) ROOM ∷ [])

module _ (p : SheetRun) (done : p.result.number ≡ DONE) where
  text : List ℕ
  text = sheet p.args.0 p.args.1.0.now

  put : (p.result.length ≡ length text) × (p.exit.1.1.0.now ≡ text ++ drop (length text) p.args.1.1.0.now)
  unfolding text
  put = sheet_done p.args.0 p.args.1.0.now p.args.1.1.0.now p.exit.1.1.0.now p.result.number p.result.place p.result.length p.meets done

  start : take p.result.length p.exit.1.1.0.now ≡ text
  start = ap (take p.result.length) put.1 ∙ take_at text (drop (length text) p.args.1.1.0.now) p.result.length (sym put.0)

-- equal sheets, the first bytes of the buffers, as many as the answers say, are of rows with equal echoes; so are equal buffers
module _ (p q : SheetRun) (here : p.result.number ≡ DONE) (there : q.result.number ≡ DONE) where
  read : (r s : List ℕ) → text p here ++ r ≡ text q there ++ s → echoes p.args.1.0.now ≡ echoes q.args.1.0.now
  unfolding text
  read r s e = (sheet_read p.args.0 q.args.0 p.args.1.0.now q.args.1.0.now r s e).2

  pub sheets_tell : take p.result.length p.exit.1.1.0.now ≡ take q.result.length q.exit.1.1.0.now → echoes p.args.1.0.now ≡ echoes q.args.1.0.now
  sheets_tell e = read [] [] (ap (λ (t : List ℕ). t ++ []) (sym (start p here) ∙ e ∙ start q there))

  pub buffers_tell : p.exit.1.1.0.now ≡ q.exit.1.1.0.now → echoes p.args.1.0.now ≡ echoes q.args.1.0.now
  buffers_tell e = read _ _ (sym (put p here).1 ∙ e ∙ (put q there).1)
