-- What the program answers. Assumes nothing: these are definitions.
use Rattle.std.specs.Prelude.{◌≡◌, true, cond, List, ℕ, eqb}
use Rattle.words.specs.Numbers.{DONE}
use Rattle.words.specs.Outcomes.{sheet_outcome}
use Rattle.lines.specs.Line.{line_of, meaning}
use Rattle.lines.specs.Taking.{Taken}
use Rattle.lines.specs.declared.State.{State}

-- number, place, length and buffer for an input: those of the sheet's entry, on the whole row, or 1 at place 0
unfoldable pub line_outcome : List ℕ → List ℕ → ℕ × ℕ × ℕ × List ℕ
line_outcome input old =
    let m = meaning (line_of input) in
    let told = sheet_outcome m.1 m.2 old in
    cond (eqb m.0 DONE) told (m.0, 0, 0, old)

-- the line has ended, and r is the outcome for every input that s and the row kept of it stand for
pub record Answers (s : State) (row old : List ℕ) (r : ℕ × ℕ × ℕ × List ℕ) : Type 0 where
  pub ended : s.ended ≡ true
  pub told : (input : List ℕ) → Taken input s row → r ≡ line_outcome input old
