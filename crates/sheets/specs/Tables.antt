-- The lines of a sheet from its tables. Assumes nothing: these are definitions.
use Rattle.std.specs.Prelude.{List, [], ◌∷◌, ℕ}
use Rattle.words.specs.Sheet.{Line, word_sheet, word_echo, word_reach, word_periods, word_looks}
use Rattle.rows.specs.Reach.{periods_of}

-- the line of the periods, from echoes e
unfoldable pub periods_line : List ℕ → Line
periods_line e = record { word = word_periods; numbers = periods_of e }

-- the lines of a length n, an alphabet A, echoes e, a reach table r and looks k
unfoldable pub table_lines : ℕ → ℕ → List ℕ → List ℕ → ℕ → List Line
table_lines n A e r k =
    record { word = word_sheet; numbers = n ∷ A ∷ [] }
    ∷ record { word = word_echo; numbers = e }
    ∷ record { word = word_reach; numbers = r }
    ∷ periods_line e
    ∷ record { word = word_looks; numbers = k ∷ [] }
    ∷ []

-- how many they are
abbrev pub line_count : ℕ
line_count = 5
