-- The lines and the periods of the tables that the code holds. Assumes nothing: these are definitions.
use Rattle.std.specs.Prelude.{List, ℕ, length}
use Rattle.words.specs.Lists.{at}
use Rattle.words.specs.Sheet.{Line}
use Rattle.rows.specs.Reach.{periods_along}
use Rattle.sheets.specs.declared.Tables.{Tables}
use Rattle.sheets.specs.Tables.{table_lines}

-- the lines of their sheet
abbrev pub lines_of : Tables → List Line
lines_of t = table_lines t.cards t.alphabet t.echoes.now t.reaches.now t.looks

-- the periods along the chain from b
abbrev pub periods_from : Tables → ℕ → List ℕ
periods_from t b = periods_along (at t.echoes.now) (length t.echoes.now) b
