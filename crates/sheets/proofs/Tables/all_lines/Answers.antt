-- `Tables::all_lines`. Assumes nothing.
use Rattle.sheets.specs.Tables.{table_lines}
use Rattle.sheets.proofs.Lines.{first_line, next_line, last_line}
use Rattle.sheets.proofs.Tables.all_lines.Goals as goal

pub returns : goal.returns
unfolding table_lines
returns c =
    let echo = next_line _ _ (first_line _ _ c.list_line-at.ensures) c.list_line-at-2.ensures in
    let reach = next_line _ _ echo c.list_line-at-3.ensures in
    let periods = next_line _ _ reach c.periods_line-at.ensures in
    last_line (next_line _ _ periods c.list_line-at-4.ensures)
