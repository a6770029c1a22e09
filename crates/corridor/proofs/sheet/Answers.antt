-- `corridor::sheet`. Assumes nothing.
use Rattle.std.proofs.Common.{rules}
use Rattle.corridor.proofs.Entries.{sheet_none, sheet_done, sheet_over}
use Rattle.corridor.proofs.sheet.Goals as goal

pub returns-in-Err : goal.returns-in-Err
returns-in-Err c = search (rules, sheet_none, c.in-Err.ensures)

pub returns-in-Ok : goal.returns-in-Ok
returns-in-Ok c = search (rules, sheet_done, c.in_default.ensures, c.in-Ok.ensures)

pub returns-in-Err-sheet_within : goal.returns-in-Err-sheet_within
returns-in-Err-sheet_within c = search (rules, sheet_over, c.in_default.ensures, c.in-Err-sheet_within.ensures)
