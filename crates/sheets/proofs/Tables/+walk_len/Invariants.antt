-- `Tables::walk_len`: each echo is below its place. Assumes nothing.
use Rattle.sheets.proofs.Tables.+walk_len.Given as goal

abbrev pub decreases-walk_len : goal.decreases-walk_len
decreases-walk_len l = l.b
