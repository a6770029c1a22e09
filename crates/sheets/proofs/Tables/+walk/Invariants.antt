-- `Tables::walk`: each echo is below its place. Assumes nothing.
use Rattle.sheets.proofs.Tables.+walk.Given as goal

abbrev pub decreases-walk : goal.decreases-walk
decreases-walk l = l.b
