-- `peak_at`: one law of the peak for each way out. Assumes nothing.
use Rattle.std.proofs.Common.{rules}
use Rattle.arrays.proofs.Rules.{peak_none, peak_some}
use Rattle.arrays.proofs.peak_at.Goals as goal

pub returns-then-i-eq0 : goal.returns-then-i-eq0
returns-then-i-eq0 c = search (rules, peak_none)

pub returns-else-i-eq0 : goal.returns-else-i-eq0
returns-else-i-eq0 c = search (rules, peak_some)
