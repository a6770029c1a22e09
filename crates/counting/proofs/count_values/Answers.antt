-- `count_values`: one lemma of `Counting` for each way out. Assumes nothing.
use Rattle.std.proofs.Common.{rules}
use Rattle.arrays.proofs.Behind.{behind_in, behind_sound}
use Rattle.counting.proofs.Counting.{values_none, values_more, values_all}
use Rattle.counting.proofs.count_values.Goals as goal

pub returns-then-i-eq0 : goal.returns-then-i-eq0
returns-then-i-eq0 c = search (rules, values_none)

pub open_count-k-requires : goal.open_count-k-requires
open_count-k-requires c = (search (rules, behind_in), search (rules, behind_sound))

pub returns-then-k-a : goal.returns-then-k-a
returns-then-k-a c = search (rules, values_more)

pub returns-else-k-a : goal.returns-else-k-a
returns-else-k-a c = search (rules, values_all)
