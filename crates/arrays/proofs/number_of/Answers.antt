-- `number_of`: one lemma of `Behind` for each way out. Assumes nothing.
use Rattle.std.proofs.Common.{rules}
use Rattle.arrays.proofs.Behind.{first_zero, first_above, later_more, later_fits, later_full, behind_in, behind_sound}
use Rattle.arrays.proofs.number_of.Goals as goal

pub weigh-requires : goal.weigh-requires
weigh-requires c = (search (rules, behind_in), search rules, search (rules, behind_sound))

pub open_count-requires : goal.open_count-requires
open_count-requires c = (search (rules, behind_in), search (rules, behind_sound))

pub returns-then-m-eq0 : goal.returns-then-m-eq0
returns-then-m-eq0 c = search (rules, first_zero)

pub returns-else-m-eq0 : goal.returns-else-m-eq0
returns-else-m-eq0 c = search (rules, first_above)

pub returns-in-Stands : goal.returns-in-Stands
returns-in-Stands c = search (rules, later_more, c.in-Stands.ensures)

pub returns-in-Hidden : goal.returns-in-Hidden
returns-in-Hidden c = search (rules, later_more, c.in-Hidden.ensures)

pub returns-in-Impossible : goal.returns-in-Impossible
returns-in-Impossible c = search (rules, later_more, c.in-Impossible.ensures)

pub returns-then-a-open_count : goal.returns-then-a-open_count
returns-then-a-open_count c = search (rules, later_full)

pub returns-else-a-open_count : goal.returns-else-a-open_count
returns-else-a-open_count c = search (rules, later_fits)
