-- The proof of `open_count`: one lemma of `Walks` for each way out. The measure is the chain value b. Assumes nothing.
use Rattle.std.proofs.Common.{rules}
use Rattle.arrays.proofs.Walks.{next_at, next_in, next_sound, open_end, open_fresh, open_used, few_fresh, few_used}
use Rattle.arrays.proofs.+open_count.Goals as goal

pub open_count-rest-requires : goal.open_count-rest-requires
open_count-rest-requires t c = search (rules, next_at, next_in, next_sound)

pub returns-then-b-eq0 : goal.returns-then-b-eq0
returns-then-b-eq0 t c = search (rules, open_end)

pub returns-then-top-eq0 : goal.returns-then-top-eq0
returns-then-top-eq0 t c = search (rules, open_fresh, few_fresh)

pub returns-else-top-eq0 : goal.returns-else-top-eq0
returns-else-top-eq0 t c = search (rules, open_used, few_used)
