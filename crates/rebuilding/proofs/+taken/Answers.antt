-- The proof of `taken`: one lemma of `Writing` for each way out. The measure is the chain value b. Assumes nothing.
use Rattle.std.proofs.Common.{rules}
use Rattle.arrays.proofs.Walks.{next_at, next_in, next_sound}
use Rattle.rebuilding.proofs.Writing.{taken_here, taken_end, taken_on}
use Rattle.rebuilding.proofs.+taken.Goals as goal

pub taken-requires : goal.taken-requires
taken-requires t c = search (rules, next_at, next_in, next_sound)

pub returns-then-card_at-c : goal.returns-then-card_at-c
returns-then-card_at-c t c = search (rules, taken_here)

pub returns-then-b-eq0 : goal.returns-then-b-eq0
returns-then-b-eq0 t c = search (rules, taken_end)

pub returns-else-b-eq0 : goal.returns-else-b-eq0
returns-else-b-eq0 t c = search (rules, taken_on)
