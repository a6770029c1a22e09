-- `next_card` meets its contract: one lemma of `Writing` for each way out. Assumes nothing.
use Rattle.std.proofs.Common.{rules}
use Rattle.rebuilding.proofs.Writing.{next_first, next_free, next_again, before_in, before_sound, echo_in}
use Rattle.rebuilding.proofs.next_card.Goals as goal

pub least-requires : goal.least-requires
least-requires c = (search (rules, before_in), search (rules, before_in), search rules, search (rules, before_sound))

pub card_at-requires : goal.card_at-requires
card_at-requires c = (search rules, search (rules, echo_in))

pub returns-then-i-eq0 : goal.returns-then-i-eq0
returns-then-i-eq0 c = search (rules, next_first)

pub returns-then-m-eq0 : goal.returns-then-m-eq0
returns-then-m-eq0 c = search (rules, next_free)

pub returns-else-m-eq0 : goal.returns-else-m-eq0
returns-else-m-eq0 c = search (rules, next_again)
