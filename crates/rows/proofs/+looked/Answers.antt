-- `rows::looked`: the walk that counts its looks; the number on the chain falls. Assumes nothing.
use Rattle.std.proofs.Common.{rules}
use Rattle.rows.proofs.Walks.{look_here, look_end, look_on, look_low, next_falls, next_inside, next_known}
use Rattle.rows.proofs.+looked.Goals as goal

pub returns-then-card_at-c : goal.returns-then-card_at-c
returns-then-card_at-c t c = (search (rules, look_here), search rules)

pub looked-requires : goal.looked-requires
looked-requires t c = (search (rules, next_falls), (search (rules, next_inside), search (rules, next_known)))

pub returns-then-b-eq0 : goal.returns-then-b-eq0
returns-then-b-eq0 t c = (search (rules, look_end), search rules)

pub returns-else-b-eq0 : goal.returns-else-b-eq0
returns-else-b-eq0 t c = (search (rules, look_on), search (rules, look_low))
