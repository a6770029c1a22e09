-- `rows::extend`: the walk that grows a border; the number on the chain falls. Assumes nothing.
use Rattle.std.proofs.Common.{rules}
use Rattle.rows.proofs.Walks.{extend_here, extend_end, extend_on, extend_low, next_falls, next_inside, next_known}
use Rattle.rows.proofs.+extend.Goals as goal

pub extend-requires : goal.extend-requires
extend-requires t c = (search (rules, next_falls), (search (rules, next_inside), search (rules, next_known)))

pub returns-then-card_at-c : goal.returns-then-card_at-c
returns-then-card_at-c t c = (search (rules, extend_here), search rules)

pub returns-then-b-eq0 : goal.returns-then-b-eq0
returns-then-b-eq0 t c = (search (rules, extend_end), search rules)

pub returns-else-b-eq0 : goal.returns-else-b-eq0
returns-else-b-eq0 t c = (search (rules, extend_on), search (rules, extend_low))
