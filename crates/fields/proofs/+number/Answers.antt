-- `number`: n / 10 is less than n. Assumes nothing.
use Rattle.std.proofs.Common.{rules}
use Rattle.fields.proofs.Fields.{number_first, number_next, number_room, number_end, number_more}
use Rattle.fields.proofs.+number.Goals as goal

pub byte-requires : goal.byte-requires
byte-requires t c = search (rules, number_first)

pub number-at-requires : goal.number-at-requires
number-at-requires t c = (search rules, search (rules, number_next))

pub byte-requires-else-n-lt10 : goal.byte-requires-else-n-lt10
byte-requires-else-n-lt10 t c = search (rules, number_room)

pub returns-then-n-lt10 : goal.returns-then-n-lt10
returns-then-n-lt10 t c = search (rules, number_end)

pub returns-else-n-lt10 : goal.returns-else-n-lt10
returns-else-n-lt10 t c = search (rules, number_more)
