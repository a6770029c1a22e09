-- `numbers`. Assumes nothing.
use Rattle.std.proofs.Common.{rules}
use Rattle.fields.proofs.Fields.{numbers_room, numbers_more, numbers_last, numbers_done}
use Rattle.fields.proofs.numbers.Goals as goal

pub field-at-requires : goal.field-at-requires
field-at-requires c = search (rules, numbers_room)

pub loop-number-preserved : goal.loop-number-preserved
loop-number-preserved c = search (rules, numbers_more)

pub byte-requires : goal.byte-requires
byte-requires c = search (rules, numbers_last)

pub returns : goal.returns
returns c = search (rules, numbers_done)
