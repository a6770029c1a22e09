-- `Tables::walk`: each echo is below its place. Assumes nothing.
use Rattle.std.proofs.Common.{rules}
use Rattle.fields.proofs.Parts.{put_room, put_then}
use Rattle.sheets.proofs.Periods.{fields_first, walk_split, walk_field, walk_falls, walk_in, walk_end}
use Rattle.sheets.proofs.Tables.+walk.Goals as goal

pub byte-requires : goal.byte-requires
byte-requires t c = search (rules, fields_first)

pub field-at-requires : goal.field-at-requires
field-at-requires t c = search (rules, walk_field)

pub walk-requires : goal.walk-requires
walk-requires t c = (search (rules, walk_falls), (search (rules, walk_in), search (rules, put_room, walk_split)))

pub returns-then-b-eq0 : goal.returns-then-b-eq0
returns-then-b-eq0 t c = search (rules, walk_end)

pub returns-else-b-eq0 : goal.returns-else-b-eq0
returns-else-b-eq0 t c = search (rules, put_then, walk_split)
