-- `sheet::print_reply`. Assumes nothing.
use Rattle.std.proofs.Common.{rules}
use Rattle.sheet.proofs.Kept.{answers_within, answers_part}
use Rattle.sheet.proofs.print_reply.Goals as goal

pub slice_bounds-write_all-end : goal.slice_bounds-write_all-end
slice_bounds-write_all-end g c = search (rules, answers_within)

pub slice_bounds-write_all-end-2 : goal.slice_bounds-write_all-end-2
slice_bounds-write_all-end-2 g c = search (rules, answers_part)
