-- `numbers_len`. Assumes nothing.
use Rattle.std.proofs.Common.{arith, rules}
use Rattle.std.proofs.iter.runs.Made.{chains}
use Rattle.fields.proofs.Fields.{numbers_long, numbers_low}
use Rattle.fields.proofs.numbers_len.Goals as goal

pub overflow_add-result : goal.overflow_add-result
overflow_add-result c = record { fits = omega (arith, numbers_low c.args.list.now c.sum-widths.result (search (rules, chains)) c.type_inv.list (omega arith)) }

pub returns : goal.returns
returns c = (search (rules, chains, numbers_long), numbers_low c.args.list.now c.sum-widths.result (search (rules, chains)) c.type_inv.list (omega arith))
