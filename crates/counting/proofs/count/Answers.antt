-- `count`: the count of the empty prefix. Assumes nothing.
use Rattle.std.proofs.Common.{rules}
use Rattle.counting.proofs.Counting.{count_whole}
use Rattle.counting.proofs.count.Goals as goal

pub returns : goal.returns
returns c = search (rules, count_whole)
