-- `numbers`. The invariant: the numbers before this one are put, those from it on are left. Assumes nothing.
use lib.ListN.{drop}
use Rattle.words.specs.Sheet.{fields}
use Rattle.fields.specs.Writing.{Begun}
use Rattle.fields.proofs.numbers.Given as goal

abbrev pub invariant-loop-number : goal.invariant-loop-number
invariant-loop-number l = Begun (fields l.list) (fields (drop l.number-index l.list)) l.initial.out l.out l.at
