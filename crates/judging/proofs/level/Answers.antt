-- `level`: the first k of the places are looked at. Assumes nothing.
use Rattle.std.proofs.Common.{rules}
use Rattle.words.specs.Lists.{both}
use Rattle.judging.proofs.Passing.{level_more}
use Rattle.judging.proofs.level.Goals as goal

pub loop-k-preserved : goal.loop-k-preserved
unfolding both
loop-k-preserved c = search (rules, level_more)
