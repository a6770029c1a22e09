-- `climb`: each echo so far is one more than the echo before. Assumes nothing.
use Rattle.std.proofs.Common.{rules}
use Rattle.judging.proofs.Passing.{climbs_more}
use Rattle.judging.proofs.climb.Goals as goal

pub loop-j-preserved : goal.loop-j-preserved
loop-j-preserved c = (search rules, search rules, search (rules, climbs_more))
