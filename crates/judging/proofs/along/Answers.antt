-- `along`: the one run behind the other. Assumes nothing.
use Rattle.std.proofs.Common.{rules}
use Rattle.judging.proofs.Passing.{climbs_next}
use Rattle.judging.proofs.along.Goals as goal

pub climb-requires : goal.climb-requires
climb-requires c = search (rules, climbs_next)
