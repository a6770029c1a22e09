-- `judge`: nothing stood at first. Assumes nothing.
use Rattle.std.proofs.Common.{rules}
use Rattle.judging.proofs.Again.{stood_none}
use Rattle.judging.proofs.judge.Goals as goal

pub judge_in-requires : goal.judge_in-requires
judge_in-requires c = (search rules, stood_none _ _)
