-- `judge_in`: the places behind pass. Assumes nothing.
use Rattle.std.proofs.Common.{rules}
use Rattle.std.proofs.lemmas.Result.{err_from_is_err_and}
use Rattle.judging.proofs.Judged.{judged_all, judged_stuck}
use Rattle.judging.proofs.judge_in.Goals as goal

pub returns-in_err-place : goal.returns-in_err-place
returns-in_err-place c = let p = err_from_is_err_and c.from_residual.result c.from_residual.ensures.1 in
    rw (p.1, p.2) (judged_stuck _ c.loop-i.invariant.0 _ c.requires.0 c.told-t _ c.in_err-place.ensures.0)

pub returns : goal.returns
returns c = search (rules, judged_all)
