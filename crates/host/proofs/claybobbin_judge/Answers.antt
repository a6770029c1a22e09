-- `host::claybobbin_judge`. Assumes nothing.
use Rattle.std.proofs.Common.{rules}
use Rattle.host.proofs.Answers.{judge_place, judge_packed}
use Rattle.host.proofs.claybobbin_judge.Goals as goal

pub packed-requires : goal.packed-requires
packed-requires c = search (rules, judge_place)

pub returns : goal.returns
returns c = search (rules, judge_packed)
