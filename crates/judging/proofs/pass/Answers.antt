-- `pass`: one lemma of `Passing` for each way out. Assumes nothing.
use Rattle.std.proofs.Common.{rules}
use Rattle.judging.proofs.Passing.{passing_low, passed_run}
use Rattle.judging.proofs.pass.Goals as goal

pub along-requires : goal.along-requires
along-requires c = search (rules, passing_low)

pub returns-then-m-peak_at : goal.returns-then-m-peak_at
returns-then-m-peak_at c = ((search rules, search rules, search (rules, passed_run)), search rules)
