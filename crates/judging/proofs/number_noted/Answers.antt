-- `number_noted`: what stands is noted. Assumes nothing.
use Rattle.std.proofs.Common.{rules}
use Rattle.judging.proofs.Again.{stood_more}
use Rattle.judging.proofs.number_noted.Goals as goal

pub returns-then-m-lt16 : goal.returns-then-m-lt16
returns-then-m-lt16 c = (search rules, search (rules, stood_more))
