-- The proof of `weigh`: one lemma of `Walks` for each way out. The measure is the chain value b. Assumes nothing.
use Rattle.std.proofs.Common.{rules}
use Rattle.words.proofs.Lists.{either}
use Rattle.arrays.proofs.Walks.{weigh_top, weigh_over, weigh_end, weigh_hit, weigh_on}
use Rattle.arrays.proofs.+weigh.Goals as goal

pub returns-then-b-m : goal.returns-then-b-m
returns-then-b-m t c = search (rules, weigh_top)

pub returns-then-b-eq0 : goal.returns-then-b-eq0
returns-then-b-eq0 t c = either c.if-b-eq0.either (λ l. search (rules, weigh_over)) (λ r. search (rules, weigh_end))

pub returns-then-echo-m : goal.returns-then-echo-m
returns-then-echo-m t c = search (rules, weigh_hit)

pub returns-else-echo-m : goal.returns-else-echo-m
returns-else-echo-m t c = search (rules, weigh_on)
