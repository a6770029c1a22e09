-- `noted`: the first k of the places are looked up. Assumes nothing.
use Rattle.std.proofs.Common.{rules}
use Rattle.words.specs.Lists.{both}
use Rattle.judging.proofs.Again.{known_more, known_in}
use Rattle.judging.proofs.noted.Goals as goal

pub bounds-fresh-echo : goal.bounds-fresh-echo
bounds-fresh-echo c = search (rules, known_in)

pub loop-k-preserved : goal.loop-k-preserved
unfolding both
loop-k-preserved c = search (rules, known_more, c.loop-k.invariant)
