-- The proof of `weigh`: one lemma of `Walks` for each way out. The measure is the chain value b. Assumes nothing.
use Rattle.arrays.proofs.+weigh.Given as goal

abbrev pub decreases-weigh : goal.decreases-weigh
decreases-weigh l = l.b
