-- The proof of `taken`: one lemma of `Writing` for each way out. The measure is the chain value b. Assumes nothing.
use Rattle.rebuilding.proofs.+taken.Given as goal

abbrev pub decreases-taken : goal.decreases-taken
decreases-taken l = l.b
