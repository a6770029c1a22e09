-- The proof of `open_count`: one lemma of `Walks` for each way out. The measure is the chain value b. Assumes nothing.
use Rattle.arrays.proofs.+open_count.Given as goal

abbrev pub decreases-open_count : goal.decreases-open_count
decreases-open_count l = l.b
