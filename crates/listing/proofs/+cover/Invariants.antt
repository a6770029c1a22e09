-- `cover`: the chain value falls. Assumes nothing.
use Rattle.listing.proofs.+cover.Given as goal

abbrev pub decreases-cover : goal.decreases-cover
decreases-cover l = l.b
