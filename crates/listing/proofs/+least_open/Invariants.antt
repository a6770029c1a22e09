-- `least_open`: each possible value is above the next. Assumes nothing.
use Rattle.listing.proofs.+least_open.Given as goal

abbrev pub decreases-least_open : goal.decreases-least_open
decreases-least_open l = l.p
