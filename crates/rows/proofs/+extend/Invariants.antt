-- `rows::extend`: the walk that grows a border; the number on the chain falls. Assumes nothing.
use Rattle.rows.proofs.+extend.Given as goal

abbrev pub decreases-extend : goal.decreases-extend
decreases-extend l = l.b
