-- The first eight published counts are what the counting definition gives: one computed test. Assumes nothing.
use mathlib.Core.Path.{◌≡◌, refl}
use lib.ListN.{take}
use Rattle.words.specs.Lists.{both, each, any, keep, sum, run, places, at}
use Rattle.words.specs.Rows.{down_in, down, chain}
use Rattle.words.specs.Numbers.{letters}
use Rattle.words.specs.Stand.{possible, hidden, opens, weight, weighed}
use Rattle.words.specs.Listing.{more, values, count_from, standing, count}
use Rattle.counting.specs.Published.{published}

pub eight_counts : each (count letters) (places 8) ≡ take 8 published
unfolding each places run count count_from sum values more standing weighed weight opens hidden possible chain down_in down keep any both at
eight_counts = refl
