-- `least_open`: each possible value is above the next. Assumes nothing.
use Rattle.std.proofs.Common.{rules}
use Rattle.listing.proofs.Covers.{lower_none, lower_within, lower_below, lower_in, lower_sound, lower_possible, lower_falls, lower_next, lower_far, lower_min}
use Rattle.listing.proofs.+least_open.Goals as goal

pub returns-then-p-v : goal.returns-then-p-v
returns-then-p-v t c = search (rules, lower_none)

pub peak_at-requires-2 : goal.peak_at-requires-2
peak_at-requires-2 t c = search (rules, lower_below)

pub least_open-rest-requires : goal.least_open-rest-requires
least_open-rest-requires t c = (search (rules, lower_falls), (search rules, search (rules, lower_next)))

pub echo-requires : goal.echo-requires
echo-requires t c = (search rules, search (rules, lower_within))

pub returns-then-v-echo : goal.returns-then-v-echo
returns-then-v-echo t c = search (rules, lower_far)

pub cover-requires : goal.cover-requires
cover-requires t c = (search (rules, lower_in), search (rules, lower_sound), search (rules, lower_possible))

pub returns : goal.returns
returns t c = search (rules, lower_min)
