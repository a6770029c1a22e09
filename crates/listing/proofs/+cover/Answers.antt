-- `cover`: the chain value falls. Assumes nothing.
use Rattle.std.proofs.Common.{rules}
use Rattle.listing.proofs.Covers.{walk_here, walk_above, walk_falls, walk_in, walk_sound, walk_possible, walk_hit_cover, walk_on_cover}
use Rattle.listing.proofs.+cover.Goals as goal

pub returns-then-b-p : goal.returns-then-b-p
returns-then-b-p t c = search (rules, walk_here)

pub echo-requires : goal.echo-requires
echo-requires t c = search (rules, walk_above)

pub cover-c-requires : goal.cover-c-requires
cover-c-requires t c = (search (rules, walk_falls), (search (rules, walk_in), search (rules, walk_sound), search (rules, walk_possible)))

pub returns-then-echo-c : goal.returns-then-echo-c
returns-then-echo-c t c = search (rules, walk_hit_cover)

pub returns-else-echo-c : goal.returns-else-echo-c
returns-else-echo-c t c = search (rules, walk_on_cover)
