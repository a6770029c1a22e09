-- `raise`: one lemma of `Stepping` for each step. Assumes nothing.
use Rattle.std.proofs.Common.{rules}
use Rattle.listing.proofs.Stepping.{raise_asks, raise_small, raise_passes, raise_done}
use Rattle.listing.proofs.raise.Goals as goal

pub least_open-v-requires : goal.least_open-v-requires
least_open-v-requires c = (search rules, search (rules, raise_asks))

pub put_echo-requires : goal.put_echo-requires
put_echo-requires c = (search rules, search rules, search (rules, raise_small))

pub fill-requires : goal.fill-requires
fill-requires c = (search rules, search rules, search (rules, raise_passes))

pub returns : goal.returns
returns c = search (rules, raise_done)
