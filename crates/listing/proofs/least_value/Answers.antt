-- `least_value`: one lemma of `Stepping` for each way out. Assumes nothing.
use Rattle.std.proofs.Common.{rules}
use Rattle.words.proofs.Refusals.{err_some}
use Rattle.listing.proofs.Stepping.{seek_one, seek_place, seek_again, seek_asks, seek_open}
use Rattle.listing.proofs.least_value.Goals as goal

pub returns-then-a-eq1 : goal.returns-then-a-eq1
returns-then-a-eq1 c = search (rules, seek_one)

pub echo-requires : goal.echo-requires
echo-requires c = (search (rules, seek_place), search rules)

pub returns-then-repeats : goal.returns-then-repeats
returns-then-repeats c = search (rules, seek_again)

pub least_open-requires : goal.least_open-requires
least_open-requires c = (search rules, search (rules, seek_asks, err_some))

pub returns : goal.returns
returns c = search (rules, seek_open, err_some)
