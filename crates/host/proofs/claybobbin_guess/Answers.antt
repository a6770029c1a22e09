-- `host::claybobbin_guess`. Assumes nothing.
use Rattle.std.proofs.Common.{rules}
use Rattle.host.proofs.Packing.{guess_near, answer_packed}
use Rattle.host.proofs.claybobbin_guess.Goals as goal

pub packed-requires : goal.packed-requires
packed-requires c = search (rules, guess_near)

pub returns : goal.returns
returns c = search (rules, answer_packed)
