-- `host::claybobbin_closing`. Assumes nothing.
use Rattle.std.proofs.Common.{rules}
use Rattle.host.proofs.Answers.{closing_fit, closing_packed}
use Rattle.host.proofs.claybobbin_closing.Goals as goal

pub packed-requires : goal.packed-requires
packed-requires c = search (rules, closing_fit)

pub returns : goal.returns
returns c = search (rules, closing_packed)
