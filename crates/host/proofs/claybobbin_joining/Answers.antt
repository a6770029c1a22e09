-- `host::claybobbin_joining`. Assumes nothing.
use Rattle.std.proofs.Common.{rules}
use Rattle.host.proofs.Answers.{joining_fit, joining_packed}
use Rattle.host.proofs.claybobbin_joining.Goals as goal

pub packed-requires : goal.packed-requires
packed-requires c = search (rules, joining_fit)

pub returns : goal.returns
returns c = search (rules, joining_packed)
