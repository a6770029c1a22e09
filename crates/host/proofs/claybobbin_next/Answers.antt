-- `host::claybobbin_next`. Assumes nothing.
use Rattle.std.proofs.Common.{rules}
use Rattle.host.proofs.Packing.{next_near}
use Rattle.host.proofs.claybobbin_next.Goals as goal

pub packed-requires : goal.packed-requires
packed-requires c = search (rules, next_near)
