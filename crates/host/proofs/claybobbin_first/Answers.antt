-- `host::claybobbin_first`. Assumes nothing.
use Rattle.std.proofs.Common.{rules}
use Rattle.host.proofs.Packing.{first_near}
use Rattle.host.proofs.claybobbin_first.Goals as goal

pub packed-requires : goal.packed-requires
packed-requires c = search (rules, first_near)
