-- `host::claybobbin_rebuild`. Assumes nothing.
use Rattle.std.proofs.Common.{rules}
use Rattle.host.proofs.Packing.{rebuild_near}
use Rattle.host.proofs.claybobbin_rebuild.Goals as goal

pub packed-requires : goal.packed-requires
packed-requires c = search (rules, rebuild_near)
