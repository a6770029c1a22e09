-- `host::claybobbin_reach`. Assumes nothing.
use Rattle.std.proofs.Common.{rules}
use Rattle.host.proofs.Packing.{reach_near, buffer_packed}
use Rattle.host.proofs.claybobbin_reach.Goals as goal

pub packed-requires : goal.packed-requires
packed-requires c = search (rules, reach_near)

pub returns : goal.returns
returns c = search (rules, buffer_packed)
