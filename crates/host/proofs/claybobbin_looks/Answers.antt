-- `host::claybobbin_looks`. Assumes nothing.
use Rattle.std.proofs.Common.{rules}
use Rattle.host.proofs.Packing.{looks_near, looks_fit, value_packed}
use Rattle.host.proofs.claybobbin_looks.Goals as goal

pub packed-requires : goal.packed-requires
packed-requires c = search (rules, looks_near, looks_fit)

pub returns : goal.returns
returns c = search (rules, value_packed)
