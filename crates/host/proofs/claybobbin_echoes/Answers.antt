-- `host::claybobbin_echoes`. Assumes nothing.
use Rattle.std.proofs.Common.{rules}
use Rattle.host.proofs.Packing.{echoes_near, buffer_packed}
use Rattle.host.proofs.claybobbin_echoes.Goals as goal

pub packed-requires : goal.packed-requires
packed-requires c = search (rules, echoes_near)

pub returns : goal.returns
returns c = search (rules, buffer_packed)
