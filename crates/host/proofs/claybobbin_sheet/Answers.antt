-- `host::claybobbin_sheet`. Assumes nothing.
use Rattle.std.proofs.Common.{rules}
use Rattle.host.proofs.Packing.{sheet_near, sheet_fit, both_packed}
use Rattle.host.proofs.claybobbin_sheet.Goals as goal

pub packed-requires : goal.packed-requires
packed-requires c = search (rules, sheet_near, sheet_fit)

pub returns : goal.returns
returns c = search (rules, both_packed)
