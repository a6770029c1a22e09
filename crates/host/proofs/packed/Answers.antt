-- `host::packed`. Assumes nothing.
use Rattle.std.proofs.Common.{rules}
use Rattle.words.specs.Outcomes.{packing}
use Rattle.host.proofs.packed.Goals as goal

pub returns : goal.returns
unfolding packing
returns c = search rules
