-- `host::decode`. Assumes nothing.
use Prim.Native.Nat.{◌+◌, ◌*◌}
use native.Mathlib.Omega.{arith}
use lib.ListN.{get_or}
use mathlib.Core.Path.{◌≡◌}
use Rattle.std.proofs.Common.{rules}
use Rattle.host.proofs.Decoding.{decode_more, decode_done}
use Rattle.host.proofs.decode.Goals as goal

pub loop-i-preserved : goal.loop-i-preserved
loop-i-preserved c =
    let v : c.from_le_bytes.result ≡ get_or c.args.bytes.now (2 * c.loop-i.i) 0 + 256 * get_or c.args.bytes.now (2 * c.loop-i.i + 1) 0 = omega (arith, c.from_le_bytes.ensures) in
    search (rules, decode_more, v)

pub returns : goal.returns
returns c = search (rules, decode_done)
