-- `reaches::mirrored`: what the window and the mirror place tell (`reach_mirrored`). Assumes nothing.
use Rattle.std.proofs.Common.{rules}
use Rattle.reaches.proofs.Window.{reach_mirrored}
use Rattle.reaches.proofs.mirrored.Goals as goal

pub returns : goal.returns
returns c = search (rules, reach_mirrored)
