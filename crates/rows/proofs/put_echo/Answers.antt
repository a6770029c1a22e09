-- `rows::put_echo`: place i is index i - 1. Assumes nothing.
use Rattle.std.proofs.Common.{rules}
use Rattle.words.proofs.Places.{set_placed}
use Rattle.rows.proofs.put_echo.Goals as goal

pub returns : goal.returns
returns c = (search (rules, set_placed), search rules)
