-- `rows::last_echo`. Assumes nothing.
use Rattle.std.proofs.Common.{rules}
use Rattle.rows.proofs.Walks.{last_is, last_fits}
use Rattle.rows.proofs.last_echo.Goals as goal

pub returns : goal.returns
returns c = (search (rules, last_is), search (rules, last_fits))
