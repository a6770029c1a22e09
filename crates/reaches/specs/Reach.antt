-- What the loop that writes a reach table keeps. Assumes nothing: these are definitions.
use Rattle.std.specs.Prelude.{◌≡◌, List, ℕ, suc, ◌≤◌, ◌<◌, length, Option, MatchOption, ⊤}
use Rattle.words.specs.Lists.{at}
use Rattle.words.specs.Rows.{card, reach}

-- the window that is kept lies behind the first l cards, where 0 < l < i; or there is none
abbrev pub Windowed : Option ℕ → ℕ → Type 0
Windowed w i = MatchOption w ⊤ (λ l. (0 < l) × (l < i))

-- the reaches of the first i places of x stand in t
pub record Reaching (x t : List ℕ) (i : ℕ) : Type 0 where
  pub within : i ≤ length x
  pub whole : length t ≡ length x
  pub right : (d : ℕ) → d < i → at t (suc d) ≡ reach (card x) (length x) (suc d)
