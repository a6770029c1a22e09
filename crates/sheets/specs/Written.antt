-- A text written where it fits. Assumes nothing: this is a definition.
use Rattle.std.specs.Prelude.{List, ◌++◌, ℕ, leb, length, drop}
use Rattle.words.specs.Numbers.{ROOM, unless}
use Rattle.words.specs.Outcomes.{given, kept}

-- number, length and buffer of a text that is written where it fits, else not at all
unfoldable pub written : List ℕ → List ℕ → ℕ × ℕ × List ℕ
written t old = let r = unless (leb (length t) (length old)) ROOM in (r.0, given r (length t), kept r (t ++ drop (length t) old) old)
