-- The published counts. Assumes nothing: this is a definition.
use Rattle.std.specs.Prelude.{List, [], ◌∷◌, ℕ}

-- the counts over 26 letters for n = 1..10 (document 001)
abbrev pub published : List ℕ
published = 1 ∷ 2 ∷ 4 ∷ 9 ∷ 20 ∷ 47 ∷ 110 ∷ 263 ∷ 630 ∷ 1525 ∷ []
