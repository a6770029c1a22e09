-- What the line that the sheet program reads means. Assumes nothing: these are definitions.
use Rattle.std.specs.Prelude.{Bool, cond, List, [], ◌∷◌, ℕ, suc, leb, eqb, length}
use Rattle.words.specs.Lists.{both, every}
use Rattle.words.specs.Numbers.{DONE, ALPHABET}
use Rattle.words.specs.Sheet.{value}

abbrev pub TAB : ℕ
TAB = 9

abbrev pub END : ℕ
END = 10

-- the bytes before the first byte c; all where there is none
unfoldable pub until : ℕ → List ℕ → List ℕ
until c [] = []
until c (b ∷ l) = let r = b ∷ until c l in cond (eqb b c) [] r

-- the bytes behind the first byte c; none where there is none
unfoldable pub past : ℕ → List ℕ → List ℕ
past c [] = []
past c (b ∷ l) = let r = past c l in cond (eqb b c) l r

-- how many bytes are c
unfoldable pub count : ℕ → List ℕ → ℕ
count c [] = 0
count c (b ∷ l) = let r = count c l in cond (eqb b c) (suc r) r

-- the line of an input ends at byte 10 or at the end of input
unfoldable pub line_of : List ℕ → List ℕ
line_of input = until END input

-- a decimal digit
unfoldable pub digit : ℕ → Bool
digit b = both (leb 48 b) (leb b 57)

-- one or two decimal digits
unfoldable pub numeral : List ℕ → Bool
numeral l = both (every digit l) (both (leb 1 (length l)) (leb (length l) 2))

-- exactly one tab, and before it an A of one or two decimal digits
unfoldable pub good : List ℕ → Bool
good line = both (eqb (count TAB line) 1) (numeral (until TAB line))

-- number, A and row that a line means; the row is all behind the tab
unfoldable pub meaning : List ℕ → ℕ × ℕ × List ℕ
meaning line = cond (good line) (DONE, value 0 (until TAB line), past TAB line) (ALPHABET, 0, [])
