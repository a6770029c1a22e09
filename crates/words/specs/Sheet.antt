-- The sheet's text. Assumes nothing: these are definitions.
use Rattle.std.specs.Prelude.{cond, List, [], ◌∷◌, ◌++◌, ℕ, zero, suc, ◌+◌, ◌-◌, ◌*◌, ◌/◌, ◌%◌, ltb, length}
use Rattle.words.specs.Lists.{each, joined}
use Rattle.words.specs.Rows.{echoes, reaches, periods, looks}

-- a number in decimal without leading zeros; n steps are enough
unfoldable pub decimal_in : ℕ → ℕ → List ℕ
decimal_in zero n = (48 + n) ∷ []
decimal_in (suc f) n = let r = decimal_in f (n / 10) ++ ((48 + n % 10) ∷ []) in cond (ltb n 10) ((48 + n) ∷ []) r

unfoldable pub decimal : ℕ → List ℕ
decimal n = decimal_in n n

-- the number that digits stand for, behind those that stand for v
unfoldable pub value : ℕ → List ℕ → ℕ
value v [] = v
value v (d ∷ l) = value (10 * v + (d - 48)) l

-- a tab before each number, byte 10 at the end; an empty list has no tab
unfoldable pub fields : List ℕ → List ℕ
fields [] = 10 ∷ []
fields (m ∷ l) = 9 ∷ (decimal m ++ fields l)

-- one record a line: a word and its numbers
pub record Line : Type 0 where
  pub word : List ℕ
  pub numbers : List ℕ

unfoldable pub line : Line → List ℕ
line l = l.word ++ fields l.numbers

unfoldable pub text : List Line → List ℕ
text l = joined (each line l)

-- the words of the lines: sheet, echo, reach, periods, looks
abbrev pub word_sheet : List ℕ
word_sheet = 115 ∷ 104 ∷ 101 ∷ 101 ∷ 116 ∷ []

abbrev pub word_echo : List ℕ
word_echo = 101 ∷ 99 ∷ 104 ∷ 111 ∷ []

abbrev pub word_reach : List ℕ
word_reach = 114 ∷ 101 ∷ 97 ∷ 99 ∷ 104 ∷ []

abbrev pub word_periods : List ℕ
word_periods = 112 ∷ 101 ∷ 114 ∷ 105 ∷ 111 ∷ 100 ∷ 115 ∷ []

abbrev pub word_looks : List ℕ
word_looks = 108 ∷ 111 ∷ 111 ∷ 107 ∷ 115 ∷ []

-- the lines of the sheet of a row over A: length and A, the echoes, the reach table, the periods, the looks
unfoldable pub lines : ℕ → List ℕ → List Line
lines A x =
    record { word = word_sheet; numbers = length x ∷ A ∷ [] }
    ∷ record { word = word_echo; numbers = echoes x }
    ∷ record { word = word_reach; numbers = reaches x }
    ∷ record { word = word_periods; numbers = periods x }
    ∷ record { word = word_looks; numbers = looks x ∷ [] }
    ∷ []

unfoldable pub sheet : ℕ → List ℕ → List ℕ
sheet A x = text (lines A x)
