-- Lines and what they mean: one table, one computed proof. Assumes nothing.
use mathlib.Core.Path.{◌≡◌, refl}
use mathlib.Core.Bool.{Bool, true}
use mathlib.Core.List.{List, [], ◌∷◌}
use Prim.Native.Nat.{ℕ}
use lib.Dec.{eqb}
use Rattle.words.specs.Lists.{both, every, equal}
use Rattle.words.specs.Sheet.{value}
use Rattle.lines.specs.Line.{until, past, count, line_of, digit, numeral, good, meaning}

-- an input, and number, A and row that it means
pub record Example : Type 0 where
  pub input : List ℕ
  pub number : ℕ
  pub a : ℕ
  pub row : List ℕ

unfoldable pub told : Example → Bool
told e = let m = meaning (line_of e.input) in both (eqb m.0 e.number) (both (eqb m.1 e.a) (equal m.2 e.row))

unfoldable pub means : List ℕ → ℕ → List ℕ → Example
means input a row = record { input = input; number = 0; a = a; row = row }

unfoldable pub refuses : List ℕ → Example
refuses input = record { input = input; number = 1; a = 0; row = [] }

-- the bytes: 9 tab, 10 the end of the line, 13, 48 to 57 digits, 97 and 98 the letters a and b
unfoldable pub examples : List Example
examples =
    means (51 ∷ 9 ∷ 97 ∷ 98 ∷ 10 ∷ []) 3 (97 ∷ 98 ∷ [])
    ∷ means (51 ∷ 9 ∷ 97 ∷ 98 ∷ []) 3 (97 ∷ 98 ∷ [])
    ∷ means (51 ∷ 9 ∷ 97 ∷ 10 ∷ 9 ∷ 98 ∷ []) 3 (97 ∷ [])
    ∷ means (48 ∷ 51 ∷ 9 ∷ 97 ∷ []) 3 (97 ∷ [])
    ∷ means (50 ∷ 55 ∷ 9 ∷ 97 ∷ []) 27 (97 ∷ [])
    ∷ means (48 ∷ 9 ∷ 97 ∷ []) 0 (97 ∷ [])
    ∷ means (49 ∷ 9 ∷ []) 1 []
    ∷ means (49 ∷ 9 ∷ 97 ∷ 13 ∷ 10 ∷ []) 1 (97 ∷ 13 ∷ [])
    ∷ refuses []
    ∷ refuses (10 ∷ [])
    ∷ refuses (10 ∷ 51 ∷ 9 ∷ 97 ∷ [])
    ∷ refuses (51 ∷ 10 ∷ [])
    ∷ refuses (51 ∷ 97 ∷ 10 ∷ [])
    ∷ refuses (9 ∷ 97 ∷ [])
    ∷ refuses (51 ∷ 9 ∷ 97 ∷ 9 ∷ 98 ∷ [])
    ∷ refuses (51 ∷ 9 ∷ 9 ∷ [])
    ∷ refuses (48 ∷ 48 ∷ 51 ∷ 9 ∷ 97 ∷ [])
    ∷ refuses (97 ∷ 9 ∷ 97 ∷ [])
    ∷ refuses (51 ∷ 97 ∷ 9 ∷ 97 ∷ [])
    ∷ []

pub examples_told : every told examples ≡ true
unfolding every told examples means refuses both equal until past count line_of digit numeral value good meaning
examples_told = refl
