-- P1 to P14: one table of cases, one test over it, one computed proof. The cases go through the outcomes of the entries. Assumes nothing.
use mathlib.Core.Path.{◌≡◌, refl}
use mathlib.Core.Bool.{Bool, true}
use mathlib.Core.List.{List, [], ◌∷◌, ◌++◌}
use Prim.Native.Nat.{ℕ}
use lib.Dec.{eqb}
use lib.ListN.{length}
use Rattle.words.specs.Lists.{both, each, any, every, keep, first_of, greatest, joined, sum, equal, run, places, falling, at}
use Rattle.words.specs.Rows.{card, agree, closes, echo, echoes, down_in, down, chain, reach, reaches, borders, periods, looks_from, looks_at, looks_to, looks}
use Rattle.words.specs.Numbers.{DONE, MISMATCH, IMPOSSIBLE, HIDDEN, FULL, LAST, DIFFERS, letter, foreign, outside, differs, differing, named, unless, alphabet, long, matching, cards, refusal}
use Rattle.words.specs.Stand.{possible, hidden, opens, weight, weighed, number_at, fails, first_bad, verdict}
use Rattle.words.specs.Least.{least_not, free_letter, next_card, rebuilt}
use Rattle.words.specs.Listing.{more, values, listing, count_from, standing, count, head, behind}
use Rattle.words.specs.Sheet.{decimal_in, decimal, fields, line, text, lines, sheet}
use Rattle.words.specs.Outcomes.{kept, given, answered, counted, echoes_outcome, reach_outcome, looks_outcome, sheet_outcome, guess_outcome, judge_outcome, count_outcome, rebuild_rule, first_rule, next_rule}

-- what 01 says of a row or an array over A
pub data Case : Type 0 where
  echoing : (A : ℕ) (row e : List ℕ) → Case
  reaching : (A : ℕ) (row r : List ℕ) → Case
  looking : (A : ℕ) (row : List ℕ) (count : ℕ) → Case
  judged : (A : ℕ) (e : List ℕ) (number place : ℕ) → Case
  rebuilding : (A : ℕ) (e row : List ℕ) → Case
  counting : (A n count : ℕ) → Case
  writing : (A : ℕ) (row text : List ℕ) → Case
  guessing : (A : ℕ) (hidden guess : List ℕ) (number place : ℕ) → Case
  starting : (A n : ℕ) (f : List ℕ) → Case
  stepping : (A : ℕ) (e f : List ℕ) → Case
  stopping : (A : ℕ) (e : List ℕ) (number place : ℕ) → Case
  lending : (A : ℕ) (e buffer : List ℕ) → Case

-- a buffer of the same length that holds neither a card nor an echo of the cases
unfoldable pub blank : List ℕ → List ℕ
blank l = each (λ c. 200) l

-- an answer of number, place and contents is as told
unfoldable pub answers : ℕ × ℕ × List ℕ → ℕ → ℕ → List ℕ → Bool
answers r number place new = both (eqb r.0 number) (both (eqb r.1 place) (equal r.2 new))

unfoldable pub tells : ℕ × ℕ × ℕ → ℕ → Bool
tells r count = both (eqb r.0 DONE) (both (eqb r.1 0) (eqb r.2 count))

-- the outcome of the entry is what the case says; a refusal leaves the buffer of rebuild as it came
unfoldable pub holds : Case → Bool
holds (echoing A row e) = answers (echoes_outcome A row (blank row)) DONE 0 e
holds (reaching A row r) = answers (reach_outcome A row (blank row)) DONE 0 r
holds (looking A row k) = tells (looks_outcome A row) k
holds (judged A e number place) = let r = judge_outcome A e in let w = rebuild_rule A e (blank e) in
    both (both (eqb r.0 number) (eqb r.1 place)) (answers w number place (kept r w.2 (blank e)))
holds (rebuilding A e row) = answers (rebuild_rule A e (blank e)) DONE 0 row
holds (counting A n k) = tells (count_outcome A n) k
holds (writing A row text) = let r = sheet_outcome A row (blank text) in both (tells (r.0, r.1, r.2) (length text)) (equal r.3 text)
holds (guessing A x g number place) = let r = guess_outcome A x g in both (eqb r.0 number) (eqb r.1 place)
holds (starting A n f) = answers (first_rule A n (blank f)) DONE 0 f
holds (stepping A e f) = answers (next_rule A e) DONE 0 f
holds (stopping A e number place) = answers (next_rule A e) number place e
holds (lending A e buffer) = let w = rebuild_rule A e buffer in let f = first_rule A (length e) buffer in
    both (answers w MISMATCH 0 buffer) (answers f MISMATCH 0 buffer)

abbrev a : ℕ
a = 97

abbrev b : ℕ
b = 98

abbrev c : ℕ
c = 99

-- P4's array, and P9's
unfoldable pub p4 : List ℕ
p4 = 0 ∷ 0 ∷ 1 ∷ 1 ∷ 2 ∷ 3 ∷ 2 ∷ 3 ∷ 4 ∷ 5 ∷ 6 ∷ []

unfoldable pub p9 : List ℕ
p9 = 0 ∷ 0 ∷ 1 ∷ 0 ∷ 1 ∷ 2 ∷ 3 ∷ 0 ∷ 1 ∷ 2 ∷ 3 ∷ 4 ∷ 5 ∷ 6 ∷ 7 ∷ []

-- 01's sheet, byte for byte
unfoldable pub abaab : List ℕ
abaab =
    115 ∷ 104 ∷ 101 ∷ 101 ∷ 116 ∷ 9 ∷ 53 ∷ 9 ∷ 51 ∷ 10
    ∷ 101 ∷ 99 ∷ 104 ∷ 111 ∷ 9 ∷ 48 ∷ 9 ∷ 48 ∷ 9 ∷ 49 ∷ 9 ∷ 49 ∷ 9 ∷ 50 ∷ 10
    ∷ 114 ∷ 101 ∷ 97 ∷ 99 ∷ 104 ∷ 9 ∷ 53 ∷ 9 ∷ 48 ∷ 9 ∷ 49 ∷ 9 ∷ 50 ∷ 9 ∷ 48 ∷ 10
    ∷ 112 ∷ 101 ∷ 114 ∷ 105 ∷ 111 ∷ 100 ∷ 115 ∷ 9 ∷ 51 ∷ 10
    ∷ 108 ∷ 111 ∷ 111 ∷ 107 ∷ 115 ∷ 9 ∷ 53 ∷ 10
    ∷ []

-- in order: P1, P2, P3, P4; P5 to P8; P9; P10, P11; P12; P13, P14; and further the least row of 0 0 0, which is abb; 01's sheet; the first array of four places
-- over three letters and over one; the empty array, first and last of its length; P11's array, from which no step goes; a buffer of two for three; a guess at abb
-- by abc, whose cards differ first at place 3 and whose echoes do not, and one whose echoes do
unfoldable pub table : List Case
table =
    echoing 1 [] [] ∷ looking 1 [] 0
    ∷ echoing 1 (a ∷ []) (0 ∷ []) ∷ looking 1 (a ∷ []) 0
    ∷ echoing 2 (a ∷ a ∷ b ∷ []) (0 ∷ 1 ∷ 0 ∷ []) ∷ reaching 2 (a ∷ a ∷ b ∷ []) (3 ∷ 1 ∷ 0 ∷ []) ∷ looking 2 (a ∷ a ∷ b ∷ []) 3
    ∷ echoing 2 (a ∷ b ∷ a ∷ a ∷ b ∷ a ∷ b ∷ a ∷ a ∷ b ∷ a ∷ []) p4
    ∷ judged 3 (p4 ++ (0 ∷ [])) DONE 0 ∷ rebuilding 3 (p4 ++ (0 ∷ [])) (a ∷ b ∷ a ∷ a ∷ b ∷ a ∷ b ∷ a ∷ a ∷ b ∷ a ∷ c ∷ [])
    ∷ judged 2 (p4 ++ (0 ∷ [])) FULL 12
    ∷ judged 3 (p4 ++ (2 ∷ [])) HIDDEN 12
    ∷ judged 3 (p4 ++ (3 ∷ [])) IMPOSSIBLE 12
    ∷ judged 4 (p9 ++ (0 ∷ [])) FULL 16 ∷ judged 5 (p9 ++ (0 ∷ [])) DONE 0
    ∷ judged 2 (1 ∷ []) IMPOSSIBLE 1
    ∷ judged 2 (0 ∷ 2 ∷ []) IMPOSSIBLE 2
    ∷ counting 1 4 1 ∷ counting 2 4 8 ∷ counting 3 4 9
    ∷ stepping 3 (0 ∷ 0 ∷ 0 ∷ 1 ∷ []) (0 ∷ 0 ∷ 1 ∷ 0 ∷ []) ∷ stepping 2 (0 ∷ 0 ∷ 0 ∷ 1 ∷ []) (0 ∷ 0 ∷ 1 ∷ 1 ∷ [])
    ∷ stopping 2 (0 ∷ 1 ∷ 2 ∷ []) LAST 0
    ∷ rebuilding 3 (0 ∷ 0 ∷ 0 ∷ []) (a ∷ b ∷ b ∷ [])
    ∷ writing 3 (a ∷ b ∷ a ∷ a ∷ b ∷ []) abaab
    ∷ starting 3 4 (0 ∷ 0 ∷ 0 ∷ 0 ∷ []) ∷ starting 1 4 (0 ∷ 1 ∷ 2 ∷ 3 ∷ []) ∷ starting 5 0 [] ∷ stopping 5 [] LAST 0
    ∷ stopping 2 (0 ∷ 2 ∷ []) IMPOSSIBLE 2 ∷ lending 3 (0 ∷ 0 ∷ 0 ∷ []) (200 ∷ 200 ∷ [])
    ∷ guessing 3 (a ∷ b ∷ b ∷ []) (a ∷ b ∷ c ∷ []) DONE 0 ∷ guessing 2 (a ∷ a ∷ b ∷ []) (a ∷ b ∷ a ∷ []) DIFFERS 2
    ∷ []

-- every case of the table holds
pub corridors : every holds table ≡ true
unfolding table abaab decimal_in decimal fields line text lines sheet p4 p9 holds tells answers blank
    both each any every keep first_of greatest joined sum equal run places falling at
    card agree closes echo echoes down_in down chain reach reaches borders periods looks_from looks_at looks_to looks
    letter foreign outside differs differing named unless alphabet long matching cards refusal
    possible hidden opens weight weighed number_at fails first_bad verdict
    least_not free_letter next_card rebuilt
    more values listing count_from standing count head behind
    kept given answered counted echoes_outcome reach_outcome looks_outcome sheet_outcome guess_outcome judge_outcome count_outcome rebuild_rule first_rule next_rule
corridors = refl
