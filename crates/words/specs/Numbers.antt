-- The numbers that come back, the limits, and the order of checks. A check gives a number and a place; (0, 0) is done.
-- Assumes nothing: these are definitions.
use Rattle.std.specs.Prelude.{Bool, cond, not, List, [], ◌∷◌, ℕ, ◌+◌, ltb, leb, eqb, length}
use Rattle.words.specs.Lists.{both, every, first_of, places, at}
use Rattle.words.specs.Rows.{card}

abbrev pub DONE : ℕ
DONE = 0

-- A outside 1..26
abbrev pub ALPHABET : ℕ
ALPHABET = 1

-- a row or array over 4,096; a counted n over 20
abbrev pub LONG : ℕ
LONG = 2

-- a lent slice that must match n does not
abbrev pub MISMATCH : ℕ
MISMATCH = 3

-- a card outside the alphabet
abbrev pub CARD : ℕ
CARD = 4

-- the echo there is not possible
abbrev pub IMPOSSIBLE : ℕ
IMPOSSIBLE = 5

-- possible, above 0, but hidden
abbrev pub HIDDEN : ℕ
HIDDEN = 6

-- zero, and A values are open
abbrev pub FULL : ℕ
FULL = 7

-- the sheet is longer than the buffer
abbrev pub ROOM : ℕ
ROOM = 8

-- the array stands and is the last
abbrev pub LAST : ℕ
LAST = 9

-- the guess's echoes first differ here
abbrev pub DIFFERS : ℕ
DIFFERS = 10

-- the greatest A; the greatest length of a row or array; the greatest n that is counted
abbrev pub letters : ℕ
letters = 26

abbrev pub limit : ℕ
limit = 4096

abbrev pub count_limit : ℕ
count_limit = 20

-- the byte of the letter a
abbrev pub first_letter : ℕ
first_letter = 97

-- c is one of the A letters
unfoldable pub letter : ℕ → ℕ → Bool
letter A c = both (leb first_letter c) (ltb c (first_letter + A))

-- a row over A: the card at every place is one of the A letters
unfoldable pub over : ℕ → List ℕ → Bool
over A x = every (λ i. letter A (card x i)) (places (length x))

-- the card at place i is outside the alphabet; the first such place, 0 where there is none
unfoldable pub foreign : ℕ → List ℕ → ℕ → Bool
foreign A x i = not (letter A (card x i))

unfoldable pub outside : ℕ → List ℕ → ℕ
outside A x = first_of (foreign A x) (places (length x))

-- two lists of one length differ at place i; the first such place, 0 where there is none
unfoldable pub differs : List ℕ → List ℕ → ℕ → Bool
differs e f i = not (eqb (at e i) (at f i))

unfoldable pub differing : List ℕ → List ℕ → ℕ
differing e f = first_of (differs e f) (places (length e))

-- number n at place p, where p is a place; done where it is 0
unfoldable pub named : ℕ → ℕ → ℕ × ℕ
named n p = cond (eqb p 0) (DONE, 0) (n, p)

-- number n at place 0, unless the test passes
unfoldable pub unless : Bool → ℕ → ℕ × ℕ
unless t n = cond t (DONE, 0) (n, 0)

-- the checks of the alphabet, of a length, of a slice that must match, of a row's cards
unfoldable pub alphabet : ℕ → ℕ × ℕ
alphabet A = unless (both (leb 1 A) (leb A letters)) ALPHABET

unfoldable pub long : ℕ → ℕ → ℕ × ℕ
long most n = unless (leb n most) LONG

unfoldable pub matching : ℕ → ℕ → ℕ × ℕ
matching n m = unless (eqb m n) MISMATCH

unfoldable pub cards : ℕ → List ℕ → ℕ × ℕ
cards A x = named CARD (outside A x)

-- the first check in the list that is not done; the last one where all before it are
unfoldable pub refusal : List (ℕ × ℕ) → ℕ × ℕ
refusal [] = (DONE, 0)
refusal (c ∷ []) = c
refusal (c ∷ d ∷ l) = let r = refusal (d ∷ l) in cond (eqb c.0 DONE) r c

-- 1, then 2: the alphabet, and the length n of a row or array
abbrev pub sizes : ℕ → ℕ → ℕ × ℕ
sizes A n = refusal (alphabet A ∷ long limit n ∷ [])

-- 1, 2, then 3: and a lent slice of m entries that must have n
abbrev pub lent : ℕ → ℕ → ℕ → ℕ × ℕ
lent A n m = refusal (sizes A n ∷ matching n m ∷ [])

-- 1, 2, then 4: a row
abbrev pub rowed : ℕ → List ℕ → ℕ × ℕ
rowed A x = refusal (sizes A (length x) ∷ cards A x ∷ [])

-- 1, 2, 3, then 4: two rows of one length, the hidden row x before the guess g
abbrev pub paired : ℕ → List ℕ → List ℕ → ℕ × ℕ
paired A x g =
    refusal (refusal (sizes A (length x) ∷ long limit (length g) ∷ matching (length x) (length g) ∷ []) ∷ cards A x ∷ cards A g ∷ [])
