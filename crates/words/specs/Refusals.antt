-- What the code says in its own types, as the numbers and places that the demands speak of.
-- Assumes nothing: these are definitions.
use Rattle.std.specs.Prelude.{◌≡◌, List, ℕ, ◌<◌, Option, Result, Ok, Err, MatchOption}
use Rattle.words.specs.declared.Reason.{Reason}
use Rattle.words.specs.declared.Reason.TheVariants.{Alphabet, Long, Mismatch, Card, Impossible, Hidden, Full, Room, Last, Differs}
use Rattle.words.specs.declared.Refusal.{Refusal}
use Rattle.words.specs.Numbers.{DONE, ALPHABET, LONG, MISMATCH, CARD, IMPOSSIBLE, HIDDEN, FULL, ROOM, LAST, DIFFERS, differing}

-- the number of a reason
abbrev pub number_of : Reason → ℕ
number_of Alphabet = ALPHABET
number_of Long = LONG
number_of Mismatch = MISMATCH
number_of Card = CARD
number_of Impossible = IMPOSSIBLE
number_of Hidden = HIDDEN
number_of Full = FULL
number_of Room = ROOM
number_of Last = LAST
number_of Differs = DIFFERS

-- number and place of a refusal
abbrev pub refused : Refusal → ℕ × ℕ
refused r = (number_of r.reason, r.place)

-- number and place of what was done or refused
abbrev pub outcome : {T : Type 0} → Result T Refusal → ℕ × ℕ
outcome (Ok _) = (DONE, 0)
outcome (Err r) = refused r

-- the number of what was done or refused where the place is known
abbrev pub numbered : {T : Type 0} → Result T Reason → ℕ
numbered (Ok _) = DONE
numbered (Err why) = number_of why

-- number and length of what was written or refused; the length is 0 beside a refusal
abbrev pub sized : Result ℕ Reason → ℕ × ℕ
sized (Ok length) = (DONE, length)
sized (Err why) = (number_of why, 0)

-- the first place where two lists of one length differ, or none
abbrev pub Differing : List ℕ → List ℕ → Option ℕ → Type 0
Differing e f r = MatchOption r (differing e f ≡ 0) (λ p. (0 < p) × (p ≡ differing e f))
