-- What the state holds of the input taken so far, however it was cut into pieces. Assumes nothing: these are definitions.
use Rattle.std.specs.Prelude.{◌≡◌, false, cond, List, [], ◌∷◌, ◌++◌, ℕ, ◌+◌, ◌*◌, ◌≤◌, ◌<◌, min, ltb, length, take, Result, Ok, Err}
use Rattle.words.specs.Lists.{every}
use Rattle.words.specs.Numbers.{DONE}
use Rattle.words.specs.Refusals.{number_of}
use Rattle.words.specs.Sheet.{value}
use Rattle.words.specs.declared.Reason.{Reason}
use Rattle.lines.specs.Line.{TAB, END, until, past, count, line_of, digit, meaning}
use Rattle.lines.specs.declared.Figures.{Figures}
use Rattle.lines.specs.declared.State.{State}
use Rattle.lines.specs.declared.Line.{Line}

-- how many digits a field has; 3 where it has another byte or more than two
unfoldable pub figures : List ℕ → ℕ
figures l = cond (every digit l) (min 3 (length l)) 3

-- f holds the figures of the field l
pub record Shown (l : List ℕ) (f : Figures) : Type 0 where
  pub digits : f.digits ≡ figures l
  pub whole : f.digits < 3 → value 0 l ≡ 10 * f.tens + f.ones
  pub short : f.digits < 2 → f.tens ≡ 0
  pub empty : f.digits < 1 → f.ones ≡ 0

-- the buffer holds the first n cards of the row x: all, or as many as it has room for
pub record Stored (x : List ℕ) (n : ℕ) (buf : List ℕ) : Type 0 where
  pub count : n ≡ min (length buf) (length x)
  pub same : take n buf ≡ take (length buf) x

-- s and the buffer are the state behind the input
pub record Taken (input : List ℕ) (s : State) (buf : List ℕ) : Type 0 where
  pub ended : s.ended ≡ ltb 0 (count END input)
  pub tabs : s.tabs ≡ min 2 (count TAB (line_of input))
  pub field : Shown (until TAB (line_of input)) s.field
  pub row : Stored (past TAB (line_of input)) s.length buf

-- what a read says of the line: the bytes that it gave; one that gave none is at the end of input, which ends the line as byte 10 does
unfoldable pub gave : List ℕ → List ℕ
gave [] = END ∷ []
gave (b ∷ l) = b ∷ l

-- s and the buffer are the state behind some input, which has at least k bytes where its line has not ended
pub record Read (k : ℕ) (s : State) (buf : List ℕ) : Type 0 where
  pub input : List ℕ
  pub taken : Taken input s buf
  pub long : s.ended ≡ false → k ≤ length input

-- r is the state of each part one byte further, and of all a piece further
pub record Counts (b tabs r : ℕ) : Type 0 where
  pub more : (m : ℕ) → tabs ≡ min 2 m → r ≡ min 2 (m + count TAB (b ∷ []))

pub record Grows (b : ℕ) (f r : Figures) : Type 0 where
  pub more : (l : List ℕ) → Shown l f → Shown (l ++ (b ∷ [])) r

pub record Stores (b n : ℕ) (old : List ℕ) (r : ℕ) (new : List ℕ) : Type 0 where
  pub more : (x : List ℕ) → Stored x n old → Stored (x ++ (b ∷ [])) r new

pub record Takes (piece : List ℕ) (s : State) (old : List ℕ) (r : State) (new : List ℕ) : Type 0 where
  pub more : (input : List ℕ) → Taken input s old → Taken (input ++ piece) r new

-- r is the state one read further, whatever the read gave
pub record Reads (s : State) (old : List ℕ) (r : State) (new : List ℕ) : Type 0 where
  pub piece : List ℕ
  pub takes : Takes (gave piece) s old r new

-- r is the state before the first byte, whatever the buffer holds
pub record Starts (r : State) : Type 0 where
  pub none : (buf : List ℕ) → Taken [] r buf

-- number and A of what a line means, and how many cards of its row are kept; A 0 and none where it is refused
abbrev pub told_of : Result Line Reason → ℕ × ℕ × ℕ
told_of (Ok l) = (DONE, l.a, l.length)
told_of (Err why) = (number_of why, 0, 0)

-- r is what the input means: number and A, and how many cards of the row the buffer holds
pub record Means (input : List ℕ) (r : Result Line Reason) (buf : List ℕ) : Type 0 where
  pub number : (told_of r).0 ≡ (meaning (line_of input)).0
  pub a : (told_of r).1 ≡ (meaning (line_of input)).1
  pub row : Stored (meaning (line_of input)).2 (told_of r).2 buf

-- r is what every input means that s stands for
pub record Tells (s : State) (r : Result Line Reason) : Type 0 where
  pub means : (input buf : List ℕ) → Taken input s buf → Means input r buf
