-- The lines of a sheet, one behind the other, in the code's terms. Assumes nothing.
use mathlib.Core.Path.{◌≡◌, refl, ap, ◌∙◌}
use mathlib.Core.List.{List, [], ◌∷◌, ◌++◌}
use Prim.Native.Nat.{ℕ, ◌+◌, ◌-◌, ◌≤◌, ◌<◌}
use native.Mathlib.Omega.{arith}
use lib.ListN.{length, drop, length-append}
use borrow.Author.Tests.{le-leb, lt-leb}
use borrow.Rule.Slice.PartMut.{mid_of, put_mid}
use Rattle.words.specs.Numbers.{DONE, ROOM, unless}
use Rattle.words.specs.Outcomes.{given, kept}
use Rattle.words.specs.Sheet.{Line, line, text}
use Rattle.fields.specs.Writing.{Put, Begun}
use Rattle.sheets.specs.Written.{written}
use Rattle.sheets.specs.Tables.{table_lines, line_count}
use Rattle.sheets.proofs.Reading.{text_nil, text_cons}
use Rattle.fields.proofs.Parts.{begun_more, begun_done}

-- how long a text is, line by line
text_more : (l : Line) (rest : List Line) → length (text (l ∷ rest)) ≡ length (line l) + length (text rest)
text_more l rest = ap length (text_cons l rest) ∙ length-append (line l) (text rest)

pub text_five : (a b c d e : Line) → length (text (a ∷ b ∷ c ∷ d ∷ e ∷ [])) ≡ length (line a) + length (line b) + length (line c) + length (line d) + length (line e)
text_five a b c d e = omega (arith, text_more a (b ∷ c ∷ d ∷ e ∷ []), text_more b (c ∷ d ∷ e ∷ []), text_more c (d ∷ e ∷ []), text_more d (e ∷ []), text_more e [], ap length text_nil)

-- the first line l, and those behind it: rest is still to come
pub first_line : (l : Line) (rest : List Line) {old new : List ℕ} {r : ℕ} → Put (line l) old new r → Begun (text (l ∷ rest)) (text rest) old new r
first_line l rest p = record { done = line l; split = text_cons l rest; put = p }

pub next_line : {whole : List ℕ} (l : Line) (rest : List Line) {old mid new : List ℕ} {k j : ℕ} → Begun whole (text (l ∷ rest)) old mid k → Put (line l) (mid_of k (length mid - k) mid) new j
    → Begun whole (text rest) old (put_mid k (length mid - k) mid new) (k + j)
next_line {whole} l rest {old} {mid} {new} {k} {j} b q = begun_more whole (text (l ∷ rest)) old mid k b (line l) (text rest) new j (text_cons l rest) q

pub last_line : {whole old mid : List ℕ} {k : ℕ} → Begun whole (text []) old mid k → Put whole old mid k
last_line {whole} {old} {mid} {k} b = begun_done whole (text []) old mid k b text_nil

-- the two ways to answer
pub written_room : (t old : List ℕ) (k : ℕ) → k ≡ length t → length old < k → (ROOM, 0, old) ≡ written t old
unfolding written unless given kept
written_room t old k e h = rw (lt-leb (length t) (length old) (omega arith))

pub written_done : (t old new : List ℕ) (k r : ℕ) → k ≡ length t → k ≤ length old → Put t old new r → (DONE, r, new) ≡ written t old
unfolding written unless given kept
written_done t old new k r e h p = rw (le-leb (length t) (length old) (omega arith)) (let z = p.text ∙ ap (λ (m : ℕ). t ++ drop m old) p.count in let q = p.count in cc)

-- a sheet has five lines
pub lines_count : (n a k : ℕ) (e r : List ℕ) → length (table_lines n a e r k) ≡ line_count
unfolding table_lines
lines_count n a k e r = refl
