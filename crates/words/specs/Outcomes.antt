-- What each entry open to callers answers and leaves in every lent buffer, on every input: first the checks in their order, then the work. Where a
-- function would hide the meaning (rebuild, first, next) the outcome is a relation in the demand's words, and beside it stands the rule that computes it.
-- Assumes nothing: these are definitions.
use Rattle.std.specs.Prelude.{◌≡◌, cond, List, [], ◌∷◌, ◌++◌, ℕ, ◌+◌, ◌*◌, leb, eqb, length, drop}
use Rattle.words.specs.Lists.{at}
use Rattle.words.specs.Rows.{echoes, reaches, looks}
use Rattle.words.specs.Numbers.{DONE, ROOM, LAST, DIFFERS, count_limit, differing, named, unless, alphabet, long, matching, cards, refusal, sizes, lent, rowed, paired}
use Rattle.words.specs.Stand.{Stands, verdict}
use Rattle.words.specs.Least.{LeastRow, rebuilt}
use Rattle.words.specs.Listing.{standing, listing, count, First, Next, StandsAfter, head, behind}
use Rattle.words.specs.Sheet.{sheet}

-- with 0 the buffer holds the new contents; every other number leaves it as it came
unfoldable pub kept : ℕ × ℕ → List ℕ → List ℕ → List ℕ
kept r new old = cond (eqb r.0 DONE) new old

-- a count or length given with a number but 0 is 0
unfoldable pub given : ℕ × ℕ → ℕ → ℕ
given r k = cond (eqb r.0 DONE) k 0

-- an answer with a buffer: number, place, contents; and with a count: number, place, count
unfoldable pub answered : ℕ × ℕ → List ℕ → List ℕ → ℕ × ℕ × List ℕ
answered r new old = (r.0, r.1, kept r new old)

unfoldable pub counted : ℕ × ℕ → ℕ → ℕ × ℕ × ℕ
counted r k = (r.0, r.1, given r k)

-- echoes: number, place, buffer
unfoldable pub echoes_outcome : ℕ → List ℕ → List ℕ → ℕ × ℕ × List ℕ
echoes_outcome A x old = answered (refusal (lent A (length x) (length old) ∷ cards A x ∷ [])) (echoes x) old

-- reach: number, place, buffer
unfoldable pub reach_outcome : ℕ → List ℕ → List ℕ → ℕ × ℕ × List ℕ
reach_outcome A x old = answered (refusal (lent A (length x) (length old) ∷ cards A x ∷ [])) (reaches x) old

-- looks: number, place, count
unfoldable pub looks_outcome : ℕ → List ℕ → ℕ × ℕ × ℕ
looks_outcome A x = counted (rowed A x) (looks x)

-- sheet: number, place, length, buffer; the bytes behind the sheet stay
unfoldable pub sheet_outcome : ℕ → List ℕ → List ℕ → ℕ × ℕ × ℕ × List ℕ
sheet_outcome A x old =
    let t = sheet A x in
    let r = refusal (rowed A x ∷ unless (leb (length t) (length old)) ROOM ∷ []) in
    (r.0, r.1, given r (length t), kept r (t ++ drop (length t) old) old)

-- guess: number and place; g is the guess at the hidden row x
unfoldable pub guess_outcome : ℕ → List ℕ → List ℕ → ℕ × ℕ
guess_outcome A x g = refusal (paired A x g ∷ named DIFFERS (differing (echoes x) (echoes g)) ∷ [])

-- judge: number and place
unfoldable pub judge_outcome : ℕ → List ℕ → ℕ × ℕ
judge_outcome A e = refusal (sizes A (length e) ∷ verdict A e ∷ [])

-- count: number, place, count
unfoldable pub count_outcome : ℕ → ℕ → ℕ × ℕ × ℕ
count_outcome A n = counted (refusal (alphabet A ∷ long count_limit n ∷ [])) (count A n)

-- rebuild: an array that stands gives the least row; one that does not, its verdict, and the buffer as it came
pub data Rebuilds (A : ℕ) (e old : List ℕ) (r : ℕ × ℕ) (new : List ℕ) : Type 0 where
  refuses : (r.0 ≡ DONE → ⊥) → r ≡ lent A (length e) (length old) → new ≡ old → Rebuilds A e old r new
  breaks : (lent A (length e) (length old)).0 ≡ DONE → (Stands A e → ⊥) → r ≡ verdict A e → new ≡ old → Rebuilds A e old r new
  rebuilds : (lent A (length e) (length old)).0 ≡ DONE → LeastRow A e new → r ≡ (DONE, 0) → Rebuilds A e old r new

unfoldable pub rebuild_rule : ℕ → List ℕ → List ℕ → ℕ × ℕ × List ℕ
rebuild_rule A e old = answered (refusal (lent A (length e) (length old) ∷ verdict A e ∷ [])) (rebuilt (at e) (length e)) old

-- first: the least standing array of n places
pub data Starts (A n : ℕ) (old : List ℕ) (r : ℕ × ℕ) (new : List ℕ) : Type 0 where
  refuses : (r.0 ≡ DONE → ⊥) → r ≡ lent A n (length old) → new ≡ old → Starts A n old r new
  starts : (lent A n (length old)).0 ≡ DONE → First A n new → r ≡ (DONE, 0) → Starts A n old r new

unfoldable pub first_rule : ℕ → ℕ → List ℕ → ℕ × ℕ × List ℕ
first_rule A n old = answered (lent A n (length old)) (head (listing (standing A) n [])) old

-- next: the least standing array of the same length that is greater; 9 where there is none; one that does not stand, its verdict
pub data Steps (A : ℕ) (e : List ℕ) (r : ℕ × ℕ) (new : List ℕ) : Type 0 where
  refuses : (r.0 ≡ DONE → ⊥) → r ≡ sizes A (length e) → new ≡ e → Steps A e r new
  breaks : (sizes A (length e)).0 ≡ DONE → (Stands A e → ⊥) → r ≡ verdict A e → new ≡ e → Steps A e r new
  ends : (sizes A (length e)).0 ≡ DONE → Stands A e → ((z : List ℕ) → StandsAfter A e z → ⊥) → r ≡ (LAST, 0) → new ≡ e → Steps A e r new
  steps : (sizes A (length e)).0 ≡ DONE → Stands A e → Next A e new → r ≡ (DONE, 0) → Steps A e r new

unfoldable pub next_rule : ℕ → List ℕ → ℕ × ℕ × List ℕ
next_rule A e =
    let l = behind e (listing (standing A) (length e) []) in
    answered (refusal (sizes A (length e) ∷ verdict A e ∷ unless (leb 1 (length l)) LAST ∷ [])) (head l) e

-- the array that bytes stand for: two bytes an echo, low byte first
unfoldable pub decoded : List ℕ → List ℕ
decoded [] = []
decoded (low ∷ []) = []
decoded (low ∷ high ∷ l) = (low + 256 * high) ∷ decoded l

-- number and place of n echoes given as bytes
unfoldable pub judge_answer : ℕ → ℕ → List ℕ → ℕ × ℕ
judge_answer A n bytes = refusal (sizes A n ∷ matching (2 * n) (length bytes) ∷ verdict A (decoded bytes) ∷ [])

-- the C functions hand back their whole answer in 64 bits. One packing for all but the count: number + 2^8 * place + 2^24 * value, the value 0 where there is none
unfoldable pub packing : ℕ × ℕ → ℕ → ℕ
packing r v = r.0 + 256 * r.1 + 16777216 * v

-- an answer with a buffer, with a value, and with both, packed; r packs an answer of which P holds
unfoldable pub packed_buffer : ℕ × ℕ × List ℕ → ℕ × List ℕ
packed_buffer o = (packing (o.0, o.1) 0, o.2)

unfoldable pub packed_value : ℕ × ℕ × ℕ → ℕ
packed_value o = packing (o.0, o.1) o.2

unfoldable pub packed_both : ℕ × ℕ × ℕ × List ℕ → ℕ × List ℕ
packed_both o = (packing (o.0, o.1) o.2, o.3)

pub record Packs (P : ℕ × ℕ → Type 0) (r : ℕ) : Type 0 where
  pub answer : ℕ × ℕ
  pub is : P answer
  pub packed : r ≡ packing answer 0

unfoldable pub host_judge_outcome : ℕ → ℕ → List ℕ → ℕ
host_judge_outcome A n bytes = packing (judge_answer A n bytes) 0

-- number + 4 * count
unfoldable pub host_count_outcome : ℕ → ℕ → ℕ
host_count_outcome A n = let r = count_outcome A n in r.0 + 4 * r.2
