-- A packed answer is read back in one way: by remainder and quotient, as the readers of include/claybobbin.h do. Assumes nothing.
use mathlib.Core.Path.{◌≡◌, ap, ◌∙◌}
use mathlib.Core.List.{List, [], ◌∷◌}
use Prim.Native.Nat.{ℕ, ◌+◌, ◌*◌, ◌%◌, ◌/◌, ◌≤◌, ◌<◌}
use native.Mathlib.Omega.{arith}
use mir.Syntax.{w64}
use mir.Val.{Fits}
use lib.Dec.{leb}
use lib.ListN.{length}
use borrow.Author.Tests.{eq-eqb, ne_eqb}
use Rattle.words.specs.Rows.{card, looks}
use Rattle.words.specs.Numbers.{DONE, ALPHABET, LONG, MISMATCH, FULL, ROOM, DIFFERS, limit, count_limit, unless, alphabet, long, matching, cards, refusal, sizes, rowed}
use Rattle.words.specs.Stand.{verdict}
use Rattle.words.specs.Listing.{standing, count}
use Rattle.words.specs.Sheet.{sheet}
use Rattle.words.specs.Outcomes.{answered, counted, given, echoes_outcome, reach_outcome, looks_outcome, sheet_outcome, guess_outcome, count_outcome, Rebuilds, Starts, Steps, decoded, judge_answer, packing, packed_buffer, packed_value, packed_both, host_judge_outcome, host_count_outcome}
use Rattle.words.proofs.Lists.{either, same?}
use Rattle.words.proofs.Checks.{refusal_clear, long_clear, matching_clear, sizes_clear}
use Rattle.words.proofs.Bounds.{Bounded, bounded_more, unless_bounded, refusal_bounded, sizes_bounded, lent_cards_bounded, rowed_bounded, verdict_bounded, guess_bounded, rebuilds_bounded, starts_bounded, steps_bounded}
use Rattle.rows.proofs.Looking.{looks_most}
use Rattle.listing.proofs.Sizes.{count_fits}
use Rattle.sheets.proofs.Bound.{row_short}
use Rattle.host.proofs.Decoding.{decoded_long}

-- what the readers make of a packed answer
pub record Reads (p n q v : ℕ) : Type 0 where
  pub number : p % 256 ≡ n
  pub place : p / 256 % 65536 ≡ q
  pub value : p / 16777216 ≡ v

-- an answer with a number of the table and a place within the limit is read back, so that no two are packed alike
pub packing_read : {m : ℕ} {r : ℕ × ℕ} (v : ℕ) → m ≤ DIFFERS → Bounded m r → Reads (packing r v) r.0 r.1 v
unfolding packing
packing_read v h b = record { number = omega (arith, b.number); place = omega (arith, b.number, b.place); value = omega (arith, b.number, b.place) }

pub packing_once : {n q v m p w : ℕ} (k : ℕ) → Reads k n q v → Reads k m p w → (n ≡ m) × (q ≡ p) × (v ≡ w)
packing_once k a b = (omega (arith, a.number, b.number), omega (arith, a.place, b.place), omega (arith, a.value, b.value))

-- echoes and reach
module _ (A : ℕ) (x old : List ℕ) where
  pub echoes_read : let o = echoes_outcome A x old in Reads (packed_buffer o).0 o.0 o.1 0
  unfolding packed_buffer echoes_outcome answered
  echoes_read = packing_read 0 (omega arith) (lent_cards_bounded A x (length old))

  pub reach_read : let o = reach_outcome A x old in Reads (packed_buffer o).0 o.0 o.1 0
  unfolding packed_buffer reach_outcome answered
  reach_read = packing_read 0 (omega arith) (lent_cards_bounded A x (length old))

-- the looks: at most 2n - 2
module _ (A : ℕ) (x : List ℕ) where
  pub looks_read : let o = looks_outcome A x in Reads (packed_value o) o.0 o.1 o.2
  unfolding packed_value looks_outcome counted
  looks_read = packing_read (given (rowed A x) (looks x)) (omega arith) (rowed_bounded A x)

  looks_few : given (rowed A x) (looks x) < 8192
  unfolding given looks
  looks_few = either (same? (rowed A x).0 DONE)
      (λ z. rw (eq-eqb (rowed A x).0 DONE z)
      (omega (arith, looks_most (card x) (length x), (sizes_clear A (length x) (refusal_clear (sizes A (length x)) (cards A x) [] z).0).2)))
      (λ d. rw (ne_eqb (rowed A x).0 DONE d) (omega arith))

-- the sheet: at the limit it is below 61,500 bytes
module _ (A : ℕ) (x old : List ℕ) where
  room : ℕ × ℕ
  room = unless (leb (length (sheet A x)) (length old)) ROOM

  sheet_bounded : Bounded ROOM (refusal (rowed A x ∷ room ∷ []))
  unfolding refusal room
  sheet_bounded = refusal_bounded (rowed A x) room [] ROOM (bounded_more ROOM (omega arith) (rowed_bounded A x)) (λ z. unless_bounded (leb (length (sheet A x)) (length old)) ROOM)

  pub sheet_packed_read : let o = sheet_outcome A x old in Reads (packed_both o).0 o.0 o.1 o.2
  unfolding packed_both sheet_outcome room
  sheet_packed_read = packing_read (given (refusal (rowed A x ∷ room ∷ [])) (length (sheet A x))) (omega arith) sheet_bounded

  sheet_few : given (refusal (rowed A x ∷ room ∷ [])) (length (sheet A x)) < 61500
  unfolding given
  sheet_few = either (same? (refusal (rowed A x ∷ room ∷ [])).0 DONE)
      (λ z. rw (eq-eqb (refusal (rowed A x ∷ room ∷ [])).0 DONE z) (
      let (a, b, c) = sizes_clear A (length x) (refusal_clear (sizes A (length x)) (cards A x) [] (refusal_clear (rowed A x) room [] z).0).0 in
      omega (arith, row_short A x b c)))
      (λ d. rw (ne_eqb (refusal (rowed A x ∷ room ∷ [])).0 DONE d) (omega arith))

pub guess_read : (A : ℕ) (x g : List ℕ) → let s = guess_outcome A x g in Reads (packing s 0) s.0 s.1 0
guess_read A x g = packing_read 0 (omega arith) (guess_bounded A x g)

-- rebuilding, the first array, the next
pub rebuild_read : (A : ℕ) (e old new : List ℕ) (r : ℕ × ℕ) → Rebuilds A e old r new → Reads (packing r 0) r.0 r.1 0
rebuild_read A e old new r h = packing_read 0 (omega arith) (rebuilds_bounded h)

pub first_read : (A n : ℕ) (old new : List ℕ) (r : ℕ × ℕ) → Starts A n old r new → Reads (packing r 0) r.0 r.1 0
first_read A n old new r h = packing_read 0 (omega arith) (starts_bounded h)

pub next_read : (A : ℕ) (e new : List ℕ) (r : ℕ × ℕ) → Steps A e r new → Reads (packing r 0) r.0 r.1 0
next_read A e new r h = packing_read 0 (omega arith) (steps_bounded h)

-- a strip's length
pub strip_read : (k : ℕ) → Reads (packing (DONE, 0) k) DONE 0 k
strip_read k = packing_read {m = DONE} k (omega arith) (record { number = omega arith; place = omega arith })

-- judging bytes
pub judge_bounded : (A n : ℕ) (l : List ℕ) → Bounded FULL (judge_answer A n l)
unfolding judge_answer matching refusal
judge_bounded A n l = refusal_bounded (sizes A n) (matching (2 * n) (length l)) (verdict A (decoded l) ∷ []) FULL
    (bounded_more FULL (omega arith) (sizes_bounded A n))
    (λ s. refusal_bounded (matching (2 * n) (length l)) (verdict A (decoded l)) [] FULL
    (bounded_more FULL (omega arith) (unless_bounded _ MISMATCH))
    (λ m. verdict_bounded A (decoded l) (omega (arith, decoded_long l n (matching_clear (2 * n) (length l) m), (sizes_clear A n s).2))))

pub judge_read : (A n : ℕ) (l : List ℕ) → Reads (host_judge_outcome A n l) (judge_answer A n l).0 (judge_answer A n l).1 0
unfolding host_judge_outcome
judge_read A n l = packing_read 0 (omega arith) (judge_bounded A n l)

-- a count is packed by itself: number and count; no count of up to 20 places is above 20!
pub count_once : (n k m j : ℕ) → n < 4 → m < 4 → n + 4 * k ≡ m + 4 * j → (n ≡ m) × (k ≡ j)
count_once n k m j h g e = (omega arith, omega arith)

few : (A n : ℕ) → n ≤ count_limit → count A n ≤ 2432902008176640000
unfolding count
few A n h = count_fits (standing A) n [] (omega arith)

pub count_bounds : (A n : ℕ) → ((count_outcome A n).0 ≤ LONG) × ((count_outcome A n).2 ≤ 2432902008176640000)
unfolding count_outcome counted given alphabet long refusal
count_bounds A n = (
  (refusal_bounded (alphabet A) (long count_limit n) [] LONG (bounded_more LONG (omega arith) (unless_bounded _ ALPHABET)) (λ d. unless_bounded _ LONG)).number,
  either (same? checks.0 DONE)
      (λ e. rw (eq-eqb checks.0 DONE e) (few A n (long_clear count_limit n (refusal_clear (alphabet A) (long count_limit n) [] e).1)))
      (λ d. rw (ne_eqb checks.0 DONE d) (omega arith)),
)
  where
    checks : ℕ × ℕ
    checks = refusal (alphabet A ∷ long count_limit n ∷ [])

pub count_read : (A n : ℕ) → (host_count_outcome A n % 4 ≡ (count_outcome A n).0) × (host_count_outcome A n / 4 ≡ (count_outcome A n).2)
unfolding host_count_outcome
count_read A n = let (h, k) = count_bounds A n in (omega arith, omega arith)

-- in the code's terms: the place of each answer is within the limit, its value has room, and what is packed is the outcome's
module _ (A : ℕ) (x old new : List ℕ) (n p : ℕ) where
  pub echoes_near : (n, p, new) ≡ echoes_outcome A x old → p ≤ limit
  unfolding echoes_outcome answered
  echoes_near e = omega (arith, (lent_cards_bounded A x (length old)).place, ap (λ (o : ℕ × ℕ × List ℕ). o.1) e)

  pub reach_near : (n, p, new) ≡ reach_outcome A x old → p ≤ limit
  unfolding reach_outcome answered
  reach_near e = omega (arith, (lent_cards_bounded A x (length old)).place, ap (λ (o : ℕ × ℕ × List ℕ). o.1) e)

module _ (A : ℕ) (x : List ℕ) (n p k : ℕ) (looked : (n, p, k) ≡ looks_outcome A x) where
  pub looks_near : p ≤ limit
  unfolding looks_outcome counted
  looks_near = omega (arith, (rowed_bounded A x).place, ap (λ (o : ℕ × ℕ × ℕ). o.1) looked)

  pub looks_fit : k < 1099511627776
  unfolding looks_outcome counted
  looks_fit = omega (arith, looks_few A x, ap (λ (o : ℕ × ℕ × ℕ). o.2) looked)

module _ (A : ℕ) (x old new : List ℕ) (n p k : ℕ) (told : (n, p, k, new) ≡ sheet_outcome A x old) where
  pub sheet_near : p ≤ limit
  unfolding sheet_outcome room
  sheet_near = omega (arith, (sheet_bounded A x old).place, ap (λ (o : ℕ × ℕ × ℕ × List ℕ). o.1) told)

  pub sheet_fit : k < 1099511627776
  unfolding sheet_outcome room
  sheet_fit = omega (arith, sheet_few A x old, ap (λ (o : ℕ × ℕ × ℕ × List ℕ). o.2) told)

pub guess_near : (A : ℕ) (x g : List ℕ) (n p : ℕ) → (n, p) ≡ guess_outcome A x g → p ≤ limit
guess_near A x g n p e = omega (arith, (guess_bounded A x g).place, ap (λ (s : ℕ × ℕ). s.1) e)

pub rebuild_near : (A : ℕ) (e old new : List ℕ) (n p : ℕ) → Rebuilds A e old (n, p) new → p ≤ limit
rebuild_near A e old new n p h = (rebuilds_bounded h).place

pub first_near : (A m : ℕ) (old new : List ℕ) (n p : ℕ) → Starts A m old (n, p) new → p ≤ limit
first_near A m old new n p h = (starts_bounded h).place

pub next_near : (A : ℕ) (e new : List ℕ) (n p : ℕ) → Steps A e (n, p) new → p ≤ limit
next_near A e new n p h = (steps_bounded h).place

module _ (r n p : ℕ) where
  pub buffer_packed : (o : ℕ × ℕ × List ℕ) (new : List ℕ) → (n, p, new) ≡ o → r ≡ packing (n, p) 0 → (r, new) ≡ packed_buffer o
  unfolding packed_buffer
  buffer_packed o new e q = rw (← e) (rw q)

  -- a value beside them: m and q are the number and place of the answer that is packed
  module _ (m q k : ℕ) (number : m ≡ n) (place : q ≡ p) (is : r ≡ packing (m, q) k) where
    told : r ≡ packing (n, p) k
    told = is ∙ ap (λ (a : ℕ). packing (a, q) k) number ∙ ap (λ (b : ℕ). packing (n, b) k) place

    pub value_packed : (o : ℕ × ℕ × ℕ) → (n, p, k) ≡ o → r ≡ packed_value o
    unfolding packed_value
    value_packed o e = rw (← e) told

    pub both_packed : (o : ℕ × ℕ × ℕ × List ℕ) (new : List ℕ) → (n, p, k, new) ≡ o → (r, new) ≡ packed_both o
    unfolding packed_both
    both_packed o new e = rw (← e) (rw told)

  pub answer_packed : (s : ℕ × ℕ) → (n, p) ≡ s → r ≡ packing (n, p) 0 → r ≡ packing s 0
  answer_packed s e q = rw (← e) q

module _ (A n k p c : ℕ) (counts : (k, p, c) ≡ count_outcome A n) where
  pub count_product : Fits w64 (4 * c)
  count_product = omega (arith, count_bounds A n, ap (λ (r : ℕ × ℕ × ℕ). r.2) counts)

  pub count_sum : (f : ℕ) → f ≡ k → Fits w64 (f + 4 * c)
  count_sum f e = omega (arith, e, count_bounds A n, ap (λ (r : ℕ × ℕ × ℕ). r.0) counts, ap (λ (r : ℕ × ℕ × ℕ). r.2) counts)

  pub count_packed : (f : ℕ) → f ≡ k → f + 4 * c ≡ host_count_outcome A n
  unfolding host_count_outcome
  count_packed f e = ap (λ (m : ℕ). m + 4 * c) e ∙ ap (λ (r : ℕ × ℕ × ℕ). r.0 + 4 * r.2) counts
