-- At the limit a sheet needs less than 61,500 bytes. Assumes nothing.
use mathlib.Core.Path.{◌≡◌, refl, sym, ap, subst}
use mathlib.Core.List.{List, [], ◌∷◌}
use Prim.Native.Nat.{ℕ, zero, suc, ◌+◌, ◌-◌, ◌*◌, ◌≤◌, ◌<◌}
use native.Mathlib.Omega.{arith}
use lib.Dec.{ltb}
use lib.ListN.{length, get_or, length-append}
use Rattle.words.specs.Lists.{at, keep, places}
use Rattle.words.specs.Rows.{card, Small, chain, reach, echoes, reaches, looks}
use Rattle.words.specs.Numbers.{letters, limit}
use Rattle.words.specs.Sheet.{Line, decimal, fields, line, text, sheet}
use Rattle.words.proofs.Lists.{In, here, there, In-nil, In-cons, In-each-out, either}
use Rattle.words.proofs.Places.{places_length, places_out}
use Rattle.words.proofs.Rows.{down_ind}
use Rattle.rows.specs.Reach.{periods_along, periods_of}
use Rattle.sheets.specs.Tables.{periods_line, table_lines}
use Rattle.rows.proofs.Looking.{looks_most}
use Rattle.rows.proofs.Walks.{echoes_long, echoes_small}
use Rattle.rows.proofs.Reaching.{reach_low}
use Rattle.sheets.proofs.Outcome.{sheet_tables}
use Rattle.words.proofs.Decimal.{decimal_width}
use Rattle.sheets.proofs.Reading.{text_nil, text_cons}
use Rattle.sheets.proofs.Periods.{periods_zero, periods_suc, last_low}

-- a tab and at most four digits for each number, and byte 10
fields_short : (l : List ℕ) → ((m : ℕ) → In m l → m < 10000) → length (fields l) ≤ 5 * length l + 1
unfolding fields
fields_short [] h = omega arith
fields_short (m ∷ l) h = omega (arith, length-append (decimal m) (fields l), decimal_width 3 m (omega (arith, h m here)), fields_short l (λ k i. h k (there i)))

-- a text of at most b bytes with a line before it
text_short : (l : Line) (rest : List Line) (b c : ℕ) → ((m : ℕ) → In m l.numbers → m < 10000) → length l.word + 5 * length l.numbers + 1 + b ≤ c → length (text rest) ≤ b → length (text (l ∷ rest)) ≤ c
unfolding line
text_short l rest b c h s t =
    omega (arith, ap length (text_cons l rest), length-append (line l) (text rest), length-append l.word (fields l.numbers), fields_short l.numbers h)

-- an echo that is below its place is below the length
In-at : {m : ℕ} {l : List ℕ} → In m l → (i : ℕ) × (i < length l) × (get_or l i 0 ≡ m)
In-at here = (0, omega arith, refl)
In-at (there i) = let (j, h, e) = In-at i in (suc j, omega arith, e)

small_in : (e : List ℕ) → Small (at e) (length e) → (m : ℕ) → In m e → m < length e
unfolding at
small_in e s m i = let (j, h, z) = In-at i in omega (arith, s.below j h)

-- there are at most b periods along the chain from b, each at most n
module _ {E : ℕ → ℕ} {k : ℕ} (small : Small E k) (n : ℕ) where
  periods_few : (b : ℕ) → b ≤ k → length (periods_along E n b) ≤ b
  periods_few = down_ind small (λ b. length (periods_along E n b) ≤ b)
      (omega (arith, ap length (periods_zero E n)))
      (λ b h rest. omega (arith, ap length (periods_suc small n b h), small.below b h))

periods_low : (E : ℕ → ℕ) (n b m : ℕ) → In m (periods_along E n b) → m ≤ n
unfolding periods_along
periods_low E n b m i = let (k, j, e) = In-each-out (λ k. n - k) (keep (ltb 0) (chain E b)) m i in omega arith

one_low : (k : ℕ) → k < 10000 → (m : ℕ) → In m (k ∷ []) → m < 10000
one_low k h m i = either (In-cons i) (λ e. omega arith) (λ j. absurd (In-nil j))

pub sheet_short : (n A k : ℕ) (e r : List ℕ) → n ≤ limit → A ≤ letters → k < 10000 → length e ≤ limit → Small (at e) (length e) → length r ≤ limit → ((m : ℕ) → In m r → m ≤ limit)
    → length (text (table_lines n A e r k)) < 61500
unfolding table_lines periods_line periods_of
sheet_short n A k e r hn hA hk he s hr h = let z : length (text (table_lines n A e r k)) ≤ 61486 = lines in omega arith
  where
    top : (m : ℕ) → In m (n ∷ A ∷ []) → m < 10000
    top m i = either (In-cons i) (λ e. omega arith) (one_low A (omega arith) m)

    last : at e (length e) ≤ length e
    last = last_low e (at e (length e)) s refl

    lines : length (text (table_lines n A e r k)) ≤ 61486
    lines = text_short _ _ 61470 61486 top (omega arith)
        (text_short _ _ 40985 61470 (λ m i. omega (arith, small_in e s m i)) (omega arith)
        (text_short _ _ 20499 40985 (λ m i. omega (arith, h m i)) (omega arith)
        (text_short _ _ 11 20499 (λ m i. omega (arith, periods_low (at e) (length e) (at e (length e)) m i)) (omega (arith, last, periods_few s (length e) (at e (length e)) last))
        (text_short _ _ 0 11 (one_low k hk) (omega arith) (omega (arith, ap length text_nil))))))

-- at the limit a sheet needs less than 61,500 bytes
pub row_short : (A : ℕ) (x : List ℕ) → A ≤ letters → length x ≤ limit → length (sheet A x) < 61500
unfolding reaches looks
row_short A x a h = subst (λ (t : List ℕ). length t < 61500) (sym (sheet_tables A x))
    (sheet_short (length x) A (looks x) (echoes x) (reaches x) h a (omega (arith, looks_most (card x) (length x))) (omega (arith, echoes_long x))
    (echoes_small x (echoes x) refl)
    (omega (arith, places_length (reach (card x) (length x)) (length x)))
    (λ m i. let (k, j, e) = In-each-out (reach (card x) (length x)) (places (length x)) m i in low k m (places_out (length x) k j).0 e))
  where
    low : (k m : ℕ) → 0 < k → reach (card x) (length x) k ≡ m → m ≤ limit
    low zero m p e = absurd (omega arith)
    low (suc d) m p e = omega (arith, reach_low (card x) (length x) d)
