-- Numbers between tabs, written and counted, in the code's terms. Assumes nothing.
use mathlib.Core.Path.{◌≡◌, refl, sym, ap, subst, ◌∙◌}
use mathlib.Core.List.{List, [], ◌∷◌, ◌++◌}
use Prim.Native.Nat.{ℕ, ◌+◌, ◌-◌, ◌/◌, ◌%◌, ◌^◌, ◌≤◌, ◌<◌}
use native.Mathlib.Omega.{arith}
use native.Mathlib.Numerals.{add-one}
use lib.ListN.{length, get_or, drop, length-append, drop_of_length-le}
use lib.Seq.{drop-cons}
use mir.Syntax.{w16}
use mir.Val.{Fits}
use borrow.Rule.Slice.PartMut.{mid_of, put_mid}
use Rattle.std.specs.List.{sum_by}
use Rattle.std.proofs.lemmas.List.Sums.{sum_by-cons, sum_by-le}
use Rattle.std.proofs.lemmas.List.Elements.{All-from_get_or}
use Rattle.words.specs.Numbers.{limit}
use Rattle.words.specs.Sheet.{decimal, fields}
use Rattle.fields.specs.Writing.{Put, Begun}
use Rattle.fields.proofs.Parts.{part_long, put_then, begun_room, begun_more, begun_last}
use Rattle.words.proofs.Decimal.{decimal_small, decimal_more, decimal_long, decimal_some, decimal_width}

-- a number
module _ (n : ℕ) (old : List ℕ) (room : length (decimal n) ≤ length old) where
  pub number_first : 0 < length old
  number_first = omega (arith, decimal_some n)

  pub number_next : 10 ≤ n → length (decimal (n / 10)) ≤ length old
  number_next h = omega (arith, decimal_long n h)

  pub number_room : (mid : List ℕ) (k : ℕ) → 10 ≤ n → Put (decimal (n / 10)) old mid k → 0 < length (mid_of k (length mid - k) mid)
  number_room mid k h p = omega (arith, part_long k mid, decimal_long n h, p.count, p.long)

pub number_end : (n d r : ℕ) (old new : List ℕ) → n < 10 → d ≡ 48 + n → Put (d ∷ []) old new r → Put (decimal n) old new r
number_end n d r old new h e p = subst (λ (t : List ℕ). Put t old new r) (ap (λ (m : ℕ). m ∷ []) e ∙ sym (decimal_small n h)) p

pub number_more : (n : ℕ) (old mid new : List ℕ) (k d j : ℕ) → 10 ≤ n → Put (decimal (n / 10)) old mid k → d ≡ 48 + n % 10 → Put (d ∷ []) (mid_of k (length mid - k) mid) new j
    → Put (decimal n) old (put_mid k (length mid - k) mid new) (k + j)
number_more n old mid new k d j h p e q = put_then (decimal (n / 10)) old mid k p (d ∷ []) (decimal n) new j q (decimal_more n h ∙ ap (λ (m : ℕ). decimal (n / 10) ++ (m ∷ [])) (sym e))

-- its digits
pub width_end : (n : ℕ) → n < 10 → 1 ≡ length (decimal n)
width_end n h = sym (ap length (decimal_small n h))

pub width_more : (n r : ℕ) → 10 ≤ n → r ≡ length (decimal (n / 10)) → r + 1 ≡ length (decimal n)
width_more n r h e = omega (arith, decimal_long n h)

-- a number of 64 bits has at most 20 digits
pub width_low : (n r : ℕ) → n < 2 ^ 64 → r ≡ length (decimal n) → r ≤ 20
width_low n r h e = omega (arith, decimal_width 19 n (omega arith))

-- numbers, each behind a tab
pub fields_at : (l : List ℕ) (i m : ℕ) → i < length l → m ≡ get_or l i 0 → fields (drop i l) ≡ (9 ∷ decimal m) ++ fields (drop (i + 1) l)
unfolding fields
fields_at l i m h e = rw (drop-cons l i 0 h, add-one, e)

pub fields_end : (l : List ℕ) (i : ℕ) → length l ≤ i → fields (drop i l) ≡ 10 ∷ []
unfolding fields
fields_end l i h = ap fields (drop_of_length-le l h)

module _ (l old mid : List ℕ) (i k : ℕ) (b : Begun (fields l) (fields (drop i l)) old mid k) where
  last : length l ≤ i → Begun (fields l) (10 ∷ []) old mid k
  last h = subst (λ (r : List ℕ). Begun (fields l) r old mid k) (fields_end l i h) b

  pub numbers_room : (m : ℕ) → i < length l → m ≡ get_or l i 0 → length (fields l) ≤ length old → length (9 ∷ decimal m) ≤ length (mid_of k (length mid - k) mid)
  numbers_room m h e r = begun_room (fields l) (fields (drop i l)) old mid k b (9 ∷ decimal m) (fields (drop (i + 1) l)) (fields_at l i m h e) r

  pub numbers_more : (m : ℕ) (new : List ℕ) (j : ℕ) → i < length l → m ≡ get_or l i 0 → Put (9 ∷ decimal m) (mid_of k (length mid - k) mid) new j
      → Begun (fields l) (fields (drop (i + 1) l)) old (put_mid k (length mid - k) mid new) (k + j)
  numbers_more m new j h e q = begun_more (fields l) (fields (drop i l)) old mid k b (9 ∷ decimal m) (fields (drop (i + 1) l)) new j (fields_at l i m h e) q

  pub numbers_last : length l ≤ i → length (fields l) ≤ length old → 0 < length (mid_of k (length mid - k) mid)
  numbers_last h r = begun_room (fields l) (fields (drop i l)) old mid k b (10 ∷ []) [] (fields_end l i h) r

  pub numbers_done : (new : List ℕ) (j : ℕ) → length l ≤ i → Put (10 ∷ []) (mid_of k (length mid - k) mid) new j → Put (fields l) old (put_mid k (length mid - k) mid new) (k + j)
  numbers_done new j h q = begun_last (fields l) (10 ∷ []) old mid k (last h) new j q

-- how long they are: a tab and the digits of each, and byte 10
abbrev wide : ℕ → ℕ
wide m = length (decimal m) + 1

fields_sum : (l : List ℕ) → length (fields l) ≡ sum_by wide l + 1
unfolding fields
fields_sum [] = refl
fields_sum (m ∷ l) = omega (arith, length-append (decimal m) (fields l), fields_sum l, sum_by-cons wide m l)

module _ (l : List ℕ) (r : ℕ) (e : r ≡ sum_by (λ (m : ℕ). length (decimal m) + 1) l) where
  pub numbers_long : r + 1 ≡ length (fields l)
  numbers_long = omega (arith, fields_sum l)

  -- a number of 16 bits has at most five digits
  pub numbers_low : ((i : ℕ) → Fits w16 (get_or l i 0)) → length l ≤ limit → r + 1 < 90000
  numbers_low h n = omega (arith, sum_by-le wide 6 l (All-from_get_or (λ (m : ℕ). wide m ≤ 6) l 0 (λ i q. omega (arith, decimal_width 4 (get_or l i 0) (omega (arith, (h i).fits))))))
