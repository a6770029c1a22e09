-- How many arrays complete a prefix, over any test: never more than n! of n places, and k ^ r where every prefix has k values behind it. Assumes nothing.
use mathlib.Core.Path.{◌≡◌, refl, sym, ◌∙◌}
use mathlib.Core.Bool.{Bool}
use mathlib.Core.List.{List, [], ◌∷◌}
use Prim.Native.Nat.{ℕ, zero, suc, ◌+◌, ◌*◌, ◌^◌, ◌≤◌, ◌<◌}
use native.Mathlib.Omega.{arith}
use native.Mathlib.Nat.{suc-mul, zero-mul, one-mul, mul-one, mul_comm, pow-zero, pow-suc, le_trans, mul-le-mul_left, mul-le-mul_right}
use lib.ListN.{length, get_or-append}
use lib.Seq.{take-append-le, take_at, get_or_at}
use Rattle.words.specs.Lists.{each, sum, run}
use Rattle.words.specs.Listing.{more, values, count_from}
use Rattle.words.proofs.Lists.{either, same?, In, here, there, keep_few}
use Rattle.words.proofs.Places.{run_long}
use Rattle.listing.specs.Sets.{Completes, spans}
use Rattle.listing.proofs.Listing.{values_out, more_length}

sum_most : (f : ℕ → ℕ) (k : ℕ) (l : List ℕ) → ((m : ℕ) → f m ≤ k) → sum (each f l) ≤ length l * k
unfolding sum each
sum_most f k [] h = omega arith
sum_most f k (m ∷ l) h = rw (suc-mul (length l) k) (omega (arith, h m, sum_most f k l h))

sum_alike : (f : ℕ → ℕ) (k : ℕ) (l : List ℕ) → ((m : ℕ) → In m l → f m ≡ k) → sum (each f l) ≡ length l * k
unfolding sum each
sum_alike f k [] h = sym (zero-mul k)
sum_alike f k (m ∷ l) h = rw (suc-mul (length l) k, h m here, sum_alike f k l (λ j i. h j (there i))) (omega arith)

-- more factors make no less
spans_pos : (i r : ℕ) → 0 < spans i r
unfolding spans
spans_pos i zero = omega arith
spans_pos i (suc r) = rw (suc-mul i (spans (suc i) r)) (omega (arith, spans_pos (suc i) r))

spans_up : (i r n : ℕ) → r ≤ n → spans i r ≤ spans i n
unfolding spans
spans_up i zero n h = spans_pos i n
spans_up i (suc r) zero h = absurd (omega arith)
spans_up i (suc r) (suc n) h = mul-le-mul_left (suc i) (spans_up (suc i) r n (omega arith))

spans_whole : (i r n : ℕ) → i + r ≤ n → spans i r ≤ spans 0 n
unfolding spans
spans_whole zero r n h = spans_up 0 r n (omega arith)
spans_whole (suc i) r n h = le_trans (rw (suc-mul i (spans (suc i) r)) (omega arith)) (spans_whole i (suc r) n (omega arith))

pub twenty : spans 0 20 ≡ 2432902008176640000
unfolding spans
twenty = refl

module _ (ok : List ℕ → ℕ → Bool) where
  values_few : (p : List ℕ) → length (values ok p) ≤ suc (length p)
  unfolding values
  values_few p = omega (arith, keep_few (ok p) (run 0 (suc (length p))), run_long 0 (suc (length p)))

  -- a prefix of i places has at most (i + 1) (i + 2) .. (i + r) completions by r: none of n places has more than n!
  pub count_most : (r : ℕ) (p : List ℕ) → count_from ok r p ≤ spans (length p) r
  unfolding count_from spans
  count_most zero p = omega arith
  count_most (suc r) p = le_trans
      (sum_most (λ m. count_from ok r (more p m)) (spans (suc (length p)) r) (values ok p) (λ m. rw (more_length p m) at (count_most r (more p m))))
      (mul-le-mul_right (spans (suc (length p)) r) (values_few p))

  -- one place more has as many as there are values
  pub count_last : (p : List ℕ) → count_from ok 1 p ≡ length (values ok p)
  unfolding count_from
  count_last p = sum_alike (λ m. count_from ok 0 (more p m)) 1 (values ok p) (λ m i. refl) ∙ mul-one (length (values ok p))

  -- and so no count behind a prefix of an array of 20 places is above 20!
  pub count_fits : (r : ℕ) (p : List ℕ) → length p + r ≤ 20 → count_from ok r p ≤ 2432902008176640000
  count_fits r p h = omega (arith, count_most r p, spans_whole (length p) r 20 h, twenty)

  -- where each prefix of a set Q that values do not leave has k values behind it, k ^ r
  pub count_power : (Q : List ℕ → Type 0) (k : ℕ) → ((p : List ℕ) (m : ℕ) → Q p → In m (values ok p) → Q (more p m)) → ((p : List ℕ) → Q p → length (values ok p) ≡ k)
      → (r : ℕ) (p : List ℕ) → Q p → count_from ok r p ≡ k ^ r
  unfolding count_from
  count_power Q k stay wide zero p q = sym (pow-zero k)
  count_power Q k stay wide (suc r) p q =
      sum_alike (λ m. count_from ok r (more p m)) (k ^ r) (values ok p) (λ m i. count_power Q k stay wide r (more p m) (stay p m q i))
      ∙ rw (wide p q, pow-suc) (mul_comm k (k ^ r))

  completes_none : Completes ok [] []
  completes_none = record { low = λ i b. absurd (omega arith); passes = λ i b. absurd (omega arith) }

  pub completes_more : (p : List ℕ) (m : ℕ) → Completes ok [] p → In m (values ok p) → Completes ok [] (more p m)
  unfolding more
  completes_more p m k i = let (l, h) = values_out ok p m i in record {
    low = λ j b. either (same? (length p) j)
        (λ e. rw (get_or_at p m [] 0 j e) (omega arith))
        (λ d. rw (get_or-append p (m ∷ []) 0 j (omega (arith, more_length p m))) (k.low j (omega (arith, more_length p m))));
    passes = λ j b. either (same? (length p) j)
        (λ e. rw (get_or_at p m [] 0 j e, take_at p (m ∷ []) j e) h)
        (λ d. rw (get_or-append p (m ∷ []) 0 j (omega (arith, more_length p m)), take-append-le j p (m ∷ []) (omega (arith, more_length p m))) (k.passes j (omega (arith, more_length p m))));
  }

  -- over a test that passes one value everywhere the count is 1
  pub count_one : ((p : List ℕ) → Completes ok [] p → length (values ok p) ≡ 1) → (n : ℕ) → count_from ok n [] ≡ 1
  count_one h n = count_power (Completes ok []) 1 completes_more h n [] completes_none ∙ one_pow n
    where
      one_pow : (r : ℕ) → 1 ^ r ≡ 1
      one_pow zero = pow-zero 1
      one_pow (suc r) = pow-suc 1 r ∙ mul-one (1 ^ r) ∙ one_pow r

  -- over a test that passes one value at the first place and two at every other it is 2 ^ (n - 1)
  pub count_two : length (values ok []) ≡ 1 → ((p : List ℕ) → Completes ok [] p → 0 < length p → length (values ok p) ≡ 2) → (r : ℕ) → count_from ok (suc r) [] ≡ 2 ^ r
  unfolding count_from
  count_two first h r = sum_alike (λ m. count_from ok r (more [] m)) (2 ^ r) (values ok [])
      (λ m i. count_power (λ p. Completes ok [] p × (0 < length p)) 2
      (λ p m q i. (completes_more p m q.0 i, omega (arith, more_length p m))) (λ p q. h p q.0 q.1)
      r (more [] m) (completes_more [] m completes_none i, omega (arith, more_length [] m)))
      ∙ rw first (one-mul (2 ^ r))
