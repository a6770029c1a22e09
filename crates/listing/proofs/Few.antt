-- How many values stand behind a standing prefix, and so how many arrays stand: over one letter 1, over two 2 ^ (n - 1), and never more than n!. Assumes nothing.
use mathlib.Core.Path.{◌≡◌, refl, sym, ap, subst, ◌∙◌}
use mathlib.Core.Bool.{not}
use mathlib.Core.Logic.{◌⊎◌, inl, inr}
use mathlib.Core.List.{List, [], ◌∷◌}
use Prim.Native.Nat.{ℕ, zero, suc, ◌^◌, ◌≤◌, ◌<◌}
use native.Mathlib.Omega.{arith}
use lib.Dec.{ltb}
use lib.ListN.{length}
use borrow.Author.Tests.{eq-eqb, ne_eqb, ltb-true, ltb-false}
use Rattle.words.specs.Lists.{keep, run, at}
use Rattle.words.specs.Numbers.{DONE}
use Rattle.words.specs.Stand.{opens, weighed}
use Rattle.words.specs.Listing.{values, standing, count_from, count}
use Rattle.words.proofs.Lists.{which, either, In, here, there, In-nil, In-cons, In-here, keep_in, Falls, keep_falls}
use Rattle.words.specs.Rows.{Small}
use Rattle.arrays.specs.Steps.{Passes, peak}
use Rattle.arrays.proofs.Pigeon.{Distinct, but, keep_shorter}
use Rattle.arrays.proofs.Rules.{possible_range, possible_top, possible_falling, open_in, open_out, weight_open, weighed_first, weighed_more, weighed_fits, weighed_room, weighed_done, passes_sound, sound_small, top_open, opens_at_most, peak_stands}
use Rattle.arrays.proofs.Theorem.{stands_passes}
use Rattle.listing.specs.Sets.{Completes, spans}
use Rattle.listing.proofs.Listing.{Up, values_in, values_out, values_up}
use Rattle.listing.proofs.Sizes.{count_most, count_fits, count_one, count_two}
use Rattle.listing.proofs.Peak.{standing_in, standing_out, completes_stands}

-- different members of a list are no more than the list has
subset : (l k : List ℕ) → Distinct l → ((m : ℕ) → In m l → In m k) → length l ≤ length k
unfolding Distinct
subset [] k d h = omega arith
subset (x ∷ l) k d h = omega (
  arith,
  subset l (keep (but x) k) d.1 (λ m i. keep_in (but x) (h m (there i)) (ap not (ne_eqb x m (λ e. d.0 (subst (λ (z : ℕ). In z l) (sym e) i))))),
  keep_shorter (but x) (h x here) (ap not (eq-eqb x x refl)),
)

up_distinct : (l : List ℕ) → Up l → Distinct l
unfolding Up Distinct
up_distinct [] u = tt
up_distinct (x ∷ l) u = ((λ i. omega (arith, u.0 x i)), up_distinct l u.1)

falling_distinct : (l : List ℕ) → Falls l → Distinct l
unfolding Falls Distinct
falling_distinct [] f = tt
falling_distinct (x ∷ l) f = ((λ i. omega (arith, f.0 x i)), falling_distinct l f.1)

in_some : {m : ℕ} {l : List ℕ} → In m l → 0 < length l
in_some here = omega arith
in_some (there i) = omega arith

-- behind n + 1 standing places
module _ {A : ℕ} {E : ℕ → ℕ} {n : ℕ} (passes : Passes A E (suc n)) where
  small : Small E (suc n)
  small = sound_small (suc n) (passes_sound passes)

  low : E (suc n) ≤ n
  low = small.below n (omega arith)

  open_stands : (m : ℕ) → In m (opens E (E (suc n))) → (0 < m) × (m ≤ suc n) × (weighed A E (suc n) m ≡ DONE)
  open_stands m i =
      let (j, f) = open_out E (E (suc n)) m i in
      let r = possible_range small (E (suc n)) (omega (arith, low)) m j in
      (r.0, omega (arith, low, r), weighed_more A E n m r.0 ∙ weight_open E (E (suc n)) m j f)

  stands_open : (m : ℕ) → weighed A E (suc n) m ≡ DONE → ((m ≡ 0) × (length (opens E (E (suc n))) < A)) ⊎ In m (opens E (E (suc n)))
  stands_open m w = either (weighed_done A E (suc n) m w)
      (λ e. inl (e, weighed_room A E n m w e))
      (λ r. inr (open_in E (E (suc n)) m r.1 r.2))

  opens_distinct : Distinct (opens E (E (suc n)))
  unfolding opens
  opens_distinct = falling_distinct _ (keep_falls _ _ (possible_falling small (E (suc n)) (omega (arith, low))))

  opens_some : 0 < length (opens E (E (suc n)))
  opens_some = in_some (open_in E _ _ (possible_top small (E (suc n)) (omega (arith, low))) (top_open (passes_sound passes) (E (suc n)) (omega (arith, low))))

  opens_most : 0 < A → length (opens E (E (suc n))) ≤ A
  opens_most pos = opens_at_most pos passes (E (suc n)) (omega (arith, low))

-- over one letter only the greatest value stands
pub only_peak : (E : ℕ → ℕ) (n m : ℕ) → Passes 1 E n → weighed 1 E n m ≡ DONE → peak E n ≤ m
unfolding peak
only_peak E zero m p w = omega arith
only_peak E (suc n) m p w = either (stands_open p m w)
    (λ z. absurd (omega (arith, z.1, opens_some p)))
    (λ i. one (opens E (E (suc n))) (opens_most p (omega arith)) i (either (stands_open p (suc (E (suc n))) (peak_stands (suc n) p)) (λ z. absurd (omega (arith, z.0))) (λ j. j)))
  where
    one : (l : List ℕ) → length l ≤ 1 → In m l → In (suc (E (suc n))) l → suc (E (suc n)) ≤ m
    one [] h i j = absurd (In-nil i)
    one (x ∷ []) h i j = either (In-cons i) (λ e. either (In-cons j) (λ g. omega arith) (λ k. absurd (In-nil k))) (λ k. absurd (In-nil k))
    one (x ∷ y ∷ l) h i j = absurd (omega arith)

-- behind a standing prefix that is not empty: the open values, and zero where they are fewer than A
module _ {A : ℕ} (p : List ℕ) (n : ℕ) (long : length p ≡ suc n) (passes : Passes A (at p) (suc n)) where
  abbrev O : List ℕ
  O = opens (at p) (at p (suc n))

  into : (m : ℕ) → In m O → In m (values (standing A) p)
  into m i = let (z, l, w) = open_stands passes m i in values_in (standing A) p m (omega arith) (standing_in A p m (rw long w))

  out : (m : ℕ) → In m (values (standing A) p) → ((m ≡ 0) × (length O < A)) ⊎ In m O
  out m i = let (l, w) = values_out (standing A) p m i in stands_open passes m (rw long at (standing_out A p m w))

  pub values_room : length O < A → length (values (standing A) p) ≡ suc (length O)
  unfolding Distinct
  values_room r = omega (
    arith,
    subset (values (standing A) p) (0 ∷ O) (up_distinct _ (values_up (standing A) p)) (λ m i. either (out m i) (λ z. In-here z.0) (λ j. there j)),
    subset (0 ∷ O) (values (standing A) p) ((λ i. omega (arith, open_stands passes 0 i)), opens_distinct passes)
        (λ m i. either (In-cons i) (λ e. values_in (standing A) p m (omega arith) (standing_in A p m (rw long (weighed_fits A (at p) n m e r)))) (λ j. into m j)),
  )

  pub values_full : A ≤ length O → length (values (standing A) p) ≡ length O
  values_full f = omega (
    arith,
    subset (values (standing A) p) O (up_distinct _ (values_up (standing A) p)) (λ m i. either (out m i) (λ z. absurd (omega (arith, z.1))) (λ j. j)),
    subset O (values (standing A) p) (opens_distinct passes) into,
  )

  -- over one letter or two there are as many as letters
  pub values_few : 0 < A → A ≤ 2 → length (values (standing A) p) ≡ A
  values_few pos two = either (which (ltb (length (opens (at p) (at p (suc n)))) A))
      (λ t. let l = ltb-true _ A t in omega (arith, opens_some passes, values_room l))
      (λ f. let l = ltb-false _ A f in omega (arith, opens_most passes pos, values_full l))

-- at the first place zero alone stands
pub values_first : (A : ℕ) → length (values (standing A) []) ≡ 1
unfolding values run keep
values_first A = rw (standing_in A [] 0 (weighed_first A (at []) 0 refl))

module _ (A : ℕ) (pos : 0 < A) (two : A ≤ 2) where
  few_values : (p : List ℕ) → Completes (standing A) [] p → 0 < length p → length (values (standing A) p) ≡ A
  few_values [] c h = absurd (omega arith)
  few_values (x ∷ p) c h = values_few (x ∷ p) (length p) (omega arith) (stands_passes (completes_stands A pos (x ∷ p) c)) pos two

pub one_letter : (n : ℕ) → count 1 n ≡ 1
unfolding count
one_letter n = count_one (standing 1) each n
  where
    each : (p : List ℕ) → Completes (standing 1) [] p → length (values (standing 1) p) ≡ 1
    each [] c = values_first 1
    each (x ∷ p) c = few_values 1 (omega arith) (omega arith) (x ∷ p) c (omega arith)

pub two_letters : (n : ℕ) → count 2 (suc n) ≡ 2 ^ n
unfolding count
two_letters n = count_two (standing 2) (values_first 2) (few_values 2 (omega arith) (omega arith)) n

-- one array is empty; n places have at most n! arrays, and twenty fewer than 2 ^ 64
pub no_places : (A : ℕ) → count A 0 ≡ 1
unfolding count count_from
no_places A = refl

pub at_most_factorial : (A n : ℕ) → count A n ≤ spans 0 n
unfolding count
at_most_factorial A n = count_most (standing A) n []

pub count_small : (A n : ℕ) → n ≤ 20 → count A n < 2 ^ 64
unfolding count
count_small A n h = omega (arith, count_fits (standing A) n [] (omega arith))
