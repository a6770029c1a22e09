-- Counting in the code's terms: the values at a place, tried from the greatest down the chain, in one table. Assumes nothing.
use mathlib.Core.Path.{◌≡◌, refl, sym, ap, subst, ◌∙◌}
use mathlib.Core.Bool.{Bool, true, false}
use mathlib.Core.Logic.{inl, inr}
use mathlib.Core.List.{List, []}
use Prim.Native.Nat.{ℕ, zero, suc, ◌+◌, ◌-◌, ◌*◌, ◌≤◌, ◌<◌}
use native.Mathlib.Omega.{arith}
use native.Mathlib.Numerals.{add-one}
use lib.ListN.{length, take}
use lib.Seq.{length-take-le, take-suc-set, take-take}
use mir.Syntax.{w64}
use mir.Val.{Fits}
use borrow.Author.Tests.{ne_eqb}
use Rattle.words.specs.Lists.{each, keep, sum, run, at, placed}
use Rattle.words.specs.Numbers.{DONE, limit}
use Rattle.words.specs.Stand.{opens, weighed}
use Rattle.words.specs.Listing.{more, values, count_from, standing, count}
use Rattle.words.proofs.Lists.{which, either, same?, In}
use Rattle.words.proofs.Rows.{alike_take, alike_along}
use Rattle.arrays.specs.Steps.{Passes, Possible, peak}
use Rattle.arrays.proofs.Rules.{small_at, weighed_done, passes_sound, sound_small, peak_low, peak_most}
use Rattle.arrays.proofs.Reasons.{above}
use Rattle.arrays.proofs.Alike.{passes_alike, opens_alike, behind_alike}
use Rattle.listing.specs.Values.{Kept}
use Rattle.listing.proofs.Sizes.{count_last, count_fits}
use Rattle.listing.proofs.Peak.{weighed_take, standing_in}
use Rattle.listing.proofs.Few.{values_first, values_room, values_full}
use Rattle.listing.proofs.Values.{placed_passes, peak_possible, value_most, value_above, next_value, gap, kept_none, take_placed}
use Rattle.counting.specs.Trying.{tried, Tries}

-- one place written: the prefix with one value more
placed_more : (e : List ℕ) (i m : ℕ) → i < length e → take (i + 1) (placed e (i + 1) m) ≡ more (take i e) m
unfolding more placed
placed_more e i m h = rw add-one (take-suc-set e i m h)

-- `count_values`: the open values, and zero where they are fewer than A
module _ (A : ℕ) (t : List ℕ) (i : ℕ) (passes : Passes A (at t) i) (within : i ≤ limit) (long : length t ≡ limit) where
  pub values_none : i ≡ 0 → 1 ≡ count_from (standing A) 1 (take i t)
  values_none z = rw z (sym (count_last (standing A) [] ∙ values_first A))

  module _ (b k : ℕ) (later : i ≡ 0 → ⊥) (is : b ≡ at t i) (opened : k ≡ length (opens (at t) b)) where
    -- the first i places as an array of their own
    behind : (P : ℕ → List ℕ → Type 0)
        → ((p : List ℕ) (n : ℕ) → length p ≡ suc n → Passes A (at p) (suc n) → k ≡ length (opens (at p) (at p (suc n))) → P k p) → P k (take i t)
    behind P by = go i refl later
      where
        go : (j : ℕ) → i ≡ j → (j ≡ 0 → ⊥) → P k (take i t)
        go zero z d = absurd (d refl)
        go (suc n) z d =
            let a = alike_take t i in
            let s = sound_small i (passes_sound passes) in
            let h : at t i ≡ at (take i t) (suc n) = ap (at t) z ∙ a.same n (omega arith) in
            by (take i t) n (length-take-le i t (omega arith) ∙ z) (subst (λ (x : ℕ). Passes A (at (take i t)) x) z (passes_alike a passes))
            (opened ∙ ap length (ap (opens (at t)) is ∙ opens_alike a s (at t i) (small_at s i (omega arith) (omega arith)) ∙ ap (opens (at (take i t))) h))

    pub values_more : k < A → k + 1 ≡ count_from (standing A) 1 (take i t)
    values_more l = behind (λ k p. k + 1 ≡ count_from (standing A) 1 p)
        (λ p n g s o. rw add-one (sym (count_last (standing A) p ∙ values_room p n g s (omega (arith, l)) ∙ ap suc (sym o))))

    pub values_all : A ≤ k → k ≡ count_from (standing A) 1 (take i t)
    values_all l = behind (λ k p. k ≡ count_from (standing A) 1 p)
        (λ p n g s o. sym (count_last (standing A) p ∙ values_full p n g s (omega (arith, l)) ∙ sym o))

-- the sum over the values, as a sum from 0 up
module _ (ok : List ℕ → ℕ → Bool) (r : ℕ) (p : List ℕ) where
  tried_yes : (m : ℕ) → ok p m ≡ true → tried ok r p (suc m) ≡ tried ok r p m + count_from ok r (more p m)
  unfolding tried
  tried_yes m t = rw t

  tried_no : (m : ℕ) → ok p m ≡ false → tried ok r p (suc m) ≡ tried ok r p m
  unfolding tried
  tried_no m t = rw t (omega arith)

  tried_run : (f c : ℕ) → sum (each (λ m. count_from ok r (more p m)) (keep (ok p) (run c f))) + tried ok r p c ≡ tried ok r p (c + f)
  unfolding sum each keep run
  tried_run zero c = let z : c + 0 ≡ c = omega arith in rw z (omega arith)
  tried_run (suc f) c = let z : c + suc f ≡ suc c + f = omega arith in rw z (either (which (ok p c))
      (λ t. rw t (omega (arith, tried_run f (suc c), tried_yes c t)))
      (λ n. rw n (omega (arith, tried_run f (suc c), tried_no c n))))

  count_tried : count_from ok (suc r) p ≡ tried ok r p (suc (length p))
  unfolding count_from values tried
  count_tried = let z : 0 + suc (length p) ≡ suc (length p) = omega arith in let h = rw z at (tried_run (suc (length p)) 0) in omega (arith, h)

  -- no value from j up to k
  tried_skip : (j k : ℕ) → j ≤ k → ((m : ℕ) → j ≤ m → m < k → ok p m ≡ false) → tried ok r p k ≡ tried ok r p j
  tried_skip zero zero l h = refl
  tried_skip (suc j) zero l h = absurd (omega arith)
  tried_skip j (suc k) l h = either (same? j (suc k))
      (λ e. ap (tried ok r p) (sym e))
      (λ d. omega (arith, tried_no k (h k (omega arith) (omega arith)), tried_skip j k (omega arith) (λ m a b. h m a (omega arith))))

  tried_rises : (m : ℕ) → tried ok r p m ≤ tried ok r p (suc m)
  unfolding tried
  tried_rises m = omega arith

  tried_up : (k d : ℕ) → tried ok r p k ≤ tried ok r p (k + d)
  tried_up k zero = let z : k + 0 ≡ k = omega arith in rw z (omega arith)
  tried_up k (suc d) = let z : k + suc d ≡ suc (k + d) = omega arith in rw z (omega (arith, tried_rises (k + d), tried_up k d))

  tried_most : (k : ℕ) → k ≤ suc (length p) → tried ok r p k ≤ count_from ok (suc r) p
  tried_most k l = let z : k + (suc (length p) - k) ≡ suc (length p) = omega arith in rw count_tried (rw z at (tried_up k (suc (length p) - k)))

-- no value stands between a possible one and the next
value_gap : {A : ℕ} {E : ℕ → ℕ} {i : ℕ} → Passes A E i → (m j : ℕ) → Possible E i m → peak E (m - 1) < j → j < m → weighed A E i j ≡ DONE → ⊥
value_gap {A} {E} {i} passes m j h a b w = let (l, q) = above E i m (omega arith) h in either (weighed_done A E i j w)
    (λ e. omega arith)
    (λ r. omega (arith, gap passes m j l (value_most passes m h) q r.1 b))

-- the first i places of t stand
module _ (A : ℕ) (t : List ℕ) (i n : ℕ) (long : length t ≡ limit) (most : n ≤ 20) (passes : Passes A (at t) i) where
  abbrev ok : List ℕ → ℕ → Bool
  ok = standing A

  no_value : (m : ℕ) → i < n → (weighed A (at t) i m ≡ DONE → ⊥) → ok (take i t) m ≡ false
  unfolding standing
  no_value m h d = ne_eqb _ _ (λ z. d (sym (weighed_take A t i m (omega arith) passes) ∙ z))

  yes_value : (m : ℕ) → i < n → weighed A (at t) i m ≡ DONE → ok (take i t) m ≡ true
  yes_value m h z = standing_in A (take i t) m (weighed_take A t i m (omega arith) passes ∙ z)

  -- `count_prefix`
  pub count_full : i ≡ n → 1 ≡ count_from ok (n - i) (take i t)
  unfolding count_from
  count_full z = let h : n - i ≡ 0 = omega arith in rw h

  module _ (k : ℕ) (inside : i ≤ n) (top : k ≡ peak (at t) i) where
    pub open_falls : (x : ℕ) → (n - i) * 32 + 31 ≡ x → (n - i) * 32 + k < x
    open_falls x z = omega (arith, peak_low i passes)

    module _ (some : i ≡ n → ⊥) where
      pub open_tries : Tries A t i n k
      open_tries = record { within = omega arith; most = most; passes = passes; value = rw top (peak_possible passes) }

      pub count_open : (r : ℕ) → r ≡ tried ok (n - (i + 1)) (take i t) (k + 1) → r ≡ count_from ok (n - i) (take i t)
      count_open r h =
          let s : n - i ≡ suc (n - (i + 1)) = omega arith in
          h ∙ sym (rw (s, count_tried ok (n - (i + 1)) (take i t), length-take-le i t (omega arith))
          (tried_skip ok (n - (i + 1)) (take i t) (k + 1) (suc i) (omega (arith, peak_low i passes))
          (λ m a b. no_value m (omega arith) (λ w. omega (arith, peak_most i m passes w)))))

-- the table keeps the first i places, whatever is written behind them
pub kept_on : (t u x : List ℕ) (i : ℕ) → Kept t u i → Kept u x i → Kept t x i
kept_on t u x i k h = record { long = h.long; same = h.same ∙ k.same }

pub kept_placed : (t x u : List ℕ) (i m : ℕ) → x ≡ placed t (i + 1) m → Kept x u (i + 1) → Kept t u i
kept_placed t x u i m q h = record {
  long = h.long;
  same = sym (take-take i (i + 1) u (omega arith)) ∙ ap (take i) (h.same ∙ ap (take (i + 1)) q)
      ∙ take-take i (i + 1) _ (omega arith) ∙ rw add-one (take_placed i i m t (omega arith));
}

-- the table u has the first i places of t, and behind them the value m counts here: nothing where it does not stand
pub record Counted (A : ℕ) (t u : List ℕ) (i n m here : ℕ) : Type 0 where
  pub kept : Kept t u i
  pub counts : tried (standing A) (n - (i + 1)) (take i t) (m + 1) ≡ tried (standing A) (n - (i + 1)) (take i t) m + here

-- `try_values`: the value m behind the first i places of t, then the next below it
module _ (A : ℕ) (t : List ℕ) (i n m : ℕ) (long : length t ≡ limit) (tries : Tries A t i n m) where
  -- what the values below k count behind the first i places of v
  abbrev sums : List ℕ → ℕ → ℕ
  sums v k = tried (standing A) (n - (i + 1)) (take i v) k

  value_in : m ≤ i
  value_in = value_most tries.passes m tries.value

  within : i < length t
  within = omega (arith, tries.within, tries.most)

  pub tries_small : m < 65536
  tries_small = omega (arith, tries.within, tries.most, value_in)

  pub next_room : m - 1 ≤ limit
  next_room = omega (arith, tries.within, tries.most, value_in)

  pub counts_none : (u : List ℕ) (here : ℕ) → (weighed A (at t) i m ≡ DONE → ⊥) → u ≡ t → here ≡ 0 → Counted A t u i n m here
  counts_none u here fails same none = record {
    kept = rw same (kept_none t i long);
    counts = rw (add-one m) (tried_no (standing A) (n - (i + 1)) (take i t) m (no_value A t i n long tries.most tries.passes m tries.within fails) ∙ omega arith);
  }

  -- x is the table with the value written, and v what counting the longer prefix leaves of it
  module _ (x : List ℕ) (stands : weighed A (at t) i m ≡ DONE) (put : x ≡ placed t (i + 1) m) where
    pub tried_passes : Passes A (at x) (i + 1)
    tried_passes = rw (put, add-one) (placed_passes A t i m within tries.passes stands)

    pub counts_some : (v u : List ℕ) (r here : ℕ) → Kept x v (i + 1) → r ≡ count_from (standing A) (n - (i + 1)) (take (i + 1) x) → u ≡ v → here ≡ r → Counted A t u i n m here
    counts_some v u r here kept counts same is =
        let z = counts ∙ ap (count_from (standing A) (n - (i + 1))) (ap (take (i + 1)) put ∙ placed_more t i m within) in record {
          kept = rw same (kept_placed t x v i m put kept);
          counts = rw (add-one m, is, z) (tried_yes (standing A) (n - (i + 1)) (take i t) m (yes_value A t i n long tries.most tries.passes m tries.within stands));
        }

  module _ (u : List ℕ) (here : ℕ) (counted : Counted A t u i n m here) where
    none_below : m ≡ 0 → sums t m ≡ 0
    unfolding tried
    none_below z = rw z

    pub counts_last : m ≡ 0 → here ≡ sums t (m + 1)
    counts_last z = omega (arith, counted.counts, none_below z)

    -- the table u has the same next value, and the same count below m
    tries_on : Tries A u i n m
    unfolding Possible
    tries_on = let a = alike_along t u i (sym counted.kept.same) in record {
      within = tries.within;
      most = tries.most;
      passes = passes_alike a tries.passes;
      value = either tries.value (λ z. inl z)
          (λ (l, j). inr (l, subst (λ (v : List ℕ). In m v) (behind_alike a (sound_small i (passes_sound tries.passes)) i l (omega arith)) j));
    }

    module _ (k : ℕ) (next : k ≡ peak (at u) (m - 1)) (some : m ≡ 0 → ⊥) where
      below : k < m
      below = omega (arith, value_above tries_on.passes m tries_on.value (omega arith))

      pub next_falls : (x : ℕ) → (n - i) * 32 + m ≡ x → (n - i) * 32 + k < x
      next_falls x z = omega (arith, below)

      pub next_tries : Tries A u i n k
      next_tries = let s = tries_on in
          record { within = s.within; most = s.most; passes = s.passes; value = rw next (next_value s.passes m s.value (omega arith)) }

      module _ (rest : ℕ) (h : rest ≡ sums u (k + 1)) where
        rest_below : rest ≡ sums t m
        rest_below = let s = tries_on in
            h ∙ sym (tried_skip (standing A) (n - (i + 1)) (take i u) (k + 1) m (omega (arith, below))
            (λ j a b. no_value A u i n counted.kept.long s.most s.passes j s.within
            (λ v. value_gap s.passes m j s.value (omega arith) b v)))
            ∙ ap (λ (p : List ℕ). tried (standing A) (n - (i + 1)) p m) counted.kept.same

        pub counts_more : here + rest ≡ sums t (m + 1)
        counts_more = omega (arith, counted.counts, rest_below)

        -- no sum of counts is above 20!
        pub sum_fits : Fits w64 (here + rest)
        sum_fits = let l = length-take-le i t (omega (arith, within)) in record {
          fits = omega (
            arith,
            tries.within,
            tries.most,
            counts_more,
            tried_most (standing A) (n - (i + 1)) (take i t) (m + 1) (omega (arith, l, value_in)),
            count_fits (standing A) (suc (n - (i + 1))) (take i t) (omega (arith, l, tries.within, tries.most)),
          );
        }

-- `count`
pub count_whole : (A n r : ℕ) → r ≡ count_from (standing A) (n - 0) [] → r ≡ count A n
unfolding count
count_whole A n r h = let z : n - 0 ≡ n = omega arith in h ∙ rw z
