-- Stepping in the code's terms: the least value at a place, the least values behind a prefix, the step to the next array. Assumes nothing.
use mathlib.Core.Path.{◌≡◌, refl, sym, ap, subst, ◌∙◌}
use mathlib.Core.Bool.{Bool, true, false}
use mathlib.Core.List.{List}
use Prim.Native.Nat.{ℕ, zero, suc, ◌+◌, ◌-◌, ◌≤◌, ◌<◌}
use native.Mathlib.Omega.{arith}
use native.Mathlib.Numerals.{add-one, sub-one}
use lib.Dec.{ltb, eqb}
use lib.ListN.{length, get_or, take}
use lib.Seq.{get_or-take, length-take-le, take-take}
use borrow.Author.Tests.{ltb-true, eqb-true}
use Rattle.words.specs.Lists.{at, placed}
use Rattle.words.specs.Numbers.{DONE, limit}
use Rattle.words.specs.Stand.{Stands, weighed}
use Rattle.words.specs.Listing.{First}
use Rattle.words.proofs.Lists.{either, same?, both_out}
use Rattle.words.proofs.Order.{Parts, Lowest, Highest}
use Rattle.words.proofs.Places.{placed_long, placed_same, placed_other}
use Rattle.words.proofs.Rows.{alike_take, alike_along}
use Rattle.arrays.specs.Steps.{Passes, Sound, peak}
use Rattle.arrays.proofs.Rules.{weighed_first, passes_sound, passes_part, sound_small, peak_low, peak_stands, peak_most}
use Rattle.arrays.proofs.Alike.{weighed_alike, passes_alike}
use Rattle.arrays.proofs.Theorem.{stands_passes, passes_stands}
use Rattle.listing.specs.Sets.{Sized}
use Rattle.listing.specs.Values.{Seeks, Lower, LeastValue, repeated, Lows, Filled, Highs, Turns, Raised, Stepped, stepped, ended}
use Rattle.listing.proofs.Steps.{first_steps, last_steps, next_steps}
use Rattle.listing.proofs.Standing.{least_first, least_next, after_stands}
use Rattle.listing.proofs.Few.{only_peak}
use Rattle.listing.proofs.Values.{peak_possible, placed_weighed, placed_passes, take_placed}
use Rattle.listing.proofs.Covers.{lower_least}

-- what stands behind a place depends on its echo
same_echo : (A : ℕ) (E : ℕ → ℕ) (c m : ℕ) → E (suc c) ≡ E (suc (suc c)) → weighed A E (suc (suc c)) m ≡ weighed A E (suc c) m
unfolding weighed
same_echo A E c zero e = rw e
same_echo A E c (suc m) e = rw e

-- `least_value`
module _ (A : ℕ) (E : ℕ → ℕ) (i k : ℕ) (lows : Lows A E i k) where
  pub seek_sound : Sound E k
  seek_sound = passes_sound lows.passes

  pub seek_one : (r : ℕ) → r ≡ peak E k → A ≡ 1 → LeastValue A E k 0 r
  seek_one r e z = record {
    from = omega arith;
    stands = rw e (peak_stands k lows.passes);
    least = λ m l w. omega (arith, only_peak E k m (subst (λ (a : ℕ). Passes a E k) z lows.passes) (subst (λ (a : ℕ). weighed a E k m ≡ DONE) z w));
  }

  pub seek_place : (t : Bool) → t ≡ repeated E i k → t ≡ true → 0 < k
  unfolding repeated
  seek_place t is z = omega (arith, ltb-true (i + 1) k (both_out (ltb (i + 1) k) (eqb (E (k - 1)) (E k)) (sym is ∙ z)).0)

  pub seek_again : (r : ℕ) (t : Bool) → r ≡ E k → t ≡ repeated E i k → t ≡ true → LeastValue A E k 0 r
  unfolding repeated
  seek_again r t e is z = let (l, q) = both_out (ltb (i + 1) k) (eqb (E (k - 1)) (E k)) (sym is ∙ z) in
      go k lows (ltb-true (i + 1) k l) (eqb-true _ _ q) e
    where
      go : (k : ℕ) → Lows A E i k → i + 1 < k → E (k - 1) ≡ E k → r ≡ E k → LeastValue A E k 0 r
      go zero w l q e = absurd (omega arith)
      go (suc zero) w l q e = absurd (omega arith)
      go (suc (suc c)) w l q e = let s = rw sub-one at q in record {
        from = omega arith;
        stands = rw e (same_echo A E c _ s ∙ w.passes.step (suc c) (omega arith));
        least = λ m g h. rw e (w.least (suc c) (omega arith) (omega arith) m (sym (same_echo A E c m s) ∙ h));
      }

  module _ (p : ℕ) (full : weighed A E k 0 ≡ DONE → ⊥) (top : p ≡ peak E k) where
    later : 0 < k
    later = either (same? k 0) (λ z. absurd (full (rw z (weighed_first A E 0 refl)))) (λ d. omega arith)

    above : 0 < peak E k
    unfolding peak
    above = go k later
      where
        go : (k : ℕ) → 0 < k → 0 < peak E k
        go zero l = absurd (omega arith)
        go (suc k) l = omega arith

    pub seek_asks : Seeks E k p 0
    seek_asks = record { later = later; sound = seek_sound; value = rw top (peak_possible lows.passes); low = above }

    pub seek_open : (r : ℕ) → Lower E k p 0 r → LeastValue A E k 0 r
    seek_open r lower = let v = lower_least A E k p 0 r lows.passes later top lower in record {
      from = omega arith;
      stands = v.stands;
      least = λ m l g. either (same? m 0) (λ z. absurd (full (rw z at g))) (λ d. v.least m (omega arith) g);
    }

-- `fill`
module _ (A : ℕ) (t u : List ℕ) (i n k v : ℕ) (filled : Filled A t u i k) (value : LeastValue A (at u) k 0 v) (room : n ≤ limit) (inside : k < n) where
  passes : Passes A (at u) k
  passes = filled.lows.passes

  pub fill_small : v < 65536
  fill_small = omega (arith, value.least (peak (at u) k) (omega arith) (peak_stands k passes), peak_low k passes)

  within : k < length u
  within = omega (arith, filled.kept.long)

  pub fill_more : (x : List ℕ) → x ≡ placed u (k + 1) v → i ≤ k → Filled A t x i (k + 1)
  fill_more x q l = rw (q, add-one) (record {
    kept = record { long = placed_long u (suc k) v ∙ filled.kept.long; same = take_placed i k v u l ∙ filled.kept.same };
    lows = record {
      passes = placed_passes A u k v within passes value.stands;
      least = λ j a b m w. either (same? j k)
          (λ z. rw z (rw (placed_same u (suc k) v (omega arith) within) (value.least m (omega arith) (sym (placed_weighed A u k v k m (omega arith) passes) ∙ rw z at w))))
          (λ d. rw (placed_other u (suc k) v (suc j) (λ z. d (omega arith)))
          (filled.lows.least j a (omega arith) m (sym (placed_weighed A u k v j m (omega arith) passes) ∙ w)));
    };
  })

-- the array of n places in the table t
module _ (A : ℕ) (t : List ℕ) (n : ℕ) (room : n ≤ limit) (whole : length t ≡ limit) where
  array_long : length (take n t) ≡ n
  array_long = length-take-le n t (omega arith)

  array_stands : 0 < A → Passes A (at t) n → Stands A (take n t)
  array_stands pos p = passes_stands pos (take n t) (rw array_long (passes_alike (alike_take t n) p))

  -- a standing array that goes along with it for j places has behind them a value that stands there
  member_weighed : (z : List ℕ) (j : ℕ) → Stands A z → length z ≡ length (take n t) → j < length (take n t) → take j z ≡ take j (take n t)
      → weighed A (at t) j (get_or z j 0) ≡ DONE
  unfolding at
  member_weighed z j s k h e =
      let p = stands_passes s in
      let l : j < length z = omega arith in
      sym (weighed_alike A j (get_or z j 0) (alike_along z t j (e ∙ take-take j n t (omega (arith, array_long))))
      (sound_small j (passes_sound (passes_part j (omega arith) p)))) ∙ p.step j l

  array_lowest : (i : ℕ) → Lows A (at t) i n → Lowest (Stands A) (take n t) i
  unfolding at
  array_lowest i lows = record {
    least = λ z s k j a b e. let h : j < n = omega (arith, array_long) in rw (get_or-take n t j 0 h)
        (lows.least j a h (get_or z j 0) (member_weighed z j s k b e));
  }

  array_highest : (i : ℕ) → Passes A (at t) n → Highs (at t) n i → Highest (Stands A) (take n t) i
  unfolding at
  array_highest i p highs = record {
    most = λ z s k j a b e. let h : j < n = omega (arith, array_long) in rw (get_or-take n t j 0 h)
        (omega (arith, highs.high j a h, peak_most j (get_or z j 0) (passes_part j (omega arith) p) (member_weighed z j s k b e)));
  }

-- `first`
pub first_done : (A : ℕ) (t u : List ℕ) (n : ℕ) → Filled A t u 0 n → 0 < A → n ≤ limit → First A n (take n u)
first_done A t u n h pos l = least_first A n (take n u) (first_steps (Stands A) (take n u) n
    (record { is = array_stands A u n l h.kept.long pos h.lows.passes; long = array_long A u n l h.kept.long })
    (array_lowest A u n l h.kept.long 0 h.lows))

-- `raise`
module _ (A : ℕ) (t : List ℕ) (k m p : ℕ) (is : m ≡ at t (k + 1)) (passes : Passes A (at t) k) (grows : at t (k + 1) < peak (at t) k) (top : p ≡ peak (at t) k) where
  not_first : 0 < k
  unfolding peak
  not_first = either (same? k 0) (λ z. absurd (omega (arith, rw z at grows))) (λ d. omega arith)

  pub raise_asks : Seeks (at t) k p m
  raise_asks = record { later = not_first; sound = passes_sound passes; value = rw top (peak_possible passes); low = omega arith }

  module _ (v n : ℕ) (lower : Lower (at t) k p m v) (room : n ≤ limit) (inside : k < n) where
    value : LeastValue A (at t) k (m + 1) v
    value = lower_least A (at t) k p m v passes not_first top lower

    pub raise_small : v < 65536
    raise_small = omega (arith, value.least (peak (at t) k) (omega arith) (peak_stands k passes), peak_low k passes)

    module _ (x : List ℕ) (put : x ≡ placed t (k + 1) v) (whole : length t ≡ limit) where
      room_there : k < length t
      room_there = omega arith

      pub raise_passes : Passes A (at x) (k + 1)
      raise_passes = rw (put, add-one) (placed_passes A t k v room_there passes value.stands)

      pub raise_done : (u : List ℕ) → Filled A x u (k + 1) n → Raised A t u k n
      raise_done u filled = record { value = rw (has, ← is) value; filled = rw has (subst (λ (y : List ℕ). Filled A y u (k + 1) n) put filled) }
        where
          has : at u (k + 1) ≡ v
          has = ap (at u) (add-one k) ∙ (alike_along u x (k + 1) filled.kept.same).same k (omega arith) ∙ ap (λ (y : List ℕ). at y (suc k)) put
              ∙ rw add-one (placed_same t (suc k) v (omega arith) room_there)

-- `next`
module _ (A : ℕ) (t : List ℕ) (n : ℕ) (room : n ≤ limit) (whole : length t ≡ limit) (good : Passes A (at t) n) where
  pub next_last : Highs (at t) n 0 → Stepped A (take n t) (take n t) false
  next_last highs = ended refl (λ y a. last_steps (Stands A) (take n t) (array_highest A t n room whole 0 good highs) y (after_stands A a)) refl

  module _ (k : ℕ) (turns : Turns (at t) n k) where
    inside : k < n
    inside = omega (arith, turns.highs.within)

    module _ (u : List ℕ) (pos : 0 < A) (raised : Raised A t u k n) where
      raises : LeastValue A (at t) k (get_or t k 0 + 1) (get_or u k 0)
      unfolding at
      raises = rw (add-one k) at raised.value

      filled : Filled A (placed t (suc k) (get_or u k 0)) u (suc k) n
      unfolding at
      filled = rw add-one at raised.filled

      -- the arrays before and behind the step, and their values at the place that rises
      old : length (take n t) ≡ n
      old = array_long A t n room whole

      new : length (take n u) ≡ n
      new = array_long A u n room filled.kept.long

      was : get_or (take n t) k 0 ≡ get_or t k 0
      was = get_or-take n t k 0 inside

      is : get_or (take n u) k 0 ≡ get_or u k 0
      is = get_or-take n u k 0 inside

      sized : Sized (Stands A) (length (take n t)) (take n u)
      sized = record { is = array_stands A u n room filled.kept.long pos filled.lows.passes; long = new ∙ sym old }

      same : take k t ≡ take k u
      same = sym (take_placed k k (get_or u k 0) t (omega arith))
          ∙ sym (take-take k (suc k) _ (omega arith)) ∙ ap (take k) (sym filled.kept.same)
          ∙ take-take k (suc k) u (omega arith)

      parts : Parts (take n t) (take n u) k
      parts = record {
        within = omega (arith, old, inside);
        same = take-take k n t (omega (arith, inside)) ∙ same ∙ sym (take-take k n u (omega (arith, inside)));
        less = omega (arith, raises.from, was, is);
      }

      pub next_done : Stepped A (take n t) (take n u) true
      next_done = stepped refl (least_next A (take n t) (take n u) (next_steps (Stands A) (take n t) (take n u) k sized parts
          (array_highest A t n room whole (suc k) good turns.highs)
          (array_lowest A u n room filled.kept.long (suc k) filled.lows)
          (λ z s l q g. rw is (raises.least (get_or z k 0) (omega (arith, was))
          (member_weighed A t n room whole z k s l (omega (arith, old, inside)) q)))))
