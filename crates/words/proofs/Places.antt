-- Laws of places: what stands at a place, the places of a list, the first that passes. Assumes nothing.
use mathlib.Core.Path.{◌≡◌, refl, sym, ap, ◌∙◌}
use mathlib.Core.Bool.{Bool, true, false}
use mathlib.Core.Logic.{◌⊎◌, inl, inr}
use mathlib.Core.List.{List, [], ◌∷◌}
use Prim.Native.Nat.{ℕ, zero, suc, ◌+◌, ◌-◌, ◌≤◌, ◌<◌}
use native.Mathlib.Omega.{arith}
use lib.Dec.{ltb}
use lib.ListN.{length, get_or, set, length-set}
use lib.Seq.{ext_get_or, get_or-set_same, get_or-set_other}
use borrow.Author.Tests.{ltb-true, ltb-false}
use Rattle.words.specs.Lists.{each, first_of, run, places, at, placed}
use Rattle.words.proofs.Lists.{which, either, same?, In, In-nil, In-cons, In-here, there, each_long}

-- place i is index i - 1
pub index_at : (l : List ℕ) (i : ℕ) → 0 < i → get_or l (i - 1) 0 ≡ at l i
unfolding at
index_at l zero h = absurd (omega arith)
index_at l (suc j) h = let z : suc j - 1 ≡ j = omega arith in ap (λ (k : ℕ). get_or l k 0) z

pub at_index : (l : List ℕ) (i r : ℕ) → 0 < i → r ≡ get_or l (i - 1) 0 → r ≡ at l i
at_index l i r h e = e ∙ index_at l i h

-- a run: how long it is, what stands in it, and its members
pub run_long : (c n : ℕ) → length (run c n) ≡ n
unfolding run
run_long c zero = refl
run_long c (suc n) = ap suc (run_long (suc c) n)

pub run_get_d : (c n j : ℕ) → j < n → get_or (run c n) j 0 ≡ c + j
unfolding run
run_get_d c zero j h = absurd (omega arith)
run_get_d c (suc n) zero h = omega arith
run_get_d c (suc n) (suc j) h = omega (arith, run_get_d (suc c) n j (omega arith))

pub run_in : (c n m : ℕ) → c ≤ m → m < c + n → In m (run c n)
unfolding run
run_in c zero m l h = absurd (omega arith)
run_in c (suc n) m l h = either (same? m c) (λ e. In-here e) (λ d. there (run_in (suc c) n m (omega arith) (omega arith)))

pub run_out : (c n m : ℕ) → In m (run c n) → (c ≤ m) × (m < c + n)
unfolding run
run_out c zero m i = absurd (In-nil i)
run_out c (suc n) m i = either (In-cons i) (λ e. (omega arith, omega arith)) (λ j. let (a, b) = run_out (suc c) n m j in (omega arith, omega arith))

-- f of each place
each_get_d : (f : ℕ → ℕ) (l : List ℕ) (j : ℕ) → j < length l → get_or (each f l) j 0 ≡ f (get_or l j 0)
unfolding each
each_get_d f [] j h = absurd (omega arith)
each_get_d f (x ∷ l) zero h = refl
each_get_d f (x ∷ l) (suc j) h = each_get_d f l j (omega arith)

pub each_place : (f : ℕ → ℕ) (n j : ℕ) → j < n → at (each f (places n)) (suc j) ≡ f (suc j)
unfolding at places
each_place f n j h = let z : get_or (run 1 n) j 0 ≡ suc j = omega (arith, run_get_d 1 n j h) in each_get_d f (run 1 n) j (omega (arith, run_long 1 n)) ∙ ap f z

pub places_length : (f : ℕ → ℕ) (n : ℕ) → length (each f (places n)) ≡ n
unfolding places
places_length f n = each_long f (places n) ∙ run_long 1 n

-- a list of n entries that has f of each place is `each f (places n)`
pub each_only : (f : ℕ → ℕ) (n : ℕ) (l : List ℕ) → length l ≡ n → ((j : ℕ) → j < n → at l (suc j) ≡ f (suc j)) → l ≡ each f (places n)
unfolding at
each_only f n l h same = ext_get_or 0 l (each f (places n)) (h ∙ sym (places_length f n)) (λ j k. same j (omega arith) ∙ sym (each_place f n j (omega arith)))

-- the places of n are 1 to n
pub places_in : (n m : ℕ) → 0 < m → m ≤ n → In m (places n)
unfolding places
places_in n m h l = run_in 1 n m h (omega arith)

pub places_out : (n m : ℕ) → In m (places n) → (0 < m) × (m ≤ n)
unfolding places
places_out n m i = let (a, b) = run_out 1 n m i in (a, omega arith)

-- what a list with v at place i has
pub placed_long : (l : List ℕ) (i v : ℕ) → length (placed l i v) ≡ length l
unfolding placed
placed_long l zero v = refl
placed_long l (suc j) v = length-set l j v

pub placed_same : (l : List ℕ) (i v : ℕ) → 0 < i → i ≤ length l → at (placed l i v) i ≡ v
unfolding placed at
placed_same l zero v p h = absurd (omega arith)
placed_same l (suc j) v p h = get_or-set_same l j v 0 h

pub placed_other : (l : List ℕ) (i v j : ℕ) → (j ≡ i → ⊥) → at (placed l i v) j ≡ at l j
unfolding placed at
placed_other l zero v j d = refl
placed_other l (suc i) v zero d = refl
placed_other l (suc i) v (suc j) d = get_or-set_other l i j v 0 (λ e. d (ap suc e))

pub set_placed : (l : List ℕ) (i v : ℕ) → 0 < i → set l (i - 1) v ≡ placed l i v
unfolding placed
set_placed l zero v p = absurd (omega arith)
set_placed l (suc j) v p = let z : suc j - 1 ≡ j = omega arith in ap (λ (k : ℕ). set l k v) z

-- the first of the places 1 to n that passes: none does, or it is behind + 1
pub record Hit (p : ℕ → Bool) (c n r : ℕ) : Type 0 where
  pub behind : ℕ
  pub from : c ≤ behind
  pub within : behind < c + n
  pub place : r ≡ suc behind
  pub passes : p (suc behind) ≡ true
  pub none : (i : ℕ) → c ≤ i → i < behind → p (suc i) ≡ false

pub record Miss (p : ℕ → Bool) (c n r : ℕ) : Type 0 where
  pub place : r ≡ 0
  pub none : (i : ℕ) → c ≤ i → i < c + n → p (suc i) ≡ false

first_run : (p : ℕ → Bool) (c n : ℕ) → Miss p c n (first_of p (run (suc c) n)) ⊎ Hit p c n (first_of p (run (suc c) n))
unfolding first_of run
first_run p c zero = inl (record { place = refl; none = λ i l h. absurd (omega arith) })
first_run p c (suc n) = either (which (p (suc c)))
    (λ t. inr (record { behind = c; from = omega arith; within = omega arith; place = rw t; passes = t; none = λ i l h. absurd (omega arith) }))
    (λ f. either (first_run p (suc c) n)
    (λ m. inl (record {
      place = rw f m.place;
      none = λ i l h. either (same? i c) (λ e. ap (λ (k : ℕ). p (suc k)) e ∙ f) (λ d. m.none i (omega arith) (omega arith));
    }))
    (λ m. inr (record {
      behind = m.behind;
      from = omega (arith, m.from);
      within = omega (arith, m.within);
      place = rw f m.place;
      passes = m.passes;
      none = λ i l h. either (same? i c) (λ e. ap (λ (k : ℕ). p (suc k)) e ∙ f) (λ d. m.none i (omega arith) (omega arith));
    })))

pub first_places : (p : ℕ → Bool) (n : ℕ) → Miss p 0 n (first_of p (places n)) ⊎ Hit p 0 n (first_of p (places n))
unfolding places
first_places p n = first_run p 0 n

-- a walk over the places from i + 1 on, of n: what is left answers for the whole, W
module _ (p : ℕ → Bool) where
  pub first_start : (n : ℕ) → first_of p (places n) ≡ first_of p (run (0 + 1) (n - 0))
  unfolding places
  first_start n = let z : n ≡ n - 0 = omega arith in ap (λ (m : ℕ). first_of p (run 1 m)) z

  module _ (W i n : ℕ) (left : W ≡ first_of p (run (i + 1) (n - i))) where
    open_run : i < n → W ≡ first_of p ((i + 1) ∷ run (suc (i + 1)) (n - (i + 1)))
    unfolding run
    open_run h = let z : n - i ≡ suc (n - (i + 1)) = omega arith in left ∙ ap (λ (m : ℕ). first_of p (run (i + 1) m)) z

    pub first_here : i < n → p (i + 1) ≡ true → i + 1 ≡ W
    unfolding first_of
    first_here h t = sym (open_run h ∙ rw t)

    pub first_none : n ≤ i → 0 ≡ W
    unfolding first_of run
    first_none h = let z : n - i ≡ 0 = omega arith in sym (left ∙ ap (λ (m : ℕ). first_of p (run (i + 1) m)) z)

    pub first_more : p (i + 1) ≡ false → W ≡ first_of p (run (i + 1 + 1) (n - (i + 1)))
    unfolding first_of run
    first_more f = either (which (ltb i n))
        (λ t. open_run (ltb-true i n t) ∙ rw f (let z : suc (i + 1) ≡ i + 1 + 1 = omega arith in ap (λ (k : ℕ). first_of p (run k (n - (i + 1)))) z))
        (λ t. let h = ltb-false i n t in let z : n - (i + 1) ≡ 0 = omega arith in sym (first_none h) ∙ sym (ap (λ (m : ℕ). first_of p (run (i + 1 + 1) m)) z))
