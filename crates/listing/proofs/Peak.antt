-- The values behind standing places: the greatest always stands, so every standing prefix is completed and 0 1 .. n - 1 is the last array of its length;
-- and the standing arrays are what the test `standing` lets complete the empty prefix. Assumes nothing.
use mathlib.Core.Path.{◌≡◌, refl, sym, ap, subst, ◌∙◌}
use mathlib.Core.Bool.{true}
use mathlib.Core.List.{List, [], ◌∷◌, ◌++◌, append-nil}
use Prim.Native.Nat.{ℕ, zero, suc, ◌≤◌, ◌<◌}
use native.Mathlib.Omega.{arith}
use lib.ListN.{length, get_or, take}
use lib.Seq.{length-take-le}
use borrow.Author.Tests.{eqb-true, eq-eqb}
use Rattle.words.specs.Lists.{run, at}
use Rattle.words.specs.Numbers.{DONE}
use Rattle.words.specs.Stand.{Stands, weighed}
use Rattle.words.specs.Listing.{more, standing, listing, count, StandsAt, StandsAfter, First, Next, head, behind}
use Rattle.words.proofs.Rows.{alike_take}
use Rattle.arrays.specs.Steps.{Passes, peak}
use Rattle.arrays.proofs.Rules.{weighed_first, passes_sound, passes_none, passes_suc, passes_part, sound_small, peak_low, peak_stands}
use Rattle.arrays.proofs.Alike.{weighed_alike}
use Rattle.arrays.proofs.Theorem.{stands_passes, passes_stands}
use Rattle.listing.specs.Sets.{Completes, Lists, Trail, Visits, Opening}
use Rattle.words.proofs.Places.{run_long, run_get_d}
use Rattle.words.proofs.Order.{before_not, before_total, least_one, Highest}
use Rattle.listing.proofs.Listing.{more_append, values_in, lists}
use Rattle.listing.proofs.Sizes.{completes_more}
use Rattle.listing.proofs.Steps.{last_steps}
use Rattle.listing.proofs.Standing.{after_stands, first_least, head_first, behind_next, behind_last, stepping}
use Rattle.listing.proofs.Walk.{walk_opens, walk_listing}

-- the first i places as an array of their own: the value m weighs the same behind them
pub weighed_take : (A : ℕ) (e : List ℕ) (i m : ℕ) → i ≤ length e → Passes A (at e) i → weighed A (at (take i e)) (length (take i e)) m ≡ weighed A (at e) i m
weighed_take A e i m l p = rw (length-take-le i e l) (sym (weighed_alike A i m (alike_take e i) (sound_small i (passes_sound p))))

pub standing_out : (A : ℕ) (p : List ℕ) (m : ℕ) → standing A p m ≡ true → weighed A (at p) (length p) m ≡ DONE
unfolding standing
standing_out A p m h = eqb-true _ _ h

pub standing_in : (A : ℕ) (p : List ℕ) (m : ℕ) → weighed A (at p) (length p) m ≡ DONE → standing A p m ≡ true
unfolding standing
standing_in A p m h = eq-eqb _ _ h

-- the standing arrays are what completes the empty prefix
pub stands_completes : (A : ℕ) (e : List ℕ) → Stands A e → Completes (standing A) [] e
unfolding at
stands_completes A e s = let p = stands_passes s in record {
  low = λ i h. omega (arith, (sound_small (length e) (passes_sound p)).below i h);
  passes = λ i h. standing_in A (take i e) (get_or e i 0) (weighed_take A e i (get_or e i 0) (omega arith) (passes_part i (omega arith) p) ∙ p.step i h);
}

completes_passes : (A : ℕ) (e : List ℕ) → Completes (standing A) [] e → (n : ℕ) → n ≤ length e → Passes A (at e) n
unfolding at
completes_passes A e c zero h = passes_none A (at e)
completes_passes A e c (suc n) h = let p = completes_passes A e c n (omega arith) in
    passes_suc n p (sym (weighed_take A e n (get_or e n 0) (omega arith) p) ∙ standing_out A (take n e) (get_or e n 0) (c.passes n h))

pub completes_stands : (A : ℕ) → 0 < A → (e : List ℕ) → Completes (standing A) [] e → Stands A e
completes_stands A pos e c = passes_stands pos e (completes_passes A e c (length e) (omega arith))

-- THE listing of the standing arrays
pub stands_lists : (A : ℕ) → 0 < A → (n : ℕ) → Lists (Stands A) n (listing (standing A) n [])
stands_lists A pos = lists (standing A) (Stands A) (stands_completes A) (completes_stands A pos)

-- THE theorem: from the first array on, the steps to the next visit this listing, each array once, and end; they are as many as the count
pub steps_visit : (A : ℕ) → 0 < A → (n : ℕ) (f : List ℕ) → First A n f
    → Visits (Next A) (λ x. (z : List ℕ) → StandsAfter A x z → ⊥) f (listing (standing A) n []) × Lists (Stands A) n (listing (standing A) n []) × (count A n ≡ length (listing (standing A) n []))
unfolding count
steps_visit A pos n f h = walk_listing (stepping A n) (standing A) (stands_completes A) (completes_stands A pos) f (first_least A n f h)

-- as long as they do not end they visit an opening of it
pub steps_open : (A : ℕ) → 0 < A → (n : ℕ) (f : List ℕ) → First A n f → {F : List ℕ → Type 0} (T : List (List ℕ)) → Trail (Next A) F f T
    → Opening (Stands A) n F (listing (standing A) n []) T
steps_open A pos n f h T t = walk_opens (stepping A n) f (listing (standing A) n []) T (stands_lists A pos n) (first_least A n f h) t

-- every standing prefix can be completed
pub completed : (A : ℕ) → 0 < A → (r : ℕ) (p : List ℕ) → Stands A p → (c : List ℕ) × (length c ≡ r) × Stands A (p ++ c)
completed A pos zero p s = ([], refl, rw (append-nil p) s)
completed A pos (suc r) p s =
    let h = stands_passes s in
    let m = peak (at p) (length p) in
    let i = values_in (standing A) p m (peak_low (length p) h) (standing_in A p m (peak_stands (length p) h)) in
    let (c, l, t) = completed A pos r (more p m) (completes_stands A pos (more p m) (completes_more (standing A) p m (stands_completes A p s) i)) in
    (m ∷ c, ap suc l, subst (λ (q : List ℕ). Stands A q) (more_append p m c) t)

-- the last array of n places, over every A: 0 1 .. n - 1
module _ (A : ℕ) (pos : 0 < A) (n : ℕ) where
  run_passes : (k : ℕ) → k ≤ n → Passes A (at (run 0 n)) k
  unfolding peak at
  run_passes zero h = passes_none A (at (run 0 n))
  run_passes (suc zero) h = passes_suc 0 (passes_none A (at (run 0 n))) (weighed_first A (at (run 0 n)) _ (omega (arith, run_get_d 0 n 0 h)))
  run_passes (suc (suc k)) h = let p = run_passes (suc k) (omega arith) in
      let e : get_or (run 0 n) (suc k) 0 ≡ suc (get_or (run 0 n) k 0) = omega (arith, run_get_d 0 n (suc k) h, run_get_d 0 n k (omega arith)) in
      passes_suc (suc k) p (rw e (peak_stands (suc k) p))

  pub run_stands : StandsAt A n (run 0 n)
  run_stands = record { stands = passes_stands pos (run 0 n) (run_passes (length (run 0 n)) (omega (arith, run_long 0 n))); long = run_long 0 n }

  pub run_last : (z : List ℕ) → StandsAfter A (run 0 n) z → ⊥
  unfolding at
  run_last z a = last_steps (Stands A) (run 0 n) high z (after_stands A a)
    where
      high : Highest (Stands A) (run 0 n) 0
      high = record {
        most = λ z s k j l b t. omega (
          arith,
          run_get_d 0 n j (omega (arith, run_long 0 n)),
          (sound_small (length z) (passes_sound (stands_passes s))).below j (omega arith),
        );
      }

  -- it is the only one with nothing behind it
  pub last_only : (e : List ℕ) → StandsAt A n e → ((z : List ℕ) → StandsAfter A e z → ⊥) → e ≡ run 0 n
  last_only e s none = before_total e (run 0 n)
      (before_not e (run 0 n) (λ b. none (run 0 n) (record { stands = run_stands.stands; long = run_stands.long ∙ sym s.long; greater = b })))
      (before_not (run 0 n) e (λ b. run_last e (record { stands = s.stands; long = s.long ∙ sym run_stands.long; greater = b })))

  -- the first array is the head of the listing
  pub first_head : (f : List ℕ) → First A n f → f ≡ head (listing (standing A) n [])
  unfolding First
  first_head f h = least_one h (head_first A n (listing (standing A) n []) (stands_lists A pos n) (run 0 n) run_stands)

  -- what the listing has behind e starts with the next array, and is nothing exactly where there is none
  module _ (e : List ℕ) (s : StandsAt A n e) where
    abbrev L : List (List ℕ)
    L = listing (standing A) n []

    pub next_head : (f : List ℕ) → Next A e f → (M : List (List ℕ)) × (behind e L ≡ f ∷ M)
    unfolding Next
    next_head f h = go (behind e (listing (standing A) n [])) refl
      where
        go : (B : List (List ℕ)) → behind e (listing (standing A) n []) ≡ B → (M : List (List ℕ)) × (B ≡ f ∷ M)
        go [] b = absurd (behind_last A n (listing (standing A) n []) (stands_lists A pos n) e s b f h.is)
        go (g ∷ M) b = (M, ap (λ (x : List ℕ). x ∷ M) (least_one (behind_next A n (listing (standing A) n []) (stands_lists A pos n) e s g M b) h))

    pub last_none : ((z : List ℕ) → StandsAfter A e z → ⊥) → behind e L ≡ []
    unfolding Next
    last_none none = go (behind e (listing (standing A) n [])) refl
      where
        go : (B : List (List ℕ)) → behind e (listing (standing A) n []) ≡ B → B ≡ []
        go [] b = refl
        go (g ∷ M) b = absurd (none g (behind_next A n (listing (standing A) n []) (stands_lists A pos n) e s g M b).is)
