-- The listing over runs of the entries, from their contracts alone: a run of `first` that answers 0, then runs of `next`, each on the array that the one
-- before it left, visit the listing in order, each array once; when one answers 9 they have visited all of it, as many arrays as `count` counts. Assumes nothing.
use mathlib.Core.Path.{◌≡◌, sym, ap, subst, ◌∙◌}
use mathlib.Core.Logic.{◌⊎◌, inl, inr}
use mathlib.Core.List.{List, []}
use Prim.Native.Nat.{ℕ, ◌<◌}
use native.Mathlib.Omega.{arith}
use lib.ListN.{length}
use Rattle.words.specs.Numbers.{DONE, LAST, sizes}
use Rattle.words.specs.Stand.{Stands}
use Rattle.words.specs.Listing.{standing, listing, count, StandsAfter, First, Next}
use Rattle.words.specs.Outcomes.{Starts, Steps, refuses, breaks, starts, ends, steps}
use Rattle.words.proofs.Checks.{sizes_clear, lent_clear}
use Rattle.words.proofs.Exactly.{steps_last}
use Rattle.arrays.proofs.Places.{verdict_done}
use Rattle.arrays.proofs.Theorem.{verdict_stands}
use Rattle.listing.specs.Sets.{Lists, Trail, Opening}
use Rattle.listing.proofs.Walk.{trail_alike}
use Rattle.listing.proofs.Peak.{steps_visit, steps_open}
use Rattle.corridor.proofs.Runs.{Run}
use Rattle.corridor.proofs.first.Reads as first
use Rattle.corridor.proofs.first.Kinds as first-kinds
use Rattle.corridor.proofs.next.Reads as next
use Rattle.corridor.proofs.next.Kinds as next-kinds

abbrev pub FirstRun : Type 0
FirstRun = Run 1 first-kinds.ps first-kinds.r first.Post

abbrev pub NextRun : Type 0
NextRun = Run 1 next-kinds.ps next-kinds.r next.Post

-- a run of next over A on x answers 0 and leaves y; one answers 9
pub record Goes (A : ℕ) (x y : List ℕ) : Type 0 where
  pub run : NextRun
  pub over : run.args.0 ≡ A
  pub lent : run.args.1.0.now ≡ x
  pub done : run.result.number ≡ DONE
  pub left : run.exit.1.0.now ≡ y

pub record Ends (A : ℕ) (x : List ℕ) : Type 0 where
  pub run : NextRun
  pub over : run.args.0 ≡ A
  pub lent : run.args.1.0.now ≡ x
  pub last : run.result.number ≡ LAST

-- what the contract of next says where the number is 0, and where it is 9
steps_done : (A : ℕ) (e : List ℕ) (n p : ℕ) (new : List ℕ) → Steps A e (n, p) new → n ≡ DONE → Next A e new
steps_done A e n p new (refuses d q k) z = absurd (d z)
steps_done A e n p new (breaks c s q k) z = absurd (s (verdict_stands (sizes_clear A (length e) c).0 e (verdict_done A e n p q z)))
steps_done A e n p new (ends c s m q k) z = absurd (omega (arith, ap (λ (r : ℕ × ℕ). r.0) q))
steps_done A e n p new (steps c s m q) z = m

goes_next : (A : ℕ) (x y : List ℕ) → Goes A x y → Next A x y
goes_next A x y g =
    let r = g.run in
    let s : Next r.args.0 r.args.1.0.now r.exit.1.0.now = steps_done _ _ r.result.number r.result.place _ r.meets g.done in
    subst (λ (B : ℕ). Next B x y) g.over (subst (λ (f : List ℕ). Next r.args.0 f y) g.lent (subst (λ (f : List ℕ). Next r.args.0 r.args.1.0.now f) g.left s))

ends_last : (A : ℕ) (x : List ℕ) → Ends A x → (z : List ℕ) → StandsAfter A x z → ⊥
ends_last A x g =
    let r = g.run in
    let s = ((steps_last r.args.0 r.args.1.0.now (r.result.number, r.result.place) r.exit.1.0.now r.meets).0 g.last).2 in
    subst (λ (B : ℕ). (z : List ℕ) → StandsAfter B x z → ⊥) g.over (subst (λ (f : List ℕ). (z : List ℕ) → StandsAfter r.args.0 f z → ⊥) g.lent s)

-- a run of first that answers 0 is over some letters, and leaves the first array
first_done : (A n : ℕ) (old : List ℕ) (m p : ℕ) (new : List ℕ) → Starts A n old (m, p) new → m ≡ DONE → (0 < A) × First A n new
first_done A n old m p new (refuses d q k) z = absurd (d z)
first_done A n old m p new (starts c f q) z = ((lent_clear A n (length old) c).0, f)

module _ (p : FirstRun) (done : p.result.number ≡ DONE) where
  started : (0 < p.args.0) × First p.args.0 p.args.1.0 p.exit.1.1.0.now
  started = first_done p.args.0 p.args.1.0 p.args.1.1.0.now p.result.number p.result.place p.exit.1.1.0.now p.meets done

  -- as long as the runs go on they visit an opening of the listing
  pub runs_open : {F : List ℕ → Type 0} (T : List (List ℕ)) → Trail (Goes p.args.0) F p.exit.1.1.0.now T
      → Opening (Stands p.args.0) p.args.1.0 F (listing (standing p.args.0) p.args.1.0 []) T
  runs_open T t = steps_open p.args.0 started.0 p.args.1.0 p.exit.1.1.0.now started.1 T (trail_alike (goes_next p.args.0) (λ x e. e) t)

  -- THE theorem: when one answers 9 they have visited all of it, each array once, as many as the count
  pub runs_visit : (T : List (List ℕ)) → Trail (Goes p.args.0) (Ends p.args.0) p.exit.1.1.0.now T
      → (T ≡ listing (standing p.args.0) p.args.1.0 []) × Lists (Stands p.args.0) p.args.1.0 T × (length T ≡ count p.args.0 p.args.1.0)
  runs_visit T t =
      let (v, l, k) = steps_visit p.args.0 started.0 p.args.1.0 p.exit.1.1.0.now started.1 in
      let e = v.one T (trail_alike (goes_next p.args.0) (ends_last p.args.0) t) in
      (e, subst (λ (L : List (List ℕ)). Lists (Stands p.args.0) p.args.1.0 L) (sym e) l, ap length e ∙ sym k)

-- a run of next on an array that stands, within the limits, answers 0 or 9: so the runs go on until one answers 9
pub goes_on : (q : NextRun) → (sizes q.args.0 (length q.args.1.0.now)).0 ≡ DONE → Stands q.args.0 q.args.1.0.now
    → (q.result.number ≡ DONE) ⊎ (q.result.number ≡ LAST)
goes_on q c s = go q.args.0 q.args.1.0.now q.result.number q.result.place q.exit.1.0.now q.meets c s
  where
    go : (A : ℕ) (e : List ℕ) (n p : ℕ) (new : List ℕ) → Steps A e (n, p) new → (sizes A (length e)).0 ≡ DONE → Stands A e → (n ≡ DONE) ⊎ (n ≡ LAST)
    go A e n p new (refuses d q k) c s = absurd (d (ap (λ (r : ℕ × ℕ). r.0) q ∙ c))
    go A e n p new (breaks b m q k) c s = absurd (m s)
    go A e n p new (ends b t m q k) c s = inr (ap (λ (r : ℕ × ℕ). r.0) q)
    go A e n p new (steps b t m q) c s = inl (ap (λ (r : ℕ × ℕ). r.0) q)
