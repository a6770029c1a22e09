-- Judging, rebuilding and stepping in the demand's words, in the code's own terms: a lemma for each way out. Assumes nothing.
use mathlib.Core.Path.{◌≡◌, refl, sym, ap, subst, ◌∙◌}
use mathlib.Core.Bool.{Bool, true, false}
use mathlib.Core.List.{List}
use Prim.Native.Nat.{ℕ, ◌≤◌, ◌<◌}
use native.Mathlib.Omega.{arith}
use lib.ListN.{length, take}
use Rattle.words.specs.Lists.{at}
use Rattle.words.specs.Numbers.{DONE, LAST, letters, limit, sizes, lent}
use Rattle.words.specs.Stand.{Stands, verdict}
use Rattle.words.specs.Least.{LeastRow, rebuilt}
use Rattle.words.specs.Listing.{First, Next}
use Rattle.words.specs.Outcomes.{Rebuilds, Steps, breaks, rebuilds, ends, steps}
use Rattle.std.specs.Prelude.{Result, Ok, Err}
use Rattle.words.specs.declared.Refusal.{Refusal}
use Rattle.words.specs.declared.Reason.TheVariants.{Last}
use Rattle.words.specs.Refusals.{number_of, refused, outcome}
use Rattle.words.proofs.Lists.{not_both}
use Rattle.words.proofs.Refusals.{reason_some}
use Rattle.words.proofs.Checks.{sizes_clear, lent_clear}
use Rattle.words.proofs.Rows.{alike_take}
use Rattle.arrays.specs.Steps.{Holds, Passes}
use Rattle.judging.specs.Judging.{Judges}
use Rattle.judging.proofs.Judged.{judges_passes}
use Rattle.arrays.proofs.Rules.{passes_sound, sound_small}
use Rattle.arrays.proofs.Places.{verdict_done}
use Rattle.rebuilding.proofs.Writing.{rebuilt_alike}
use Rattle.arrays.proofs.Theorem.{stands_verdict, verdict_stands, rebuilt_least}
use Rattle.listing.specs.Values.{Stepped, stepped, ended}

module _ {A : ℕ} {e : List ℕ} {w q : ℕ} (judged : (w, q) ≡ verdict A e) where
  -- an array whose number is not 0 does not stand; one whose number is 0 does
  not_standing : (w ≡ DONE → ⊥) → Stands A e → ⊥
  not_standing d s = d (ap (λ (r : ℕ × ℕ). r.0) (judged ∙ stands_verdict s))

  standing : 0 < A → w ≡ DONE → Stands A e
  standing a z = verdict_stands a e (verdict_done A e w q judged z)

-- an array that is not refused has the number 0, and its values pass
done : {r : Result (Unit {0}) Refusal} {u : Unit {0}} → r ≡ Ok u → (outcome r).0 ≡ DONE
done e = ap (λ (s : Result (Unit {0}) Refusal). (outcome s).0) e

pub fine_passes : (A : ℕ) (t : List ℕ) (n : ℕ) (r : Result (Unit {0}) Refusal) (u : Unit {0}) → Judges A t n r → r ≡ Ok u → Passes A (at t) n
fine_passes A t n r u judged fine = judges_passes A t n r judged (done fine)

-- an array held in a table is judged there
pub held_verdict : (A : ℕ) (e t : List ℕ) (r : Result (Unit {0}) Refusal) → Holds t e → Judges A t (length e) r → outcome r ≡ verdict A e
held_verdict A e t r held judged = judged.says ∙ ap (verdict A) held.array

-- rebuilding, where no check refuses
module _ (A : ℕ) (e old : List ℕ) (clear : (lent A (length e) (length old)).0 ≡ DONE) where
  pub rebuild_within : length e ≤ limit
  rebuild_within = (lent_clear A (length e) (length old) clear).2

  pub rebuild_letters : A ≤ letters
  rebuild_letters = (lent_clear A (length e) (length old) clear).1

  matches : length old ≡ length e
  matches = (lent_clear A (length e) (length old) clear).3

  pub rebuild_room : length old ≤ limit
  rebuild_room = omega (arith, matches, rebuild_within)

  module _ (t : List ℕ) (held : Holds t e) where
    says : (r : Result (Unit {0}) Refusal) → Judges A t (length old) r → outcome r ≡ verdict A e
    says r judged = held_verdict A e t r held (subst (λ (k : ℕ). Judges A t k r) matches judged)

    pub rebuild_breaks : (x : Refusal) → Judges A t (length old) {T = Unit {0}} (Err x) → Rebuilds A e old (refused x) old
    rebuild_breaks x judged = breaks clear (not_standing (says (Err x) judged) (reason_some x.reason)) (says (Err x) judged) refl

    module _ (r : Result (Unit {0}) Refusal) (u : Unit {0}) (judged : Judges A t (length old) r) (fine : r ≡ Ok u) where
      same : rebuilt (at t) (length old) ≡ rebuilt (at e) (length e)
      same = rebuilt_alike (length old) (sound_small (length old) (passes_sound (fine_passes A t (length old) r u judged fine))) (alike_take t (length old))
          ∙ ap (λ (k : ℕ). rebuilt (at (take k t)) k) matches ∙ ap (λ (f : List ℕ). rebuilt (at f) (length e)) held.array

      pub rebuild_least : (new : List ℕ) → new ≡ rebuilt (at t) (length old) → Rebuilds A e old (DONE, 0) new
      unfolding LeastRow
      rebuild_least new h =
          let a = (lent_clear A (length e) (length old) clear).0 in
          rebuilds clear (subst (λ (x : List ℕ). LeastRow A e x) (sym (h ∙ same)) (rebuilt_least a (standing (says r judged) a (done fine)))) refl

-- the first array of a length
module _ (A n : ℕ) (old : List ℕ) (clear : (lent A n (length old)).0 ≡ DONE) where
  pub first_letters : 0 < A
  first_letters = (lent_clear A n (length old) clear).0

  pub first_within : n ≤ limit
  first_within = (lent_clear A n (length old) clear).2

  pub first_room : length old ≤ limit
  first_room = let c = lent_clear A n (length old) clear in omega arith

  pub first_least : (new t : List ℕ) → First A n (take n t) → new ≡ take (length old) t → First A n new
  first_least new t f h =
      let m : length old ≡ n = (lent_clear A n (length old) clear).3 in
      subst (λ (x : List ℕ). First A n x) (sym (h ∙ ap (λ (k : ℕ). take k t) m)) f

-- the next array
module _ (A : ℕ) (e : List ℕ) (clear : (sizes A (length e)).0 ≡ DONE) where
  pub next_letters : 0 < A
  next_letters = (sizes_clear A (length e) clear).0

  pub next_within : length e ≤ limit
  next_within = (sizes_clear A (length e) clear).2

  module _ (t : List ℕ) (held : Holds t e) where
    pub next_breaks : (x : Refusal) → Judges A t (length e) {T = Unit {0}} (Err x) → Steps A e (refused x) e
    next_breaks x judged = let says = held_verdict A e t (Err x) held judged in breaks clear (not_standing says (reason_some x.reason)) says refl

    module _ (r : Result (Unit {0}) Refusal) (u : Unit {0}) (judged : Judges A t (length e) r) (fine : r ≡ Ok u) where
      stands : Stands A e
      stands = standing (held_verdict A e t r held judged) next_letters (done fine)

      module _ (v : List ℕ) (s : Bool) (step : Stepped A (take (length e) t) (take (length e) v) s) where
        pub next_steps : (new : List ℕ) → s ≡ true → new ≡ take (length e) v → Steps A e (DONE, 0) new
        next_steps new y h = go (subst (λ (f : List ℕ). Stepped A f (take (length e) v) s) held.array step)
          where
            go : Stepped A e (take (length e) v) s → Steps A e (DONE, 0) new
            go (stepped r f) = steps clear stands (subst (λ (x : List ℕ). Next A e x) (sym h) f) refl
            go (ended r f k) = absurd (not_both y r)

        pub next_ends : (x : Refusal) → s ≡ false → x.reason ≡ Last → x.place ≡ 0 → Steps A e (refused x) e
        next_ends x y w z = subst (λ (q : ℕ × ℕ). Steps A e q e) (sym (told x w z)) (go (subst (λ (f : List ℕ). Stepped A f (take (length e) v) s) held.array step))
          where
            told : (x : Refusal) → x.reason ≡ Last → x.place ≡ 0 → refused x ≡ (LAST, 0)
            told x w z = rw (ap number_of w) (rw z)

            go : Stepped A e (take (length e) v) s → Steps A e (LAST, 0) e
            go (stepped r f) = absurd (not_both r y)
            go (ended r f k) = ends clear stands f refl refl

-- what the check needs beside the answers
pub ruleset held_steps = (fine_passes, held_verdict, rebuild_within, rebuild_letters, rebuild_room, rebuild_breaks, first_letters, first_within, first_room, first_least, next_letters, next_within, next_breaks)
