-- What judging says, where it ends. Assumes nothing.
use mathlib.Core.Path.{◌≡◌, sym, ap, ◌∙◌}
use mathlib.Core.List.{List}
use Rattle.std.specs.Prelude.{Result, Ok, Err}
use Prim.Native.Nat.{ℕ, suc, ◌≤◌, ◌<◌}
use native.Mathlib.Omega.{arith}
use lib.ListN.{length, take}
use lib.Seq.{length-take-le}
use Rattle.words.specs.Lists.{at}
use Rattle.words.specs.Rows.{Alike}
use Rattle.words.specs.Numbers.{DONE, limit}
use Rattle.words.specs.declared.Refusal.{Refusal}
use Rattle.words.specs.Refusals.{outcome}
use Rattle.words.proofs.Refusals.{reason_some}
use Rattle.words.specs.Stand.{weighed}
use Rattle.words.proofs.Rows.{alike_part, alike_take}
use Rattle.arrays.specs.Steps.{Passes}
use Rattle.arrays.proofs.Rules.{passes_sound, passes_part, sound_small}
use Rattle.arrays.proofs.Alike.{weighed_alike, passes_alike}
use Rattle.arrays.proofs.Places.{passes_verdict, verdict_bad}
use Rattle.judging.specs.Judging.{Passed, Judges}

pub judges_passes : (A : ℕ) (t : List ℕ) (n : ℕ) {T : Type 0} (r : Result T Refusal) → Judges A t n r → (outcome r).0 ≡ DONE → Passes A (at t) n
judges_passes A t n r j z = j.passes z

-- the ways out of judging, where the first i places of the table pass
module _ {A : ℕ} (t : List ℕ) {i : ℕ} (passes : Passes A (at t) i) (n : ℕ) (small : n ≤ limit) (full : length t ≡ limit) where
  long : length (take n t) ≡ n
  long = length-take-le n t (omega arith)

  pub judged_all : {T : Type 0} (x : T) → n ≤ i → Judges A t n (Ok x)
  judged_all x h = let p = passes_part n h passes in record {
    says = sym (passes_verdict A (take n t) (rw long (passes_alike (alike_take t n) p)));
    passes = λ z. p;
  }

  pub judged_stuck : {T : Type 0} (why : Refusal) → Passed A (at t) i n (Err why) → Judges A t n {T = T} (Err why)
  judged_stuck why (h, is) = record {
    says = is ∙ rw (same h) (sym (verdict_bad A (take n t) i (passes_alike (part (omega arith)) passes) (omega (arith, long))
        (λ z. reason_some why.reason (ap (λ (q : ℕ × ℕ). q.0) is ∙ same h ∙ z))));
    passes = λ z. absurd (reason_some why.reason z);
  }
    where
      part : i ≤ n → Alike (at t) (at (take n t)) i
      part h = alike_part i h (alike_take t n)

      same : i < n → weighed A (at t) i (at t (suc i)) ≡ weighed A (at (take n t)) i (at (take n t) (suc i))
      same h = weighed_alike A i (at t (suc i)) (part (omega arith)) (sound_small i (passes_sound passes)) ∙ ap (weighed A (at (take n t)) i) ((alike_take t n).same i h)
