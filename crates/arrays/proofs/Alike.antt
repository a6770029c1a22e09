-- What is possible, hidden and open behind the first n places depends on those places alone. Assumes nothing.
use mathlib.Core.Path.{◌≡◌, refl, ap, ◌∙◌}
use mathlib.Core.Bool.{not}
use Prim.Native.Nat.{ℕ, zero, suc, ◌≤◌, ◌<◌}
use native.Mathlib.Omega.{arith}
use lib.Dec.{ltb, eqb}
use Rattle.words.specs.Lists.{both, each, any, keep}
use Rattle.words.specs.Rows.{Small, Alike}
use Rattle.words.specs.Stand.{possible, hidden, opens, weight, weighed}
use Rattle.words.proofs.Rows.{chain_alike, alike_at, alike_part}
use Rattle.arrays.specs.Steps.{Passes}
use Rattle.words.proofs.Lists.{any_same, keep_same}
use Rattle.arrays.proofs.Rules.{possible_range, passes_sound, passes_part, sound_small}

module _ {E F : ℕ → ℕ} {n : ℕ} (alike : Alike E F n) (small : Small E n) where
  pub possible_alike : (b : ℕ) → b ≤ n → possible E b ≡ possible F b
  unfolding possible
  possible_alike b h = ap (each suc) (chain_alike small alike b h)

  pub behind_alike : (i : ℕ) → 0 < i → i ≤ n → possible E (E i) ≡ possible F (F i)
  behind_alike zero p h = absurd (omega arith)
  behind_alike (suc i) p h = possible_alike (E (suc i)) (omega (arith, small.below i h)) ∙ ap (possible F) (alike.same i h)

  hidden_alike : (b m : ℕ) → b < n → hidden E b m ≡ hidden F b m
  unfolding hidden
  hidden_alike b m h =
      any_same _ (λ k. both (ltb m k) (eqb (F k) m)) (possible E b)
      (λ k i. let r = possible_range small b (omega arith) k i in ap (λ (x : ℕ). both (ltb m k) (eqb x m)) (alike_at alike k r.0 (omega arith)))
      ∙ ap (any (λ k. both (ltb m k) (eqb (F k) m))) (possible_alike b (omega arith))

  pub opens_alike : (b : ℕ) → b < n → opens E b ≡ opens F b
  unfolding opens
  opens_alike b h =
      keep_same _ (λ m. not (hidden F b m)) (possible E b) (λ m i. ap not (hidden_alike b m h))
      ∙ ap (keep (λ m. not (hidden F b m))) (possible_alike b (omega arith))

  weight_alike : (b m : ℕ) → b < n → weight E b m ≡ weight F b m
  unfolding weight
  weight_alike b m h = rw (hidden_alike b m h, possible_alike b (omega arith))

pub weighed_alike : (A : ℕ) {E F : ℕ → ℕ} (n m : ℕ) → Alike E F n → Small E n → weighed A E n m ≡ weighed A F n m
unfolding weighed
weighed_alike A zero zero a s = refl
weighed_alike A zero (suc m) a s = refl
weighed_alike A {E} (suc n) zero a s = let l = s.below n (omega arith) in rw (opens_alike a s (E (suc n)) (omega arith), a.same n (omega arith))
weighed_alike A {E} (suc n) (suc m) a s = let l = s.below n (omega arith) in rw (weight_alike a s (E (suc n)) (suc m) (omega arith), a.same n (omega arith))

pub passes_alike : {A : ℕ} {E F : ℕ → ℕ} {n : ℕ} → Alike E F n → Passes A E n → Passes A F n
passes_alike {A} {E} {F} {n} a p = record {
  step = λ i h.
      let l : i ≤ n = omega arith in
      rw (← weighed_alike A i (F (suc i)) (alike_part i l a) (sound_small i (passes_sound (passes_part i l p))), ← a.same i h) (p.step i h);
}
