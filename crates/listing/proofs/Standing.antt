-- The standing arrays as a set: first, next and the walk in their own words. Assumes nothing.
use mathlib.Core.Path.{◌≡◌}
use mathlib.Core.List.{List, [], ◌∷◌}
use Prim.Native.Nat.{ℕ}
use Rattle.words.specs.Stand.{Stands}
use Rattle.words.specs.Least.{Least}
use Rattle.words.specs.Listing.{StandsAt, StandsAfter, First, Next, head, behind}
use Rattle.listing.specs.Sets.{Sized, After, Lists, Stepping}
use Rattle.words.proofs.Order.{least_alike}
use Rattle.listing.proofs.Walk.{head_least, behind_least, behind_none}

module _ (A : ℕ) where
  pub at_sized : {n : ℕ} {f : List ℕ} → StandsAt A n f → Sized (Stands A) n f
  at_sized s = record { is = s.stands; long = s.long }

  pub after_stands : {e f : List ℕ} → StandsAfter A e f → After (Stands A) e f
  after_stands s = record { is = s.stands; long = s.long; greater = s.greater }

  pub stands_after : {e f : List ℕ} → After (Stands A) e f → StandsAfter A e f
  stands_after s = record { stands = s.is; long = s.long; greater = s.greater }

  pub first_least : (n : ℕ) (f : List ℕ) → First A n f → Least (Sized (Stands A) n) f
  unfolding First
  first_least n f = least_alike (λ z s. at_sized s) (λ z s. record { stands = s.is; long = s.long })

  pub least_first : (n : ℕ) (f : List ℕ) → Least (Sized (Stands A) n) f → First A n f
  unfolding First
  least_first n f = least_alike (λ z s. record { stands = s.is; long = s.long }) (λ z s. at_sized s)

  pub next_least : (e f : List ℕ) → Next A e f → Least (After (Stands A) e) f
  unfolding Next
  next_least e f = least_alike (λ z s. after_stands s) (λ z s. stands_after s)

  pub least_next : (e f : List ℕ) → Least (After (Stands A) e) f → Next A e f
  unfolding Next
  least_next e f = least_alike (λ z s. stands_after s) (λ z s. after_stands s)

  -- the rules: the head of the list, and what it has behind e
  module _ (n : ℕ) (L : List (List ℕ)) (s : Lists (Stands A) n L) (e : List ℕ) (h : StandsAt A n e) where
    pub head_first : First A n (head L)
    head_first = least_first n (head L) (head_least (at_sized h) L s)

    pub behind_next : (f : List ℕ) (M : List (List ℕ)) → behind e L ≡ f ∷ M → Next A e f
    behind_next f M b = least_next e f (behind_least (at_sized h) L s f M b)

    pub behind_last : behind e L ≡ [] → (z : List ℕ) → StandsAfter A e z → ⊥
    behind_last b z a = behind_none (at_sized h) L s b z (after_stands a)

  -- the steps to the next
  pub stepping : (n : ℕ) → Stepping (Stands A) n (Next A) (λ x. (z : List ℕ) → StandsAfter A x z → ⊥)
  stepping n = record {
    sound = λ x y h r. next_least x y r;
    whole = λ x y h r. least_next x y r;
    last = λ x h none z a. none z (stands_after a);
    stops = λ x h none z a. none z (after_stands a);
  }
