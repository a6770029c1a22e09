-- The step rules taken place by place. Assumes nothing: these are definitions.
use Rattle.std.specs.Prelude.{◌≡◌, true, ◌⊎◌, List, ℕ, zero, suc, ◌+◌, ◌-◌, ◌≤◌, ◌<◌, length, take}
use Rattle.words.specs.Lists.{at}
use Rattle.words.specs.Numbers.{DONE, IMPOSSIBLE, HIDDEN, FULL, first_letter}
use Rattle.words.specs.Stand.{Stands, possible, hidden, opens, weight, weighed, verdict}
use Rattle.words.proofs.Lists.{In}

-- each of the first n values stands behind those before it, over A
pub record Passes (A : ℕ) (E : ℕ → ℕ) (n : ℕ) : Type 0 where
  pub step : (i : ℕ) → i < n → weighed A E i (E (suc i)) ≡ DONE

-- the same over some A: what is possible, hidden or open does not depend on it
pub record Sound (E : ℕ → ℕ) (n : ℕ) : Type 0 where
  pub over : ℕ
  pub passes : Passes over E n

-- the greatest value behind the first n places: zero at the first place, and behind it one more than the echo before
unfoldable pub peak : (ℕ → ℕ) → ℕ → ℕ
peak E zero = 0
peak E (suc n) = suc (E (suc n))

-- a walk along the chain to m goes on from r as from the echo of b
pub record Slides (E : ℕ → ℕ) (b m r : ℕ) : Type 0 where
  pub below : r < b
  pub weighs : weight E (E b) m ≡ weight E r m

-- the table t holds the array e: its first entries are e's echoes
pub record Holds (t e : List ℕ) : Type 0 where
  pub array : take (length e) t ≡ e

-- the first n cards are of the A letters
pub record Inside (A : ℕ) (X : ℕ → ℕ) (n : ℕ) : Type 0 where
  pub letter : (i : ℕ) → i < n → (first_letter ≤ X (suc i)) × (X (suc i) < first_letter + A)

-- place i + 1 of X has the echo that E says, where the places before it have: an echo above 0 is a possible value with the place's own card, and no
-- possible value with that card is greater
pub record Step (X E : ℕ → ℕ) (i : ℕ) : Type 0 where
  pub hit : 0 < E (suc i) → (0 < i) × In (E (suc i)) (possible E (E i)) × (X (E (suc i)) ≡ X (suc i))
  pub most : 0 < i → (m : ℕ) → In m (possible E (E i)) → X m ≡ X (suc i) → m ≤ E (suc i)

-- the first n places of X have the echoes E
pub record Echoing (X E : ℕ → ℕ) (n : ℕ) : Type 0 where
  pub step : (i : ℕ) → i < n → Step X E i

-- m is possible behind the first n places: 0, or c + 1 for a c on the chain of the place before
unfoldable pub Possible : (ℕ → ℕ) → ℕ → ℕ → Type 0
Possible E n m = (m ≡ 0) ⊎ ((0 < n) × In m (possible E (E n)))

-- why the value m behind the first n places has the number w, in the table's words: it stands as zero at the first place, as zero where fewer than A
-- values are open, or as an open value; else it is not possible, or possible and hidden, or zero with no fewer than A values open
pub data Reason (A : ℕ) (E : ℕ → ℕ) (n m : ℕ) : ℕ → Type 0 where
  first : n ≡ 0 → m ≡ 0 → Reason A E n m DONE
  room : 0 < n → m ≡ 0 → length (opens E (E n)) < A → Reason A E n m DONE
  shows : 0 < n → In m (opens E (E n)) → Reason A E n m DONE
  impossible : (Possible E n m → ⊥) → Reason A E n m IMPOSSIBLE
  hides : 0 < m → Possible E n m → hidden E (E n) m ≡ true → Reason A E n m HIDDEN
  full : 0 < n → m ≡ 0 → A ≤ length (opens E (E n)) → Reason A E n m FULL

-- the verdict names the first place whose value does not stand behind those before it, with its number
pub record Bad (A : ℕ) (e : List ℕ) : Type 0 where
  pub behind : ℕ
  pub within : behind < length e
  pub passes : Passes A (at e) behind
  pub bad : weighed A (at e) behind (at e (suc behind)) ≡ DONE → ⊥
  pub says : verdict A e ≡ (weighed A (at e) behind (at e (suc behind)), suc behind)

-- p is the first bad place of e over A, and w the number of its value: the places before it stand, and with it they do not
pub record Breaks (A : ℕ) (e : List ℕ) (w p : ℕ) : Type 0 where
  pub place : 0 < p
  pub within : p ≤ length e
  pub before : Stands A (take (p - 1) e)
  pub breaks : Stands A (take p e) → ⊥
  pub reason : Reason A (at e) (p - 1) (at e p) w
  pub refused : w ≡ DONE → ⊥
