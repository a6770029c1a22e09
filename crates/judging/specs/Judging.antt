-- What judging says of an array in a table, and what it knows on its way. Assumes nothing: these are definitions.
use Rattle.std.specs.Prelude.{◌≡◌, Bool, true, List, ℕ, suc, ◌+◌, ◌*◌, ◌≤◌, ◌<◌, length, take, get_or, Result, Ok, Err}
use Rattle.words.specs.Lists.{at}
use Rattle.words.specs.Numbers.{DONE}
use Rattle.words.specs.declared.Refusal.{Refusal}
use Rattle.words.specs.Refusals.{refused, outcome}
use Rattle.words.specs.Stand.{weighed, verdict}
use Rattle.arrays.specs.Steps.{Passes, peak}

-- what judging the first n entries of the table t says: it is the verdict on that array, and where nothing is refused its values pass
pub record Judges (A : ℕ) (t : List ℕ) (n : ℕ) {T : Type 0} (r : Result T Refusal) : Type 0 where
  pub says : outcome r ≡ verdict A (take n t)
  pub passes : (outcome r).0 ≡ DONE → Passes A (at t) n

-- from place i to place n each echo is one more than the echo before
pub record Climbs (E : ℕ → ℕ) (i n : ℕ) : Type 0 where
  pub more : (k : ℕ) → i ≤ k → k < n → E (suc k) ≡ suc (E k)

-- where s is true, the k places behind the first i have the echoes top, top + 1 and so on
pub record Level (E : ℕ → ℕ) (i k top : ℕ) (s : Bool) : Type 0 where
  pub are : s ≡ true → (j : ℕ) → j < k → E (suc (i + j)) ≡ top + j

-- where s is true, the echoes of the k places from place i on are below 15
pub record Low (E : ℕ → ℕ) (i k : ℕ) (s : Bool) : Type 0 where
  pub below : s ≡ true → (j : ℕ) → j < k → E (i + j) < 15

-- a table of pairs that stood: where the entry of a pair p, m of small values is 0, the value m stands wherever p is the greatest
pub record Stood (A : ℕ) (E : ℕ → ℕ) (f : List ℕ) : Type 0 where
  pub long : length f ≡ 256
  pub again : (p m : ℕ) → p < 16 → m < 16 → get_or f (16 * p + m) 0 ≡ 0 → (i : ℕ) → peak E i ≡ p → weighed A E i m ≡ DONE

-- where s is true, the k places behind the first i pass by the table f alone
pub record Known (E : ℕ → ℕ) (f : List ℕ) (i k : ℕ) (s : Bool) : Type 0 where
  pub pass : s ≡ true → (A : ℕ) → Stood A E f → Passes A E i → Passes A E (i + k)

-- from place i to place r, of n, the places pass by the table f alone
pub record Skims (E : ℕ → ℕ) (f : List ℕ) (i n r : ℕ) : Type 0 where
  pub from : i ≤ r
  pub within : r ≤ n
  pub pass : (A : ℕ) → Stood A E f → Passes A E i → Passes A E r

-- going on from the first i places, which pass, of n: the first p pass, or the next value is refused, at its place by its number
abbrev pub Passed : (A : ℕ) (E : ℕ → ℕ) (i n : ℕ) → Result ℕ Refusal → Type 0
Passed A E i n (Ok p) = (i < p) × (p ≤ n) × Passes A E p
Passed A E i n (Err r) = (i < n) × (refused r ≡ (weighed A E i (E (suc i)), suc i))
