-- Listing and counting the arrays of a length, over any test `ok`: `ok p m` says whether the value m may stand behind the prefix p. A value is at
-- most the number of places before it. Assumes nothing: these are definitions.
use Rattle.std.specs.Prelude.{◌≡◌, Bool, true, cond, List, [], ◌∷◌, ◌++◌, ℕ, zero, suc, eqb, length}
use Rattle.words.specs.Lists.{each, keep, joined, sum, equal, run, at}
use Rattle.words.specs.Numbers.{DONE}
use Rattle.words.specs.Stand.{Stands, weighed}
use Rattle.words.specs.Least.{before, Least}

-- the prefix p with the value m behind it
unfoldable pub more : List ℕ → ℕ → List ℕ
more p m = p ++ (m ∷ [])

-- the values that may stand behind p, rising
unfoldable pub values : (List ℕ → ℕ → Bool) → List ℕ → List ℕ
values ok p = keep (ok p) (run 0 (suc (length p)))

-- all that completes p by r more places, in dictionary order
unfoldable pub listing : (List ℕ → ℕ → Bool) → ℕ → List ℕ → List (List ℕ)
listing ok zero p = [] ∷ []
listing ok (suc r) p = joined (each (λ m. each (λ c. m ∷ c) (listing ok r (more p m))) (values ok p))

-- the count of a prefix is the sum of the counts of its accepted extensions; a prefix of full length counts 1
unfoldable pub count_from : (List ℕ → ℕ → Bool) → ℕ → List ℕ → ℕ
count_from ok zero p = 1
count_from ok (suc r) p = sum (each (λ m. count_from ok r (more p m)) (values ok p))

-- the test for the standing arrays over A, by the step rules
unfoldable pub standing : ℕ → List ℕ → ℕ → Bool
standing A p m = eqb (weighed A (at p) (length p) m) DONE

-- how many arrays of n places stand over A
unfoldable pub count : ℕ → ℕ → ℕ
count A n = count_from (standing A) n []

-- the arrays of n places that stand over A; those of e's length that are greater than e
pub record StandsAt (A n : ℕ) (f : List ℕ) : Type 0 where
  pub stands : Stands A f
  pub long : length f ≡ n

pub record StandsAfter (A : ℕ) (e f : List ℕ) : Type 0 where
  pub stands : Stands A f
  pub long : length f ≡ length e
  pub greater : before e f ≡ true

-- the first array of a length is the least standing one; the next is the least standing one of the same length that is greater
unfoldable pub First : ℕ → ℕ → List ℕ → Type 0
First A n f = Least (StandsAt A n) f

unfoldable pub Next : ℕ → List ℕ → List ℕ → Type 0
Next A e f = Least (StandsAfter A e) f

-- the rule: the head of a list of arrays, and what it has behind e
unfoldable pub head : List (List ℕ) → List ℕ
head [] = []
head (f ∷ l) = f

unfoldable pub behind : List ℕ → List (List ℕ) → List (List ℕ)
behind e [] = []
behind e (f ∷ l) = let r = behind e l in cond (equal e f) l r
