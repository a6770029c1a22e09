-- Lists, tests and places: the plain words that the others are made of. Places are numbered from 1.
-- Assumes nothing: these are definitions.
use Rattle.std.specs.Prelude.{Bool, true, false, cond, List, [], ◌∷◌, ◌++◌, ℕ, zero, suc, ◌+◌, eqb, get_or, set}

-- both tests pass
unfoldable pub both : Bool → Bool → Bool
both true b = b
both false b = false

-- f of each member
unfoldable pub each : {S T : Type 0} → (S → T) → List S → List T
each f [] = []
each f (x ∷ l) = f x ∷ each f l

-- some member passes the test
unfoldable pub any : (ℕ → Bool) → List ℕ → Bool
any p [] = false
any p (x ∷ l) = let r = any p l in cond (p x) true r

-- every member passes the test
unfoldable pub every : {T : Type 0} → (T → Bool) → List T → Bool
every p [] = true
every p (x ∷ l) = let r = every p l in cond (p x) r false

-- the members that pass the test
unfoldable pub keep : (ℕ → Bool) → List ℕ → List ℕ
keep p [] = []
keep p (x ∷ l) = let r = keep p l in let with = x ∷ r in cond (p x) with r

-- the first member that passes the test; 0 where none does
unfoldable pub first_of : (ℕ → Bool) → List ℕ → ℕ
first_of p [] = 0
first_of p (x ∷ l) = let r = first_of p l in cond (p x) x r

-- the greatest number below n that passes the test; 0 where none does
unfoldable pub greatest : (ℕ → Bool) → ℕ → ℕ
greatest p zero = 0
greatest p (suc k) = let r = greatest p k in cond (p k) k r

-- the members of all the lists, in order
unfoldable pub joined : {T : Type 0} → List (List T) → List T
joined [] = []
joined (x ∷ l) = x ++ joined l

-- the sum of the members
unfoldable pub sum : List ℕ → ℕ
sum [] = 0
sum (x ∷ l) = x + sum l

-- the two lists have the same members in the same order
unfoldable pub equal : List ℕ → List ℕ → Bool
equal [] [] = true
equal [] (b ∷ y) = false
equal (a ∷ x) [] = false
equal (a ∷ x) (b ∷ y) = let r = equal x y in cond (eqb a b) r false

-- n numbers from c on, rising
unfoldable pub run : ℕ → ℕ → List ℕ
run c zero = []
run c (suc n) = c ∷ run (suc c) n

-- the places of a row of n cards: 1 to n
unfoldable pub places : ℕ → List ℕ
places n = run 1 n

-- the numbers below n, falling to 0
unfoldable pub falling : ℕ → List ℕ
falling zero = []
falling (suc n) = n ∷ falling n

-- what stands at place i of a list; 0 at place 0 and behind the end
unfoldable pub at : List ℕ → ℕ → ℕ
at l zero = 0
at l (suc j) = get_or l j 0

-- the list with v at place i
unfoldable pub placed : List ℕ → ℕ → ℕ → List ℕ
placed l zero v = l
placed l (suc j) v = set l j v
