-- Sets of arrays: what completes a prefix, a list of a set, the steps through it. A set is any `P : List ℕ → Type 0`, also one where a prefix has no
-- value behind it. Assumes nothing: these are definitions.
use Rattle.std.specs.Prelude.{◌≡◌, Bool, true, ℕ, zero, suc, ◌+◌, ◌*◌, ◌≤◌, ◌<◌, length, take, get_or}
use mathlib.Core.List.{List, [], ◌∷◌, ◌++◌, Memᴰ as Has}
use Rattle.words.specs.Least.{before, Least}

-- c completes p: each of its values is at most the number of places before it, and passes the test behind them
pub record Completes (ok : List ℕ → ℕ → Bool) (p c : List ℕ) : Type 0 where
  pub low : (i : ℕ) → i < length c → get_or c i 0 ≤ length p + i
  pub passes : (i : ℕ) → i < length c → ok (p ++ take i c) (get_or c i 0) ≡ true

-- (i + 1) (i + 2) .. (i + r); n! is spans 0 n
unfoldable pub spans : ℕ → ℕ → ℕ
spans i zero = 1
spans i (suc r) = suc i * spans (suc i) r

-- each array stands before those behind it, so that none comes twice
unfoldable pub Rising : List (List ℕ) → Type 0
Rising [] = Unit
Rising (x ∷ l) = ((y : List ℕ) → Has y l → before x y ≡ true) × Rising l

-- the arrays of P that have n places; those of e's length that are greater than e
pub record Sized (P : List ℕ → Type 0) (n : ℕ) (f : List ℕ) : Type 0 where
  pub is : P f
  pub long : length f ≡ n

pub record After (P : List ℕ → Type 0) (e f : List ℕ) : Type 0 where
  pub is : P f
  pub long : length f ≡ length e
  pub greater : before e f ≡ true

-- L holds the arrays of P that have n places and no other, and rises
pub record Lists (P : List ℕ → Type 0) (n : ℕ) (L : List (List ℕ)) : Type 0 where
  pub only : (x : List ℕ) → Has x L → Sized P n x
  pub all : (x : List ℕ) → Sized P n x → Has x L
  pub rises : Rising L

-- a walk from x on that steps by R until it ends by E: T is what it visits
pub data Trail (R : List ℕ → List ℕ → Type 0) (E : List ℕ → Type 0) : List ℕ → List (List ℕ) → Type 0 where
  ends : {x : List ℕ} → E x → Trail R E x (x ∷ [])
  steps : {x y : List ℕ} {T : List (List ℕ)} → R x y → Trail R E y T → Trail R E x (x ∷ T)

-- among the arrays of P with n places R is the step to the next, the least that is greater, and E says that there is none
pub record Stepping (P : List ℕ → Type 0) (n : ℕ) (R : List ℕ → List ℕ → Type 0) (E : List ℕ → Type 0) : Type 0 where
  pub sound : (x y : List ℕ) → Sized P n x → R x y → Least (After P x) y
  pub whole : (x y : List ℕ) → Sized P n x → Least (After P x) y → R x y
  pub last : (x : List ℕ) → Sized P n x → E x → (z : List ℕ) → After P x z → ⊥
  pub stops : (x : List ℕ) → Sized P n x → ((z : List ℕ) → After P x z → ⊥) → E x

-- from f on one walk ends, and it visits L
pub record Visits (R : List ℕ → List ℕ → Type 0) (E : List ℕ → Type 0) (f : List ℕ) (L : List (List ℕ)) : Type 0 where
  pub trail : Trail R E f L
  pub one : (T : List (List ℕ)) → Trail R E f T → T ≡ L

-- T is an opening of the list L of P: the last array of T ends it by F, and what is left of L lists the arrays that are greater than that one
pub record Opening (P : List ℕ → Type 0) (n : ℕ) (F : List ℕ → Type 0) (L T : List (List ℕ)) : Type 0 where
  pub last : List ℕ
  pub rest : List (List ℕ)
  pub split : L ≡ T ++ rest
  pub is : Sized P n last
  pub ends : F last
  pub behind : Lists (After P last) n rest
