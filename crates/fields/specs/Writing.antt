-- Texts written into a lent buffer. Assumes nothing: these are definitions.
use Rattle.std.specs.Prelude.{◌≡◌, List, ◌++◌, ℕ, ◌≤◌, length, drop}

-- the text t was put at the start of old, which gave new, and counted r bytes: the contract of every writer
pub record Put (t old new : List ℕ) (r : ℕ) : Type 0 where
  pub count : r ≡ length t
  pub within : r ≤ length old
  pub long : length new ≡ length old
  pub text : new ≡ t ++ drop r old

-- of the whole text a first part was put at the start of old, r bytes of it, and the rest is still to come: where a loop of writers stands
pub record Begun (whole rest old new : List ℕ) (r : ℕ) : Type 0 where
  pub done : List ℕ
  pub split : whole ≡ done ++ rest
  pub put : Put done old new r
