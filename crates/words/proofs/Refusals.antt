-- Refusals: no reason has the number of what is done, so that a Result is Ok exactly if its number is DONE. Assumes nothing.
use mathlib.Core.Path.{◌≡◌, refl, sym, ◌∙◌}
use mathlib.Core.Bool.{Bool, true, false}
use mathlib.Core.List.{List, [], ◌∷◌}
use Prim.Native.Nat.{ℕ}
use native.Mathlib.Omega.{arith}
use Rattle.std.specs.Prelude.{Result, Ok, Err}
use Rattle.std.specs.Result.{is_ok}
use Rattle.words.specs.declared.Reason.{Reason}
use Rattle.words.specs.declared.Reason.TheVariants.{Alphabet, Long, Mismatch, Card, Impossible, Hidden, Full, Room, Last, Differs}
use Rattle.words.specs.declared.Refusal.{Refusal}
use Rattle.words.specs.Numbers.{DONE, refusal}
use Rattle.words.specs.Refusals.{number_of, refused, numbered}
use Rattle.words.proofs.Checks.{named_none, named_place, unless_good, unless_not, refusal_stop, refusal_on, letter_below, letter_test, outside_start, outside_more, cards_here, cards_none}

-- no reason has the number of what is done
pub reason_some : (why : Reason) → number_of why ≡ DONE → ⊥
reason_some Alphabet e = omega arith
reason_some Long e = omega arith
reason_some Mismatch e = omega arith
reason_some Card e = omega arith
reason_some Impossible e = omega arith
reason_some Hidden e = omega arith
reason_some Full e = omega arith
reason_some Room e = omega arith
reason_some Last e = omega arith
reason_some Differs e = omega arith

-- r has the number w, and b says whether it is Ok
pub ok_done : {T : Type 0} (r : Result T Reason) (w : ℕ) (b : Bool) → numbered r ≡ w → b ≡ is_ok r → b ≡ true → w ≡ DONE
ok_done (Ok x) w b n is t = sym n
ok_done (Err why) w b n is t = cc

pub err_some : {T : Type 0} (r : Result T Reason) (w : ℕ) (b : Bool) → numbered r ≡ w → b ≡ is_ok r → b ≡ false → w ≡ DONE → ⊥
err_some (Ok x) w b n is f e = cc
err_some (Err why) w b n is f e = reason_some why (n ∙ e)

-- a check that refuses is the answer; one that is done hands on to those behind it
pub stops : (c d : ℕ × ℕ) (l : List (ℕ × ℕ)) (r : Refusal) → refused r ≡ c → refused r ≡ refusal (c ∷ d ∷ l)
stops c d l r e = refusal_stop c d (refused r) l e (reason_some r.reason)

pub goes_on : (c d s : ℕ × ℕ) (l : List (ℕ × ℕ)) → (DONE, 0) ≡ c → s ≡ refusal (d ∷ l) → s ≡ refusal (c ∷ d ∷ l)
goes_on c d s l e q = refusal_on c d (DONE, 0) s l e refl q

pub goes_last : (c d s : ℕ × ℕ) → (DONE, 0) ≡ c → s ≡ d → s ≡ refusal (c ∷ d ∷ [])
unfolding refusal
goes_last c d s e q = goes_on c d s [] e q

-- what a check needs: the first that refuses is the answer, and each gives its number exactly where its table says so
pub ruleset check_steps = (stops, goes_on, goes_last, named_none, named_place, unless_good, unless_not, letter_below, letter_test, outside_start, outside_more, cards_here, cards_none)
