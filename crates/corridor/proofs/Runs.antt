-- A run of an entry: its arguments, its result and what is lent at exit, which meet its contract. Nothing else is known of it. Assumes nothing.
use mathlib.Core.List.{List}
use Prim.Native.Nat.{ℕ}
use borrow.Fn.Kinds.{ParamKind, ResultKind, Out, Dens, res_t, ended_of}
use contract.Lifetimes.{Lfts}
use denote.Triple.Clauses.{AtExit}

pub record Run (n : ℕ) (ps : List (ParamKind n)) (r : ResultKind n) (post : Out n ps r) : Type 0 where
  pub lives : Lfts n
  pub args : Dens lives ps
  pub result : (res_t r lives).Denot
  pub exit : AtExit (ended_of n ps r) lives
  pub meets : post lives args result exit
