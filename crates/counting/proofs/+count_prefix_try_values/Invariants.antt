-- The cycle of calls {count_prefix, try_values}: one lemma of `Counting` for each way out. What falls: the rest of the length, then the value.
use Prim.Native.Nat.{◌+◌, ◌-◌, ◌*◌}
use Rattle.counting.proofs.+count_prefix_try_values.Given as goal

abbrev pub decreases-count_prefix : goal.decreases-count_prefix
decreases-count_prefix l = (l.n - l.i) * 32 + 31

abbrev pub decreases-try_values : goal.decreases-try_values
decreases-try_values l = (l.n - l.i) * 32 + l.m
