-- The cycle of calls {count_prefix, try_values}: one lemma of `Counting` for each way out. What falls: the rest of the length, then the value.
use Rattle.std.proofs.Common.{rules}
use Rattle.words.proofs.Refusals.{ok_done, err_some}
use Rattle.listing.proofs.Values.{kept_none}
use Rattle.counting.proofs.Counting.{Counted, count_full, open_falls, open_tries, count_open, kept_on, tries_small, tried_passes, next_room, next_falls, next_tries, counts_none, counts_some, counts_last, counts_more, sum_fits}
use Rattle.counting.proofs.+count_prefix_try_values.Goals as goal
use Rattle.counting.proofs.+count_prefix_try_values.Goals.{try_values-then-is_ok, try_values-else-is_ok}

pub count_prefix-try_values-requires : goal.count_prefix-try_values-requires
count_prefix-try_values-requires t c = (search (rules, open_falls), search (rules, open_tries))

pub count_prefix-returns-then-i-n : goal.count_prefix-returns-then-i-n
count_prefix-returns-then-i-n t c = search (rules, count_full, kept_none)

pub count_prefix-returns-else-i-n-2 : goal.count_prefix-returns-else-i-n-2
count_prefix-returns-else-i-n-2 t c = search (rules, count_open)

pub try_values-put_echo-requires : goal.try_values-put_echo-requires
try_values-put_echo-requires t c = (search rules, search rules, search (rules, tries_small))

pub try_values-count_prefix-here-requires : goal.try_values-count_prefix-here-requires
try_values-count_prefix-here-requires t c = (search rules, (search rules, search rules, search (rules, tried_passes, ok_done)))

pub try_values-peak_at-requires : goal.try_values-peak_at-requires
try_values-peak_at-requires t c = search (rules, next_room)

pub try_values-try_values-requires : goal.try_values-try_values-requires
try_values-try_values-requires t c =
    let h : Counted c.args.a c.args.t.now c.if-is_ok.t c.args.i c.args.n c.args.m c.if-is_ok.here =
    elim c.if-is_ok.branch [ try_values-then-is_ok w ↦ search (rules, counts_some, ok_done) | try_values-else-is_ok w ↦ search (rules, counts_none, err_some) ] in
    (search (rules, next_falls), search (rules, next_tries))

pub try_values-overflow_add-result : goal.try_values-overflow_add-result
try_values-overflow_add-result t c =
    let h : Counted c.args.a c.args.t.now c.if-is_ok.t c.args.i c.args.n c.args.m c.if-is_ok.here =
    elim c.if-is_ok.branch [ try_values-then-is_ok w ↦ search (rules, counts_some, ok_done) | try_values-else-is_ok w ↦ search (rules, counts_none, err_some) ] in
    search (rules, sum_fits)

pub try_values-returns-then-m-eq0 : goal.try_values-returns-then-m-eq0
try_values-returns-then-m-eq0 t c =
    let h : Counted c.args.a c.args.t.now c.if-is_ok.t c.args.i c.args.n c.args.m c.if-is_ok.here =
    elim c.if-is_ok.branch [ try_values-then-is_ok w ↦ search (rules, counts_some, ok_done) | try_values-else-is_ok w ↦ search (rules, counts_none, err_some) ] in
    search (rules, counts_last)

pub try_values-returns-else-m-eq0 : goal.try_values-returns-else-m-eq0
try_values-returns-else-m-eq0 t c =
    let h : Counted c.args.a c.args.t.now c.if-is_ok.t c.args.i c.args.n c.args.m c.if-is_ok.here =
    elim c.if-is_ok.branch [ try_values-then-is_ok w ↦ search (rules, counts_some, ok_done) | try_values-else-is_ok w ↦ search (rules, counts_none, err_some) ] in
    record { counted = search (rules, counts_more); kept = search (rules, kept_on) }
