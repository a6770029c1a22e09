-- `slide`: one lemma of `Sliding` for each way out. Assumes nothing.
use Rattle.std.proofs.Common.{rules}
use Rattle.arrays.proofs.Sliding.{slide_less, slide_some, slide_in, slide_above, slide_near, slide_far}
use Rattle.arrays.proofs.slide.Goals as goal

pub overflow_sub-d : goal.overflow_sub-d
overflow_sub-d c = search (rules, slide_less)

pub returns-then-c-end : goal.returns-then-c-end
returns-then-c-end c = search (rules, slide_near)

pub nonzero_rem-x : goal.nonzero_rem-x
nonzero_rem-x c = search (rules, slide_some)

pub echo-requires : goal.echo-requires
echo-requires c = search (rules, slide_above, slide_in)

pub returns-then-echo-d : goal.returns-then-echo-d
returns-then-echo-d c = search (rules, slide_far)

pub returns : goal.returns
returns c = search (rules, slide_near)
