-- `host::claybobbin_count`. Assumes nothing.
use Rattle.std.proofs.Common.{rules}
use Rattle.host.proofs.Packing.{count_product, count_sum, count_packed}
use Rattle.host.proofs.claybobbin_count.Goals as goal

pub overflow_mul-result : goal.overflow_mul-result
overflow_mul-result c = search (rules, count_product)

pub overflow_add-result : goal.overflow_add-result
overflow_add-result c = search (rules, count_sum)

pub returns : goal.returns
returns c = search (rules, count_packed)
