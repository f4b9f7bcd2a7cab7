use Rattle.std.proofs.Common.{arith}
use Rattle.free_map.proofs.Counts.{longest_le, index_le}
use Rattle.free_map.proofs.sums.index.Goals as goal

pub overflow_mul-result : goal.overflow_mul-result
overflow_mul-result c = let le = longest_le c.args.runs.now in omega (arith, le)

pub overflow_sub-result : goal.overflow_sub-result
overflow_sub-result c = let le = longest_le c.args.runs.now in let few = index_le c.longest.result c.count-count.result (omega arith) in omega (arith, few)
