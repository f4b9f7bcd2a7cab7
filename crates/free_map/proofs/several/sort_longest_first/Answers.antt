use Rattle.std.proofs.Common.{rules}
use Rattle.free_map.proofs.Order.{ordered_from_sort}
use Rattle.free_map.proofs.several.sort_longest_first.Goals as goal

pub returns : goal.returns
returns c = record {
  same = c.sort_unstable_by.ensures.permutation;
  order = ordered_from_sort c.sort_unstable_by.new.self.items c.sort_unstable_by.ensures.sorted (λ a r f' k. search rules);
}
