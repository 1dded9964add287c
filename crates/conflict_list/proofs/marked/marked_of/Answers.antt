use Rattle.std.proofs.Common.{length, rules}
use Rattle.std.proofs.lemmas.List.Sorted.{IsNonDecreasingBy-from_sort_by_key}
use Rattle.conflict_list.specs.Order.{order}
use Rattle.conflict_list.proofs.MarkedLemmas.{marked_sorted}
use Rattle.conflict_list.proofs.marked.marked_of.Goals as goal

pub returns : goal.returns
returns c = record {
  marked = marked_sorted c.args.records.now c.args.of.now (length c.args.records.now) c.in_ok-list.list.items c.sort_unstable_by_key.new.self.items c.sort_unstable_by_key.ensures.permutation c.in_ok-list.ensures;
  ascending = IsNonDecreasingBy-from_sort_by_key order _ c.sort_unstable_by_key.ensures.sorted (λ a r q k. search rules);
}
