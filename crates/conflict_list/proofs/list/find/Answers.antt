use Rattle.std.proofs.Common.{ℕ, get_or, ◌∙◌}
use Rattle.std.proofs.lemmas.List.Sorted.{IsNonDecreasingBy-from_sort}
use Rattle.conflict_list.proofs.Finding.{all_found}
use Rattle.conflict_list.proofs.Places.{at_read, spelled_at}
use Rattle.conflict_list.proofs.list.find.Goals as goal

pub set_looks-requires : goal.set_looks-requires
set_looks-requires c = (spelled_at c.args.records.now c.args.i _ (at_read c.args.records.now c.args.i c.index-records-i.result c.requires.i) c.requires.spelled).operation

pub returns : goal.returns
returns c = record {
  found = all_found c.args.records.now c.args.table.now.logs.of.items c.args.table.now.marks.items c.args.i (get_or c.args.records.now c.args.i c.index-records-i.result) c.as_slice.result.now c.add_all.new.found.items c.sort_unstable.new.self.items
      (at_read c.args.records.now c.args.i c.index-records-i.result c.requires.i) c.requires.spelled c.requires.table.marked (c.as_slice.ensures.value ∙ c.in_ok-set_looks.ensures) c.in_ok-add_all.ensures c.sort_unstable.ensures.permutation;
  ascending = IsNonDecreasingBy-from_sort (λ (x : ℕ). x) c.sort_unstable.new.self.items c.sort_unstable.ensures.sorted;
}
