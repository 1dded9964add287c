use Rattle.std.proofs.Common.{get_or, refl, ◌∙◌}
use Rattle.conflict_list.proofs.MarkedLemmas.{marked_more, unmarked_more}
use Rattle.conflict_list.proofs.Places.{at_read, spelled_at}
use Rattle.conflict_list.proofs.marked.mark_late.Goals as goal

pub returns-then-not-late-place : goal.returns-then-not-late-place
returns-then-not-late-place c = unmarked_more c.args.records.now c.args.of.now c.args.place c.args.list.now.items c.args.late.now c.requires.place c.requires.late c.if-not-late-place.true c.requires.so_far

pub set_numbers-requires : goal.set_numbers-requires
set_numbers-requires c = (spelled_at c.args.records.now c.args.place _ (at_read c.args.records.now c.args.place c.index-records-place.result c.requires.place) c.requires.spelled).operation

pub returns : goal.returns
returns c = marked_more c.args.records.now c.args.of.now c.args.place c.args.list.now.items c.mark.new.list.items c.as_slice.result.now (get_or c.args.records.now c.args.place c.index-records-place.result) _
    (at_read c.args.records.now c.args.place c.index-records-place.result c.requires.place) c.requires.so_far refl c.mark.ensures.log (c.as_slice.ensures.value ∙ c.in_ok-set_numbers.ensures) c.in_ok-mark.ensures.added
