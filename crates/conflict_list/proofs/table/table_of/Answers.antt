use Rattle.std.proofs.Common.{ℕ, Bool, List, length, sym, subst, arith}
use Rattle.conflict_list.specs.Tables.{AreLate, AreMarked, Grow}
use Rattle.conflict_list.proofs.table.table_of.Goals as goal

pub marked_of-requires-clause-late : goal.marked_of-requires-clause-late
marked_of-requires-clause-late c = subst (λ (late : List Bool). AreLate c.args.records.now (length c.args.records.now) late) (sym c.as_slice-2.ensures.value) c.in_ok-late.ensures.late

pub returns : goal.returns
returns c = record {
  few = (let fits = c.if-records.false in omega (arith, fits));
  logs = c.in_ok-logs.ensures;
  grow = λ truly. subst (λ (of : List ℕ). Grow c.args.records.now of (length c.args.records.now)) c.as_slice-3.ensures.value (c.are_growing-grow.ensures truly);
  marked = subst (λ (of : List ℕ). AreMarked c.args.records.now of (length c.args.records.now) c.in_ok-marks.marks.items) c.as_slice.ensures.value c.in_ok-marks.ensures.marked;
  ascending = c.in_ok-marks.ensures.ascending;
}
