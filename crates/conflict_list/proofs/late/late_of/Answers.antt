use Rattle.std.proofs.Common.{◌≡◌, ℕ, ◌+◌, ◌≤◌, List, [], ◌∷◌, ◌++◌, Bool, length, get_or, ap, sym, ◌∙◌, arith, subst, length-append, rules}
use Rattle.std.specs.Prelude.{not}
use Rattle.conflict_list.specs.Tables.{AreLate}
use Rattle.conflict_list.proofs.LateLemmas.{late_more, newest_more, none_clashes, none_late, none_newest}
use Rattle.conflict_list.proofs.Places.{spelled_at}
use Rattle.conflict_list.proofs.late.late_of.Goals as goal

pub records-init : goal.records-init
records-init c = record {
  late = none_late c.args.records.now c.in_ok-late.late.items;
  long = ap length c.in_ok-late.ensures.items;
  newest = none_newest c.args.records.now c.args.logs.now.of.items c.in_ok-newest.newest.items;
  lanes = (let count = c.len.ensures in let long = c.in_ok-newest.ensures.len in omega (arith, long, count));
}

pub reaches-requires-clause-one : goal.reaches-requires-clause-one
reaches-requires-clause-one c = spelled_at c.args.records.now c.records.place c.index-records-place.result (c.records-test.true, c.index-records-place.is) c.requires.spelled

pub records-preserved : goal.records-preserved
records-preserved c =
    let same = c.records.invariant.long in
    record {
      late = late_more c.args.records.now c.records.place c.records.late.items c.push.new.self.items c.reaches.result same c.in_ok-push.ensures.items
          (λ yes i less clash. none_clashes c.args.records.now (length c.args.records.now) i c.records.place c.args.logs.now.list.items c.as_slice.result.now c.args.logs.now.of.items c.records.newest.items c.as_slice-in-records.result.now c.index-records-place.result
          c.requires.logs c.records.invariant.newest c.as_slice.ensures.value c.as_slice-in-records.ensures.value less c.records-test.true (c.records-test.true, c.index-records-place.is) (c.reaches.ensures yes) clash)
          c.records.invariant.late;
      long = (let e : length c.push.new.self.items ≡ length (c.records.late.items ++ not c.reaches.result ∷ []) = ap length c.in_ok-push.ensures.items in
          let l = length-append c.records.late.items (not c.reaches.result ∷ []) in omega (arith, e, l, same));
      newest = newest_more c.args.records.now c.args.logs.now.of.items c.records.place c.records.newest.items c.raise.new.newest.items c.index-records-place.result (c.records-test.true, c.index-records-place.is) c.records.invariant.newest c.raise.ensures.up
          (subst (λ (k : ℕ). c.index-records-place.result.seq ≤ get_or c.raise.new.newest.items k 0) c.lane_of-lane.ensures c.raise.ensures.reached);
      lanes = c.raise.ensures.long ∙ c.records.invariant.lanes;
    }

pub returns-clause-late : goal.returns-clause-late
returns-clause-late c = λ i j less within clash. c.records.invariant.late i j less (let all = c.records-test.false in omega (arith, within, all)) clash
