use Rattle.std.proofs.Common.{arith, length}
use Rattle.conflict_list.proofs.Finding.{all_lanes, group_is, in_group, lane_more, no_lane, run_ours}
use Rattle.conflict_list.proofs.table.Table.add_number.Goals as goal

pub logs-init : goal.logs-init
logs-init c = record { so_far = no_lane c.args.records.now c.args.i c.args.self.now.marks.items c.args.number c.args.found.now.items; kept = λ j d. d }

pub run_of-run-requires-clause-only : goal.run_of-run-requires-clause-only
run_of-run-requires-clause-only c = group_is (length c.args.records.now) c.args.self.now.logs.of.items c.args.self.now.marks.items c.as_slice.result.now c.between-group.result.now c.args.number c.order_of.result c.order_of-2.result
    c.as_slice.ensures.value c.order_of.ensures.order c.order_of-2.ensures.order c.requires.table.few c.requires.table.marked.only c.between-group.ensures.only

pub add_run-requires-clause-only : goal.add_run-requires-clause-only
add_run-requires-clause-only c = run_ours (length c.args.records.now) c.args.self.now.logs.of.items c.args.self.now.marks.items c.as_slice.result.now c.between-group.result.now c.run_of-run.result.now c.order_of.result c.order_of-2.result
    c.as_slice.ensures.value c.requires.table.marked.only c.between-group.ensures.only c.run_of-run.ensures.only

pub logs-preserved : goal.logs-preserved
logs-preserved c = record {
  so_far = lane_more c.args.records.now c.args.i c.args.self.now.marks.items c.between-group.result.now c.run_of-run.result.now c.args.number c.logs.lane c.logs.found.items c.add_run.new.found.items
      (in_group (length c.args.records.now) c.args.self.now.logs.of.items c.args.self.now.marks.items c.as_slice.result.now c.between-group.result.now c.args.number c.order_of.result c.order_of-2.result
      c.as_slice.ensures.value c.order_of.ensures.order c.order_of-2.ensures.order c.requires.table.few c.requires.table.marked.only c.between-group.ensures.found)
      c.run_of-run.ensures.found c.logs.invariant.so_far c.in_ok-add_run.ensures.found c.in_ok-add_run.ensures.kept;
  kept = λ j d. c.in_ok-add_run.ensures.kept j (c.logs.invariant.kept j d);
}

pub returns-clause-found : goal.returns-clause-found
returns-clause-found c =
    let count = c.len-lane-end.ensures in
    let long = c.args.self.now.logs.list.ok.0 in
    let all = c.logs-test.false in
    all_lanes c.args.records.now c.args.i c.args.self.now.logs.list.items c.args.self.now.logs.of.items c.args.self.now.marks.items c.args.number c.logs.lane c.logs.found.items
    (omega (arith, count, long, all)) c.requires.table.logs c.requires.table.marked c.logs.invariant.so_far
