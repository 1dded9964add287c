use Rattle.std.proofs.Common.{arith}
use Rattle.conflict_list.proofs.Finding.{run_all, run_known, run_more, stays_on}
use Rattle.conflict_list.proofs.table.Table.add_run.Goals as goal

pub run-init : goal.run-init
run-init c = record { so_far = λ m d within clash. absurd (let lt = d.1 in omega (arith, lt)); kept = λ j d. d }

pub run-preserved : goal.run-preserved
run-preserved c = record {
  so_far = run_more c.args.records.now c.args.i c.args.run.now c.run.mark-index _ c.run.found.items c.push.new.self.items c.run-test.true c.run.invariant.so_far c.in_ok-push.ensures.items;
  kept = stays_on c.args.found.now.items c.run.found.items _ c.push.new.self.items c.run.invariant.kept c.in_ok-push.ensures.items;
}

pub returns-then-knows-clause-found : goal.returns-then-knows-clause-found
returns-then-knows-clause-found c = run_known c.args.records.now c.args.self.now.logs.of.items c.args.i c.args.run.now c.run.mark-index _ c.run.found.items c.knows.result c.requires.i (c.requires.table.grow c.if-self.true) c.requires.only c.requires.run
    c.run-test.true c.if-knows.true c.knows.ensures c.run.invariant.so_far

pub returns-clause-found : goal.returns-clause-found
returns-clause-found c = run_all c.args.records.now c.args.i c.args.run.now c.run.mark-index c.run.found.items c.run-test.false c.run.invariant.so_far
