use Rattle.std.proofs.Common.{arith}
use Rattle.conflict_list.proofs.Growing.{grow_more}
use Rattle.conflict_list.proofs.logs.all_go_on.Goals as goal

pub records-init : goal.records-init
records-init c = λ i j le lt same. absurd (omega (arith, lt))

pub records-preserved : goal.records-preserved
records-preserved c = grow_more c.args.records.now c.args.of.now c.records.j c.before-in-records.result c.records-test.true c.records.invariant
    c.before-in-records.ensures.found c.before-in-records.ensures.last c.before-in-records.ensures.none (c.goes_on_at.ensures c.if-not-goes_on_at.false)

pub returns : goal.returns
returns c = λ yes i j le lt same. c.records.invariant i j le (let all = c.records-test.false in omega (arith, lt, all)) same
