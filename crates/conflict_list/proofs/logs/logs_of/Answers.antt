use Rattle.std.proofs.Common.{◌≡◌, ℕ, length, subst, arith}
use Rattle.conflict_list.specs.Tables.{AreLogs}
use Rattle.conflict_list.proofs.LogLemmas.{logs_more, no_logs}
use Rattle.conflict_list.proofs.logs.logs_of.Goals as goal

pub records-init : goal.records-init
records-init c = no_logs c.args.records.now c.new-list.result.items c.in_ok-of.of.items c.new-list.ensures.items c.in_ok-of.ensures.items

pub records-preserved : goal.records-preserved
records-preserved c = logs_more c.args.records.now c.records.one-index c.records.list.items c.lane_of.new.list.items c.records.of.items c.push.new.self.items c.in_ok-lane_of.field-0 c.one-item.result
    (c.records-test.true, c.one-item.is) c.records.invariant c.in_ok-lane_of.ensures.is c.in_ok-lane_of.ensures.keys c.in_ok-lane_of.ensures.few c.in_ok-lane_of.ensures.kept c.in_ok-push.ensures.items

pub returns : goal.returns
returns c =
    let low = c.records-test.false in
    let high = c.records.auto.one-index-end in
    let e : c.records.one-index ≡ length c.args.records.now = omega (arith, low, high) in
    subst (λ (n : ℕ). AreLogs c.args.records.now n c.records.list.items c.records.of.items) e c.records.invariant
