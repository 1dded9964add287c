use Rattle.replay_engine.proofs.Walks.{spelled_at, may_apply, applied_more}
use Rattle.replay_engine.proofs.sets.apply_records.Goals as goal

pub apply-requires : goal.apply-requires
apply-requires c = may_apply c.record-item.result.op (spelled_at c.args.records.now c.records.record-index c.record-item.result c.records-test.true c.record-item.is c.requires.spelled).operation

pub records-preserved : goal.records-preserved
records-preserved c = applied_more _ _ _ c.args.records.now c.records.record-index c.record-item.result c.records-test.true c.record-item.is c.records.invariant c.in_ok-apply.ensures.ok
