use Rattle.replay_engine.proofs.Walks.{spelled_at}
use Rattle.replay_engine.proofs.sets.front.Goals as goal

pub full_vector-requires : goal.full_vector-requires
full_vector-requires c = spelled_at c.args.records.now c.records.record-index c.record-item.result c.records-test.true c.record-item.is c.requires.spelled
