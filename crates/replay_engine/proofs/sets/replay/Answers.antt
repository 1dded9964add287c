use Rattle.replay_engine.proofs.Walks.{replayed}
use Rattle.replay_engine.proofs.sets.replay.Goals as goal

pub returns : goal.returns
returns c = replayed _ _ _ c.requires.ascending c.in_ok-tree.ensures c.in_ok-apply_records.ensures
