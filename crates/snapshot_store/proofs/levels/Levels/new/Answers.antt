use Rattle.snapshot_store.proofs.Waiting.{nothing_waits}
use Rattle.snapshot_store.proofs.levels.Levels.new.Goals as goal

pub returns : goal.returns
returns c blocks = nothing_waits blocks _ c.new.ensures.items c.new-2.ensures.items c.new-3.ensures.items
