use Rattle.snapshot_loading.proofs.SoundTrees as law
use Rattle.snapshot_loading.proofs.whole_trees_are_sound.Goals as goal

pub returns : goal.returns
returns c = law.whole_trees_are_sound
