use Rattle.snapshot_model.proofs.OneBlock as one
use Rattle.snapshot_model.proofs.blocks_are_unambiguous.Goals as goal

pub returns : goal.returns
returns c = one.blocks_are_unambiguous
