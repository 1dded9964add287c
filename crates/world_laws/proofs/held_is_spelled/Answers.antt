use Rattle.world_laws.proofs.SnapSpelled as law
use Rattle.world_laws.proofs.held_is_spelled.Goals as goal

pub returns : goal.returns
returns c = law.held_is_spelled
