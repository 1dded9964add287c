use Rattle.world_laws.proofs.Still.{still_lines}
use Rattle.world_laws.proofs.still_lines_change_nothing.Goals as goal

pub returns : goal.returns
returns c = still_lines
