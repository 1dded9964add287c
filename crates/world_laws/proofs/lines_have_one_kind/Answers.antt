use Rattle.world_laws.proofs.LineKinds.{line_has_one_kind}
use Rattle.world_laws.proofs.lines_have_one_kind.Goals as goal

pub returns : goal.returns
returns c = line_has_one_kind
