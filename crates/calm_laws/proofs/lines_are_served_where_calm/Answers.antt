use Rattle.calm_laws.proofs.CalmLines.{lines_are_served}
use Rattle.calm_laws.proofs.lines_are_served_where_calm.Goals as goal

pub returns : goal.returns
returns c = lines_are_served
