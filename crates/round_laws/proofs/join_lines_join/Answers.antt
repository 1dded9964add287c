use Rattle.round_laws.proofs.Joining.{join_line_joins}
use Rattle.round_laws.proofs.join_lines_join.Goals as goal

pub returns : goal.returns
returns c = join_line_joins
