use Rattle.round_laws.proofs.Ringing.{ring_line_settles}
use Rattle.round_laws.proofs.ring_lines_settle.Goals as goal

pub returns : goal.returns
returns c = ring_line_settles
