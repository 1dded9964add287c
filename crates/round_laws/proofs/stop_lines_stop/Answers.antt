use Rattle.round_laws.proofs.Stopping.{stop_line_stops, stop_lines_leave_covered}
use Rattle.round_laws.proofs.stop_lines_stop.Goals as goal

pub returns : goal.returns
returns c = record { line = stop_line_stops; covered = stop_lines_leave_covered }
