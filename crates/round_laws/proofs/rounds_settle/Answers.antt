use Rattle.round_laws.proofs.Rounding.{round_mends_join, round_mends_stops}
use Rattle.round_laws.proofs.Stopping.{round_mends_since, round_mends_stop_lines}
use Rattle.round_laws.proofs.rounds_settle.Goals as goal

pub returns : goal.returns
returns c = record { stops = round_mends_stops; since = round_mends_since; lines = round_mends_stop_lines; join = round_mends_join }
