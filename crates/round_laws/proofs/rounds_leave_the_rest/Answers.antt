use Rattle.round_laws.proofs.Rounding.{leaves_the_rest, leaves_who_lives}
use Rattle.round_laws.proofs.rounds_leave_the_rest.Goals as goal

pub returns : goal.returns
returns c = record { rest = leaves_the_rest; lives = leaves_who_lives }
