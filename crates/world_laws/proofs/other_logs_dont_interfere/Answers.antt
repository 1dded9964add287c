use Rattle.world_laws.proofs.Noninterference.{other_logs}
use Rattle.world_laws.proofs.other_logs_dont_interfere.Goals as goal

pub returns : goal.returns
returns c = other_logs
