use Rattle.calm_laws.proofs.LogHeads.{calls_miss_nothing}
use Rattle.calm_laws.proofs.Served.{calls_miss_nothing_behind_heads}
use Rattle.calm_laws.proofs.calls_miss_nothing.Goals as goal

pub returns-clause-behind_heads : goal.returns-clause-behind_heads
returns-clause-behind_heads c = calls_miss_nothing_behind_heads

pub returns-clause-calls : goal.returns-clause-calls
returns-clause-calls c = calls_miss_nothing
