use Rattle.std.proofs.Common.{arith}
use Rattle.agent_trials.proofs.agents.take.Goals as goal

pub turn-requires-clause-call : goal.turn-requires-clause-call
turn-requires-clause-call g c = c.requires.asked (record { sec = 1000000000; nsec = 0 }) (record { sec = omega arith; nsec = omega arith })
