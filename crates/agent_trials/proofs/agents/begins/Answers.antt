use Rattle.std.proofs.Common.{refl, arith}
use Rattle.agent_gate.specs.Taking.{kind_of}
use Rattle.agent_trials.proofs.Given.{stays_in_view}
use Rattle.agent_trials.proofs.agents.begins.Goals as goal

pub turn_alone-requires-clause-call : goal.turn_alone-requires-clause-call
turn_alone-requires-clause-call c = c.requires.asked (record { sec = 1000000000; nsec = 0 }) (record { sec = omega arith; nsec = omega arith })

pub returns : goal.returns
returns c =
    stays_in_view (kind_of _ _ _) c.args.agent.now c.turn_alone.new.agent (record { refresh = c.args.refresh; asked = c.args.asked.now; now = record { sec = 1000000000; nsec = 0 } })
    c.turn_alone.result _ c.args.agent.now.agent.view refl c.requires.batch c.turn_alone.ensures.turn
