use Rattle.agent_trials.proofs.Given.{in_each_view}
use Rattle.agent_trials.proofs.agents.ask.Goals as goal

pub take-requires-clause-batch : goal.take-requires-clause-batch
take-requires-clause-batch g c = in_each_view _ c.args.gate.now.opening.agent.view c.requires.view c.in-Some-nothing.ensures.fetched
