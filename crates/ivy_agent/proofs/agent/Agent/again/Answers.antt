use Rattle.agent_saves.specs.Saves.{said}
use Rattle.ivy_agent.proofs.Restarted.{restored_sound}
use Rattle.ivy_agent.proofs.agent.Agent.again.Goals as goal

pub invariant_of-result : goal.invariant_of-result
invariant_of-result g c = restored_sound
    g.S.Signs.signing g.S.Signs.is_whole c.kept_of-kept.result (said c.args.saved) c.kept_of-kept.ensures.kept c.args.nothing c.requires.nothing
    c.empty.result c.kept_of-kept.ensures.log c.empty.ensures c.requires.kept
