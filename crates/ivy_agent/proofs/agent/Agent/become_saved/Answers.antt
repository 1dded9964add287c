use Rattle.agent_saves.specs.Saves.{said}
use Rattle.ivy_agent.proofs.Restarted.{restored_sound}
use Rattle.ivy_agent.proofs.agent.Agent.become_saved.Goals as goal

pub invariant_of-self : goal.invariant_of-self
invariant_of-self g c = restored_sound
    g.S.Signs.signing g.S.Signs.is_whole c.kept_of.result (said c.args.saved) c.kept_of.ensures.kept c.args.nothing c.requires.nothing
    c.empty.result c.kept_of.ensures.log c.empty.ensures c.requires.kept
