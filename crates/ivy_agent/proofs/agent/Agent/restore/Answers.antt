use Rattle.agent_saves.specs.Saves.{said}
use Rattle.ivy_agent.proofs.Restarted.{whole_saved}
use Rattle.ivy_agent.proofs.agent.Agent.restore.Goals as goal

pub returns-in-Ok-Some : goal.returns-in-Ok-Some
returns-in-Ok-Some g c = (
  said c.in-Ok-Some.saved,
  whole_saved g.S.Signs.signing g.S.Signs.is_whole c.args.bytes.now (said c.in-Ok-Some.saved) (rw c.in-Ok-Some.field-0-is at c.in-Ok-Some.ensures),
  c.again.ensures,
)
