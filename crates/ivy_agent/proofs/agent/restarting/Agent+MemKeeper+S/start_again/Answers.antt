use Rattle.std.proofs.Common.{Some, refl, ap, ◌∙◌}
use Rattle.agent_saves.specs.Saves.{said}
use Rattle.ivy_agent.proofs.Restarted.{kept_there, whole_saved}
use Rattle.ivy_agent.proofs.agent.restarting.Agent+MemKeeper+S.start_again.Goals as goal

pub returns-in-Ok-Some : goal.returns-in-Ok-Some
returns-in-Ok-Some g c =
    let k = whole_saved g.S.Signs.signing g.S.Signs.is_whole c.in-Some.bytes.now (said c.in-Ok-Some.saved) (rw c.in-Ok-Some.field-0-is at c.in-Ok-Some.ensures) in
    (said c.in-Ok-Some.saved, k.kept, kept_there _ _ _ c.in-Some.bytes.now c.self.view_is c.in-Some.ensures ∙ ap Some k.spelled, c.become_saved.ensures)

pub returns-in-Ok-None : goal.returns-in-Ok-None
returns-in-Ok-None g c = (c.in-Some.bytes.now, kept_there _ _ _ c.in-Some.bytes.now c.self.view_is c.in-Some.ensures, rw c.in-Ok-None.field-0-is at c.in-Ok-None.ensures, refl)
