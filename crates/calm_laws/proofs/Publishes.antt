-- A participant publishes all that its agent has to: it is so then.
use Rattle.std.proofs.Common.{◌≡◌, ℕ, Some, refl, sym, subst}
use Rattle.ivy_base.specs.Naming.{IsCollisionFree}
use Rattle.dhash_model.specs.Signed.{hss_judged}
use Rattle.world_model.specs.Logs.{Played, Publishes}
use Rattle.world_model.specs.World.{Participant, participant}
use Rattle.calm_laws.proofs.Stages.{begins_staged}
use Rattle.calm_laws.proofs.BackedWorlds.{IsBackedWorld}
use Rattle.calm_laws.proofs.BackedSteps.{its_backed, runs_past}

pub publishes_so : (r : ℕ) (w : Played) (p : Participant) (next : Played) → participant w.0 p.name ≡ Some p → Publishes hss_judged r w p next → IsCollisionFree next.0.met → IsBackedWorld w.0 w.1 → IsBackedWorld next.0 next.1
publishes_so r w p next is_p published apart h =
    let its = its_backed w.0 w.1 p.name p is_p h in
    subst (λ (v : Played). IsBackedWorld v.0 v.1) (sym published.2)
    (runs_past r published.1 refl (λ e. cc e) (subst (λ (v : Played). IsCollisionFree v.0.met) published.2 apart) (h, (begins_staged w.0.met w.1.acked p.agent.pending its.pending its.agent.heads, tt))).0
