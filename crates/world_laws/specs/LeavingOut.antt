-- Leaving out: what a turn takes and replies doesn't depend on logs of which no member of its view is the owner.
use Rattle.std.specs.Prelude.{◌≡◌}
use Rattle.ivy_base.specs.Naming.{IsCollisionFree}
use Rattle.hash_signature_model.specs.Signer.{left_of}
use Rattle.session_model.specs.Brought.{brought_in, heads_at}
use Rattle.world_model.specs.Agents.{own_hss_key}
use Rattle.world_model.specs.Keepers.{fails_next}
use Rattle.world_model.specs.GhostState.{HadTurn}
use Rattle.world_laws.specs.Headline.{IsOnReplay}
use Rattle.world_laws.specs.Laws.{AgreeOnMembers}

-- These two turns go by the same, but for the members' logs: by the view and the agent that takes it, what it knows, how its session
-- began, whether a save fails, the call and the moment.
pub record GoBySame (g h : HadTurn) (one : IsOnReplay g) (other : IsOnReplay h) : Type 0 where
  pub view : g.view ≡ h.view
  pub own_key : own_hss_key g.by.agent ≡ own_hss_key h.by.agent
  pub left : left_of g.by.agent.signer ≡ left_of h.by.agent.signer
  pub has_failed : g.by.agent.has_failed ≡ h.by.agent.has_failed
  pub fails : fails_next g.by.keeper ≡ fails_next h.by.keeper
  pub known : g.knowing.known ≡ h.knowing.known
  pub standing : g.session.standing ≡ h.session.standing
  pub knew : g.began.knew ≡ h.began.knew
  pub started : one.given.started ≡ other.given.started
  pub asked : one.asked ≡ other.asked
  pub now : g.now ≡ h.now

-- If their sessions were brought the same heads of the members' logs, and the same records of these were met, both take the same set, leave
-- the same set and give the same reply, whatever other logs and blocks there are.
abbrev pub OtherLogsChangeNoTurn : Type 0
OtherLogsChangeNoTurn = (g h : HadTurn) (one : IsOnReplay g) (other : IsOnReplay h) → IsCollisionFree h.met → GoBySame g h one other
    → AgreeOnMembers g.view (heads_at (brought_in g.session.parts)) (heads_at (brought_in h.session.parts)) g.met h.met
    → (one.taken ≡ other.taken) × (g.turned ≡ h.turned)
