-- Each session that is in hand can be brought to its end, whatever its ghost state: while it refreshes memory may run out, and then it
-- publishes.
use Rattle.std.proofs.Common.{◌≡◌, ◌≢◌, ℕ, List, [], map, Option, Some, None, refl, subst, le_refl, Contains}
use Rattle.std.specs.Prelude.{length}
use Rattle.std.specs.List.{AllByRecursion}
use Rattle.ring_model.proofs.Lists.{all_weaker}
use Rattle.dht_ids.specs.declared.ask.Heard.{Heard}
use Rattle.dht_ids.specs.declared.post.Ack.{Ack}
use Rattle.dht_ids.specs.declared.post.Post.{Post}
use Rattle.session_model.specs.Executions.{ended}
use Rattle.session_model.specs.Executions.LacksMemory.{lacks}
use Rattle.session_model.specs.Replies.{said_no_memory}
use Rattle.session_model.specs.Sessions.{Publishing, Refreshing, Over, Said, Session, Stage, in_publishing_order}
use Rattle.session_model.specs.Sessions.TakesSome.{none as some_none}
use Rattle.world_model.specs.Logs.{to_publish}
use Rattle.world_model.specs.GhostState.{GhostState}
use Rattle.world_model.specs.Steps.Steps.{lacks_memory}
use Rattle.world_model.specs.World.{World, Participant, participant, peer_of, with_participant}
use Rattle.world_laws.specs.Invariant.{AreApart, GoesOn, IsAtStage, IsMetPost, IsRefreshing, Invariant}
use Rattle.world_laws.specs.Laws.{EachSessionEnds}
use Rattle.world_laws.proofs.ExistingFates.{Serves, names_made, serves_so}
use Rattle.world_laws.proofs.ExistingPlans.{Names}
use Rattle.world_laws.proofs.ExistingPuts.{Ended, MayStep, Stands, after_step, all_on, all_out, over, runs_out}
use Rattle.world_laws.proofs.WholePublishing.{each_published, entries_made, some_entries}

-- what a session says in the end, and how
pub record EndsSo (r : ℕ) (w : World) (s : Session) : Type 0 where
  pub said : Said
  pub end : Ended r s.by w s (Some said)

at_once : (r : ℕ) (w : World) (s : Session) (said : Said) → s.stage ≡ Over (Some said) → Ended r s.by w s (Some said)
at_once r w s said at = record { world = w; session = s; is_over = at; execution = over (Some said) at }

-- memory runs out
without_memory : (r : ℕ) (w : World) (s : Session) (by : Participant) → participant w s.by ≡ Some by → s.stage ≡ Refreshing → IsRefreshing r s → EndsSo r w s
without_memory r w s by is_by at h = record {
  said = said_no_memory h.xid;
  end = after_step step (record { world = with_participant w by; session = ended s (said_no_memory h.xid) [] None; is_over = refl; execution = over (Some (said_no_memory h.xid)) refl });
}
  where
    step : MayStep r s.by w s (with_participant w by) (ended s (said_no_memory h.xid) [] None)
    step st b = (st, lacks_memory by s (ended s (said_no_memory h.xid) [] None) by.cache is_by some_none (lacks h.notes [] h.given h.end h.xid h.asked at h.refreshed h.asks h.notes refl))

module _ (w : World) (st : GhostState) (r : ℕ) (keeps : Invariant (w, st)) (ringed : w.replicas ≡ Some r) (s : Session) (g : GoesOn w r s) where
  stands : Stands r (map peer_of w.nodes) w.met s.by g.by w
  stands = record { serves = serves_so w st r keeps ringed; apart = keeps.apart; is_by = g.is_by }

  named : AllByRecursion (λ (h : Heard). Names (Contains (map peer_of w.nodes)) h.got) s.current
  named = all_weaker _ _ s.current (λ (h : Heard) i. names_made w (map peer_of w.nodes) refl h.got i) g.heard

  -- one that publishes says at its end what it was to say
  pub publishing_ends : (said : Option Said) (posts : List Post) (acks : List Ack) → s.stage ≡ Publishing said posts acks → Ended r s.by w s said
  publishing_ends said posts acks at =
      let h : IsAtStage w r s (Publishing said posts acks) = subst (IsAtStage w r s) at g.stage in
      all_on r (map peer_of w.nodes) w.met s.by g.by posts w s said acks stands at g.some_entry g.entries named h.1 h.2

  pub session_ends : EndsSo r w s
  session_ends = by_stage s.stage refl g.stage
    where
      by_stage : (stage : Stage) → s.stage ≡ stage → IsAtStage w r s stage → EndsSo r w s
      by_stage Refreshing at h = without_memory r w s g.by g.is_by at h
      by_stage (Publishing None posts acks) at h = cc h.0
      by_stage (Publishing (Some said) posts acks) at h = record { said = said; end = publishing_ends (Some said) posts acks at }
      by_stage (Over None) at h = cc h
      by_stage (Over (Some said)) at h = record { said = said; end = at_once r w s said at }

-- a participant of a world whose nodes answer publishes all that its agent has to
pub publishes_all : (w : World) (r : ℕ) (p : Participant) → Serves r (map peer_of w.nodes) w.met w → AreApart (map (λ q. q.name) w.participants) → participant w p.name ≡ Some p → w.nodes ≢ []
    → AllByRecursion (IsMetPost w.met) p.agent.pending → Ended r p.name w (to_publish w p) None
publishes_all w r p serves apart is some posts =
    all_out r (map peer_of w.nodes) w.met p.name p (length (in_publishing_order p.agent.pending)) (in_publishing_order p.agent.pending) (le_refl (length (in_publishing_order p.agent.pending))) w (to_publish w p) None []
    (record { serves = serves; apart = apart; is_by = is }) refl refl (some_entries w some) (entries_made w) (each_published (IsMetPost w.met) p.agent.pending posts)

pub each_session_ends : EachSessionEnds
each_session_ends w r s ghost_state ringed goes_on =
    let end = session_ends w ghost_state.0 r ghost_state.1 ringed s goes_on in
    (end.end.world, end.end.session, end.said, end.end.is_over, λ st b. runs_out end.end.execution st b)
