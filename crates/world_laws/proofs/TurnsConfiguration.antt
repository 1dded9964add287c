-- What holds of the participant whose session has a turn, before it.
use Rattle.std.proofs.Common.{◌≡◌, ℕ, List, map, Option, Some, None, ap, ◌∙◌, subst, Contains}
use Rattle.std.specs.Prelude.{IfSome, IsTrue, is_some}
use Rattle.std.specs.List.{AllByRecursion}
use Rattle.ivy_base.specs.Naming.{IsCollisionFree}
use Rattle.log_model.specs.Closed.{log_of}
use Rattle.log_model.specs.View.{View, IsView, is_named as is_of_view}
use Rattle.log_model.proofs.Lists.{each}
use Rattle.log_model.specs.ViewKeys.{HasKeys}
use Rattle.dht_ids.specs.declared.post.Post.{Post}
use Rattle.session_laws.specs.Loading.{IsSnapshotOf}
use Rattle.world_model.specs.Agents.{HssKept, own_hss_key}
use Rattle.world_model.specs.World.{Participant, named_bytes, participant}
use Rattle.world_model.specs.GhostState.{Knowing, knowing_of}
use Rattle.world_model.specs.Steps.{Configuration, met_by}
use Rattle.world_model.specs.Logs.{Played}
use Rattle.world_laws.specs.Invariant.{AreParticipants, AreSound, EntersOwned, IsInHand, IsKeptSo, IsMetPost, IsSavedWell, IsSound, IsSoundKeptIn, Invariant, NamesOneOf, SignsOnce}
use Rattle.world_laws.proofs.Bringing.{agent_sound, found_named, its_view}
use Rattle.world_laws.proofs.Frames.{into_map}
use Rattle.world_laws.proofs.SignedAmong.{met_stays, met_then}
use Rattle.world_laws.proofs.SignedHeads.{so_of}
use Rattle.world_laws.proofs.TurnsKept.{heads_known}

-- ---- posts that make blocks known

module _ (met : List (List ℕ)) (posts : List Post) where
  pub met_grows : (b : List ℕ) → Contains met b → Contains (met_by met posts) b
  met_grows b h = met_stays met (map (λ (post : Post). post.bytes) posts) b h

  pub post_met : (post : Post) → Contains posts post → Contains (met_by met posts) post.bytes
  post_met post c = met_then met (map (λ (o : Post). o.bytes) posts) post.bytes (into_map (λ (o : Post). o.bytes) posts post c)

-- where there is no snapshot to load, whatever the view
pub anyway : (o : Option View) → IfSome o (λ v. Unit {0})
anyway None = tt
anyway (Some v) = tt

-- ---- the participant

module _ (c : Configuration) (r : ℕ) (p : Participant) (keeps : Invariant (c.world, c.ghost_state)) (hand : IsInHand c r) (is_p : participant c.world c.session.by ≡ Some p) where
  abbrev pub played : Played
  played = (c.world, c.ghost_state)

  abbrev pub view : View
  view = c.session.standing.view

  abbrev pub knowing : Knowing
  knowing = knowing_of c.ghost_state p.name

  pub is_there : Contains c.world.participants p
  is_there = (found_named c.world.participants c.session.by p is_p).0

  pub is_by : p.name ≡ c.session.by
  is_by = (found_named c.world.participants c.session.by p is_p).1

  pub is_found : participant c.world p.name ≡ Some p
  is_found = ap (participant c.world) is_by ∙ is_p

  pub in_view : p.agent.view ≡ Some c.session.standing.view
  in_view = its_view c r hand p is_p

  pub so : IsKeptSo SignsOnce p
  so = each (IsKeptSo SignsOnce) c.world.participants p keeps.signs is_there

  abbrev pub k : HssKept
  k = so.0

  pub saved : IsSavedWell p k
  saved = so_of IsSavedWell p k (each (IsKeptSo IsSavedWell) c.world.participants p keeps.saved is_there) so.1 so.2

  pub agent_owned : IfSome p.agent.view (AreParticipants c.world)
  agent_owned = (each (EntersOwned c.world) c.world.participants p keeps.entered is_there).agent

  pub keeper_owned : IfSome k.view (AreParticipants c.world)
  keeper_owned = so_of (λ o l. IfSome l.view (AreParticipants c.world)) p k (each (EntersOwned c.world) c.world.participants p keeps.entered is_there).keeper so.1 so.2

  pub pending_met : AllByRecursion (IsMetPost c.world.met) p.agent.pending
  pending_met = each (λ (o : Participant). AllByRecursion (IsMetPost c.world.met) o.agent.pending) c.world.participants p keeps.met.pending is_there

  pub of_view : IsView view × HasKeys view × Contains view.members (own_hss_key p.agent) × AllByRecursion (λ e. IsTrue (is_of_view view e.0)) p.agent.floor
  of_view = subst (λ (o : Option View). IfSome o (λ v. IsView v × HasKeys v × Contains v.members (own_hss_key p.agent) × AllByRecursion (λ e. IsTrue (is_of_view v e.0)) p.agent.floor)) in_view saved.agent.view

  pub kept_viewed_now : IsTrue (is_some k.view)
  kept_viewed_now = saved.entered (ap is_some in_view)

  -- where no names collide
  module _ (apart : IsCollisionFree (named_bytes c.world)) where
    pub all_sound : AreSound c.world c.ghost_state
    all_sound = keeps.sound apart

    pub agent_now : IsSound c.world.met p knowing view
    agent_now = agent_sound c keeps apart (hand.sound apart) p is_p in_view

    pub kept_sound : IsSoundKeptIn c.world.met p knowing k k.view
    kept_sound = so_of (λ o l. IsSoundKeptIn c.world.met o (knowing_of c.ghost_state o.name) l l.view) p k
        (each (IsKeptSo (λ o l. IsSoundKeptIn c.world.met o (knowing_of c.ghost_state o.name) l l.view)) c.world.participants p all_sound.keepers is_there) so.1 so.2

    pub snapshots_now : IfSome p.agent.view (λ v. IfSome p.agent.snapshot (IsSnapshotOf c.world.met v knowing.known))
    snapshots_now = each (λ (o : Participant). IfSome o.agent.view (λ v. IfSome o.agent.snapshot (IsSnapshotOf c.world.met v (knowing_of c.ghost_state o.name).known))) c.world.participants p all_sound.snapshots is_there

    pub snapshot_now : IfSome p.agent.snapshot (IsSnapshotOf c.world.met view knowing.known)
    snapshot_now = subst (λ (o : Option View). IfSome o (λ v. IfSome p.agent.snapshot (IsSnapshotOf c.world.met v knowing.known))) in_view snapshots_now

    pub heads_now : AllByRecursion (NamesOneOf p.agent.signer (log_of (own_hss_key p.agent) knowing.known)) p.left
    heads_now = heads_known p k saved view in_view knowing c.world.met so.3 so.1 (agent_now.knows.by_floor.ends (own_hss_key p.agent) of_view.2) kept_sound
