-- A participant publishes all that its agent has pending, in worlds that have these parts.
use Rattle.std.proofs.Common.{◌≡◌, ◌≢◌, inr, ℕ, List, [], refl, sym, ap, ◌∙◌, subst, Option, Some, None}
use Rattle.std.specs.Prelude.{IfOk, option_map, Result, Ok, Err}
use Rattle.std.specs.List.{AllByRecursion, find}
use Rattle.std.specs.Str.{bytes_eq}
use Rattle.dhash_model.specs.Signed.{hss_judged}
use Rattle.log_model.proofs.Lists.{each}
use Rattle.session_model.specs.Sessions.{in_publishing_order}
use Rattle.ivy_base.specs.declared.memory.Memory.{Memory}
use Rattle.ring_nodes.specs.NodesState.{IsNodesOf}
use Rattle.world_model.specs.Logs.{Played, to_publish}
use Rattle.world_model.specs.Nodes.{Node}
use Rattle.world_model.specs.Steps.{RunsOut, Configuration}
use Rattle.world_model.specs.GhostState.{began_nothing}
use Rattle.world_model.specs.World.{Participant, World, participant}
use Rattle.world_laws.specs.Invariant.{HasRing, IsMetPost, Invariant, OnlyPublishes}
use Rattle.world_laws.proofs.Bringing.{found_named}
use Rattle.world_laws.proofs.Frames.{ring_of}
use Rattle.world_laws.proofs.Publishing.{begins}
use Rattle.world_laws.proofs.WholePublishing.{each_published, entries_made, some_entries}
use Rattle.script_participants.specs.ParticipantState.{ParticipantState, state_of}
use Rattle.session_steps.specs.Representing.{CallState, RepresentsSession}
use Rattle.script_world.specs.PartsState.{HasParts, PartsState}
use Rattle.script_world.specs.Running.{CanPublish, HasPublisher, HasConfigurationIn, IsConfigurationIn, IsRepresentedIn, PublishesIn, RunsOutIn}
use Rattle.script_world.proofs.Keeping.{find_named, named_in, one_in}

-- ---- a session that only publishes

module _ (w : Played) (r : ℕ) (p : Participant) (keeps : Invariant w) (ringed : w.0.replicas ≡ Some r) (named : participant w.0 p.name ≡ Some p) where
  -- it begins so
  only_publishes : OnlyPublishes w.0 r (to_publish w.0 p)
  only_publishes = record {
    by = p;
    is_by = named;
    some_entry = some_entries w.0 (ring_of w keeps ringed).1;
    entries = entries_made w.0;
    heard = tt;
    bare = refl;
    stage = (refl, posts, begins r (to_publish w.0 p) (some_entries w.0 (ring_of w keeps ringed).1) refl (in_publishing_order p.agent.pending));
  }
    where
      posts : AllByRecursion (IsMetPost w.0.met) (in_publishing_order p.agent.pending)
      posts = each_published (IsMetPost w.0.met) p.agent.pending (each _ w.0.participants p keeps.met.pending (found_named w.0.participants p.name p named).0)

abbrev pub begun : Played → Participant → Configuration
begun w p = record { world = w.0; ghost_state = w.1; session = to_publish w.0 p; began = began_nothing }

module _ (s : PartsState) (name : List ℕ) where
  -- there is a ring, which has a node
  pub not_before_ring : HasPublisher s name → s.replicas ≡ None → ⊥
  not_before_ring (w, p, can) none =
      let ring : HasRing w.0 None = subst (HasRing w.0) (can.parts.replicas ∙ none) can.keeps.ring in
      absurd (cc (subst (λ (ps : List Participant). find (λ (q : Participant). bytes_eq q.name name) ps ≡ Some p) ring.1 can.named))

  pub some_node : HasPublisher s name → (r : ℕ) → s.replicas ≡ Some r → s.nodes.nodes ≢ []
  some_node (w, p, can) r ring = subst (λ (ns : List Node). ns ≢ []) can.parts.nodes.0 (ring_of w can.keeps (can.parts.replicas ∙ ring)).1

  pub not_unknown : HasPublisher s name → find_named name s.participants ≡ None → ⊥
  not_unknown (w, p, can) none = absurd (cc (sym none ∙ named_in w.0 s.participants name can.parts.participants ∙ ap (option_map state_of) can.named))

  module _ (call : CallState) (shows : (w : Played) (p : Participant) → CanPublish s name w p → IsRepresentedIn s (to_publish w.0 p) call) where
    configuration_of : (w : Played) (r : ℕ) (p : Participant) → CanPublish s name w p → w.0.replicas ≡ Some r → IsConfigurationIn s name call (begun w p) r
    configuration_of w r p can ringed =
        let its = (found_named w.0.participants name p can.named).1 in
        record {
          way = record { keeps = can.keeps; ring = ringed; hand = inr (only_publishes w r p can.keeps ringed (subst (λ (n : List ℕ). participant w.0 n ≡ Some p) (sym its) can.named)) };
          parts = can.parts;
          named = its;
          replicas = some_same (sym (shows w p can).replicas ∙ sym can.parts.replicas ∙ ringed);
          shows = (shows w p can).shows;
        }
      where
        some_same : {a b : ℕ} → Some a ≡ Some b → a ≡ b
        some_same e = cc e

    pub some_configuration : HasPublisher s name → HasConfigurationIn s name call
    some_configuration (w, p, can) = by w.0.replicas refl
      where
        by : (o : Option ℕ) → w.0.replicas ≡ o → HasConfigurationIn s name call
        by None none = absurd (not_before_ring (w, p, can) (sym can.parts.replicas ∙ none))
        by (Some r) ringed = (begun w p, r, configuration_of w r p can ringed)

    pub publishes : (after : PartsState) (new : CallState) → RunsOutIn name s call after new → PublishesIn name s after
    publishes after new runs w r p can ringed =
        let to = runs.1 (begun w p) r (configuration_of w r p can ringed) in
        let its = (found_named w.0.participants name p can.named).1 in
        ((to.0.world, to.0.ghost_state), (to.0, subst (λ (n : List ℕ). RunsOut hss_judged r n (begun w p) to.0) (sym its) to.1, refl), to.2.goes_on, to.2.ring)

-- the code's session of a participant is that by which it publishes
pub publishing_shown : (inside s : PartsState) → inside ≡ s → (name : List ℕ) (one : ParticipantState) (r : ℕ) (result : Result CallState Memory) → find_named name inside.participants ≡ Some one → inside.replicas ≡ Some r
    → IfOk result (λ call. call.session.replicas ≡ r) → IfOk result (λ call. (w : World) (p : Participant) → IsNodesOf w inside.nodes → state_of p ≡ one → RepresentsSession (to_publish w p) call)
    → IfOk result (λ call. (w : Played) (p : Participant) → CanPublish s name w p → IsRepresentedIn s (to_publish w.0 p) call)
publishing_shown inside s same name one r (Ok call) found ring counts shows = λ w p can.
    let from : HasParts w.0 inside = subst (HasParts w.0) (sym same) can.parts in
    let its : (q : Participant) × (participant w.0 name ≡ Some q) × (state_of q ≡ one) = one_in w.0 inside from name one found in
    let same_one : its.0 ≡ p = some_one (sym its.1 ∙ can.named) in
    record {
      replicas = ap (λ (x : PartsState). x.replicas) (sym same) ∙ ring ∙ ap (λ (n : ℕ). Some n) (sym counts);
      shows = shows w.0 p from.nodes (ap state_of (sym same_one) ∙ its.2);
    }
  where
    some_one : {p q : Participant} → Some p ≡ Some q → p ≡ q
    some_one e = cc e
publishing_shown inside s same name one r (Err e) found ring counts shows = tt
