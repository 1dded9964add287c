-- Lines of calls leave it so.
use Rattle.std.proofs.Common.{◌≡◌, ℕ, Bool, true, false, cond, List, [], ◌∷◌, ◌++◌, map, Option, Some, None, refl, sym, ap, ◌∙◌, subst}
use Rattle.std.specs.Prelude.{is_some}
use Rattle.std.specs.List.{AllByRecursion}
use Rattle.std.specs.Str.{bytes_eq}
use Rattle.ivy_base.specs.Naming.{IsCollisionFree}
use Rattle.dhash_model.specs.Signed.{hss_judged}
use Rattle.log_model.proofs.Lists.{each, each_append, each_from, from_filter}
use Rattle.dht_ids.specs.declared.post.Post.{Post}
use Rattle.session_model.specs.Executions.Begins.{alone as begins_alone, refreshes as begins_refreshing}
use Rattle.session_model.specs.Sessions.{Said, Session}
use Rattle.script_driver.specs.Run.{Goes}
use Rattle.log_model.specs.View.{View}
use Rattle.script_model.specs.declared.command.Piece.{Piece}
use Rattle.script_model.specs.Messages.{message_of}
use Rattle.script_model.specs.Words.{◌>>=◌}
use Rattle.world_model.specs.Calls.{AsLine, BeginsWith, FinishLine, OpenLine, Sending, StepLine, replied, configuration_of, sending_of}
use Rattle.world_model.specs.Calls.AsLine.{calls}
use Rattle.world_model.specs.Calls.OpenLine.{opens}
use Rattle.world_model.specs.Calls.StepLine.{steps}
use Rattle.world_model.specs.Calls.FinishLine.{ends}
use Rattle.world_model.specs.Logs.{Played}
use Rattle.world_model.specs.GhostState.{GhostState, began_of, beginning, having_begun, without_began}
use Rattle.world_model.specs.World.{NamedSession, Participant, World, named_bytes, participant, session_named, without_session}
use Rattle.world_laws.specs.Invariant.{Invariant}
use Rattle.world_laws.proofs.Beginning.{calls_begin}
use Rattle.world_laws.proofs.Bringing.{found_named}
use Rattle.world_laws.proofs.OneCalls.{begins_by, found_session, replied_named}
use Rattle.world_laws.proofs.OneSteps.{GoesWell}
use Rattle.world_laws.proofs.OpenSessions.{begun_keeps, named_hand}
use Rattle.calm_laws.proofs.Stages.{SessionSo}
use Rattle.calm_laws.proofs.BackedWorlds.{IsBackedWorld, IsStagedIn}
use Rattle.calm_laws.proofs.BackedSteps.{ConfigurationSo, runs_so, steps_so}

-- who sends, and from which view
abbrev pub IsSentBy : World → List ℕ → Sending → Type 0
IsSentBy w name s = (participant w name ≡ Some s.by) × (s.by.agent.view ≡ Some s.view)

pub sent_by : (w : World) (name : List ℕ) (pieces : List Piece) (s : Sending) → sending_of w name pieces ≡ Some s → IsSentBy w name s
sent_by w name pieces s is = by_participant (participant w name) refl is
  where
    made : (p : Participant) (view : View) (message : List ℕ) → participant w name ≡ Some p → p.agent.view ≡ Some view → Some (record { by = p; view = view; message = message }) ≡ Some s → (participant w name ≡ Some s.by) × (s.by.agent.view ≡ Some s.view)
    made p view message found entered e =
        let same : record { by = p; view = view; message = message } ≡ s = some_sending _ _ e in
        (found ∙ ap (λ (x : Sending). Some x.by) same, subst (λ (x : Sending). x.by.agent.view ≡ Some x.view) same entered)
      where
        some_sending : (a b : Sending) → Some a ≡ Some b → a ≡ b
        some_sending a b e = cc e

    by_message : (p : Participant) (view : View) (o : Option (List ℕ)) → participant w name ≡ Some p → p.agent.view ≡ Some view → (o >>= λ message. Some (record { by = p; view = view; message = message })) ≡ Some s → (participant w name ≡ Some s.by) × (s.by.agent.view ≡ Some s.view)
    by_message p view None found entered e = cc e
    by_message p view (Some message) found entered e = made p view message found entered e

    by_view : (p : Participant) (o : Option View) → participant w name ≡ Some p → p.agent.view ≡ o → (o >>= λ view. message_of w.replies view pieces >>= λ message. Some (record { by = p; view = view; message = message })) ≡ Some s
        → (participant w name ≡ Some s.by) × (s.by.agent.view ≡ Some s.view)
    by_view p None found entered e = cc e
    by_view p (Some view) found entered e = by_message p view (message_of w.replies view pieces) found entered e

    by_participant : (o : Option Participant) → participant w name ≡ o → (o >>= λ p. p.agent.view >>= λ view. message_of w.replies view pieces >>= λ message. Some (record { by = p; view = view; message = message })) ≡ Some s
        → (participant w name ≡ Some s.by) × (s.by.agent.view ≡ Some s.view)
    by_participant None found e = cc e
    by_participant (Some p) found e = by_view p p.agent.view found refl e

begins_stage : (met : List (List ℕ)) (acked : List Post) (w : World) (s : Sending) (t : Session) → BeginsWith w s t → SessionSo met acked t
begins_stage met acked w s _ (begins_alone given by) = (tt, tt)
begins_stage met acked w s _ (begins_refreshing xid asked asks) = (tt, tt)

replied_so : (w : World) (st : GhostState) (said : Said) → IsBackedWorld w st → IsBackedWorld (replied w said) st
replied_so w st said h = by (is_some said.message)
  where
    by : (b : Bool) → IsBackedWorld (cond b (record w { replies = w.replies ++ record { handle = said.handle; verifier = said.verifier } ∷ [] }) w) st
    by true = record { nodes = h.nodes; agents = h.agents; sessions = h.sessions; put_met = h.put_met; received = h.received }
    by false = h

placed_so : (met : List (List ℕ)) (acked : List Post) (name : List ℕ) (s : Session) (xs : List NamedSession) → SessionSo met acked s → AllByRecursion (λ x. SessionSo met acked x.session) xs
    → AllByRecursion (λ x. SessionSo met acked x.session) (map (λ (x : NamedSession). cond (bytes_eq x.name name) (record { name = name; session = s }) x) xs)
placed_so met acked name s [] h all = tt
placed_so met acked name s (x ∷ xs) h all = (by (bytes_eq x.name name), placed_so met acked name s xs h all.1)
  where
    by : (b : Bool) → SessionSo met acked (cond b (record { name = name; session = s }) x).session
    by true = h
    by false = all.0

module _ (w : Played) (keeps : Invariant w) (h : IsBackedWorld w.0 w.1) where
  pub begun_well : (r : ℕ) → w.0.replicas ≡ Some r → (log : List ℕ) (pieces : List Piece) (s : Sending) → sending_of w.0 log pieces ≡ Some s → (t : Session) → BeginsWith w.0 s t
      → GoesWell r (record { world = w.0; ghost_state = having_begun w.1; session = t; began = beginning w.1 s.by.name })
  begun_well r ringed log pieces s sends t begins =
      let sent : IsSentBy w.0 log s = sent_by w.0 log pieces s sends in record {
        keeps = begun_keeps w keeps r ringed;
        hand = calls_begin w r s t keeps ringed (subst (λ (n : List ℕ). participant w.0 n ≡ Some s.by) (sym (found_named w.0.participants log s.by sent.0).1) sent.0) sent.1 begins;
        ringed = ringed;
      }

  pub open_well : (r : ℕ) → w.0.replicas ≡ Some r → (name : List ℕ) (s : Session) → session_named w.0 name ≡ Some s → GoesWell r (configuration_of w s (began_of w.1 name))
  open_well r ringed name s is = record { keeps = keeps; hand = (named_hand w keeps r ringed name s is).0; ringed = ringed }

  begun_so : IsBackedWorld w.0 (having_begun w.1)
  begun_so = record { nodes = h.nodes; agents = h.agents; sessions = h.sessions; put_met = h.put_met; received = h.received }

  pub as_so : (log : List ℕ) (pieces : List Piece) (o : Option Sending) → sending_of w.0 log pieces ≡ o → (next : Played) (output : List ℕ) → AsLine hss_judged w o (Goes next output) → IsCollisionFree (named_bytes next.0) → IsBackedWorld next.0 next.1
  as_so log pieces _ sends _ _ (calls s r t end said ringed begins runs over) apart =
      replied_so end.world end.ghost_state said
      (runs_so r runs (begins_by w.0 s t begins) (begun_well r ringed log pieces s sends t begins) (subst IsCollisionFree (replied_named end.world said) apart) (begun_so, begins_stage w.0.met w.1.acked w.0 s t begins)).0

  pub open_so : (name : List ℕ) (o : Option Sending) (next : Played) (output : List ℕ) → OpenLine hss_judged w name o (Goes next output) → IsBackedWorld next.0 next.1
  open_so name _ _ _ (opens s t closed begins) = record {
    nodes = h.nodes;
    agents = h.agents;
    sessions = each_append (IsStagedIn w.0 w.1) w.0.sessions (record { name = name; session = t } ∷ []) h.sessions (begins_stage w.0.met w.1.acked w.0 s t begins, tt);
    put_met = h.put_met;
    received = h.received;
  }

  named_so : (name : List ℕ) (s : Session) → session_named w.0 name ≡ Some s → ConfigurationSo (configuration_of w s (began_of w.1 name))
  named_so name s is = let x = found_session w.0.sessions name s is in (h, subst (λ (t : Session). SessionSo w.0.met w.1.acked t) x.3 (each (IsStagedIn w.0 w.1) w.0.sessions x.0 h.sessions x.1))

  pub step_so : (name : List ℕ) (count : ℕ) (o : Option Session) → session_named w.0 name ≡ o → (next : Played) (output : List ℕ) → StepLine hss_judged w name count o (Goes next output) → IsCollisionFree (named_bytes next.0) → IsBackedWorld next.0 next.1
  step_so name count _ is _ _ (steps s r end counts ringed on) apart =
      let done = steps_so r on refl (open_well r ringed name s is) apart (named_so name s is) in
      record { nodes = done.0.nodes; agents = done.0.agents; sessions = placed_so end.world.met end.ghost_state.acked name end.session end.world.sessions done.1 done.0.sessions; put_met = done.0.put_met; received = done.0.received }

  pub finish_so : (name : List ℕ) (o : Option Session) → session_named w.0 name ≡ o → (next : Played) (output : List ℕ) → FinishLine hss_judged w name o (Goes next output) → IsCollisionFree (named_bytes next.0) → IsBackedWorld next.0 next.1
  finish_so name _ is _ _ (ends s r end said ringed runs over) apart =
      let done = runs_so r runs refl (open_well r ringed name s is) (subst IsCollisionFree (replied_named (without_session end.world name) said) apart) (named_so name s is) in
      replied_so (without_session end.world name) (without_began end.ghost_state name) said (record {
        nodes = done.0.nodes;
        agents = done.0.agents;
        sessions = each_from (IsStagedIn end.world end.ghost_state) (without_session end.world name).sessions (λ s c. each (IsStagedIn end.world end.ghost_state) end.world.sessions s done.0.sessions (from_filter _ end.world.sessions s c).0);
        put_met = done.0.put_met;
        received = done.0.received;
      })
