-- Sessions of the code that are in hand in a world that it may be: one that begins, and one that is open.
use Rattle.std.proofs.Common.{◌≡◌, ◌≢◌, inl, ℕ, Bool, true, false, cond, List, [], ◌∷◌, ◌++◌, refl, sym, ap, ◌∙◌, subst, Option, Some, None}
use Rattle.std.specs.Prelude.{IfSome, IsTrue, find, is_some, option_map}
use Rattle.log_model.specs.View.{View}
use Rattle.script_model.specs.Words.{◌>>=◌}
use Rattle.script_model.specs.declared.command.Piece.{Piece}
use Rattle.script_model.specs.Messages.{Given, message_of}
use Rattle.session_model.specs.Executions.Begins.{alone as begins_alone, refreshes as begins_refreshing}
use Rattle.session_model.specs.Sessions.{Over, Said, Session}
use Rattle.world_model.specs.Calls.{BeginsWith, Sending, replied, configuration_of, sending_of}
use Rattle.world_model.specs.Logs.{Played}
use Rattle.world_model.specs.Nodes.{Node}
use Rattle.world_model.specs.Steps.{Configuration}
use Rattle.world_model.specs.GhostState.{beginning, began_of, having_begun}
use Rattle.world_model.specs.World.{NamedSession, Participant, World, participant}
use Rattle.world_laws.specs.Invariant.{HasRing, IsAtStage, IsInHand}
use Rattle.world_laws.proofs.Beginning.{calls_begin}
use Rattle.world_laws.proofs.Bringing.{found_named}
use Rattle.world_laws.proofs.OpenSessions.{begun_keeps, named_hand}
use Rattle.world_laws.proofs.SessionLinesSteps.{runs_lead}
use Rattle.script_world.specs.CallsState.{CallState, IsRepresentedOf, LeavesGiven, Served, RepresentsBy, RepresentsSession}
use Rattle.script_world.specs.PartsState.{HasParts, PartsState}
use Rattle.script_world.specs.Running.{BeginsOf, IsConfigurationIn, IsRepresentedIn, MayCall, RepliesIn, RunsOutIn}
use Rattle.script_world.proofs.Sent.{sends, sends_in}
use Rattle.script_machine.specs.Ends.{EndsIn}
use Rattle.script_machine.specs.WorldState.{HasWorld, IsOpenAs, KeepsAll, OpenState, RepresentsWorld, WorldState}
use Rattle.script_machine.proofs.Opened.{has_name}

-- ---- calls may begin

pub may_call : (s : WorldState) → HasWorld s → MayCall s.parts
may_call s (w, shows, keeps) =
    subst (λ (o : Option ℕ). IfSome o (λ r. s.parts.nodes.nodes ≢ [])) shows.parts.replicas (subst (λ (ns : List Node). IfSome w.0.replicas (λ r. ns ≢ [])) shows.parts.nodes.0 (by w.0.replicas keeps.0.ring))
  where
    by : (o : Option ℕ) → HasRing w.0 o → IfSome o (λ r. w.0.nodes ≢ [])
    by None ring = tt
    by (Some r) ring = ring.1

-- ---- one that begins

-- it sends something, and the call shows the session that begins with it
pub record IsBegun (s : PartsState) (w : World) (log : List ℕ) (pieces : List Piece) (call : CallState) : Type 0 where
  pub sending : Sending
  pub sends : sending_of w log pieces ≡ Some sending
  pub session : Session
  pub begins : BeginsWith w sending session
  pub shown : IsRepresentedIn s session call

pub begun_so : (s : PartsState) (w : World) (log : List ℕ) (pieces : List Piece) (call : CallState) → BeginsOf s (Some call) w (sending_of w log pieces) → IsBegun s w log pieces call
begun_so s w log pieces call begins = by (sending_of w log pieces) refl begins
  where
    by : (o : Option Sending) → sending_of w log pieces ≡ o → BeginsOf s (Some call) w o → IsBegun s w log pieces call
    by None is h = absurd (cc h)
    by (Some sending) is h = record { sending = sending; sends = is; session = h.0; begins = h.1; shown = h.2 }

-- nothing is sent
pub nothing_sent : (s : PartsState) (w : World) (log : List ℕ) (pieces : List Piece) → BeginsOf s None w (sending_of w log pieces) → sending_of w log pieces ≡ None
nothing_sent s w log pieces begins = by (sending_of w log pieces) refl begins
  where
    by : (o : Option Sending) → sending_of w log pieces ≡ o → BeginsOf s None w o → o ≡ None
    by None is h = refl
    by (Some sending) is h = absurd h

sent_by : (w : World) (log : List ℕ) (pieces : List Piece) (s : Sending) → sending_of w log pieces ≡ Some s → (participant w log ≡ Some s.by) × (s.by.agent.view ≡ Some s.view)
sent_by w log pieces s is = by (participant w log) refl is
  where
    said : (p : Participant) (view : View) (m : Option (List ℕ)) → (m >>= λ message. Some (record { by = p; view = view; message = message })) ≡ Some s → (s.by ≡ p) × (s.view ≡ view)
    said p view None e = absurd (cc e)
    said p view (Some message) e = let it : Sending = record { by = p; view = view; message = message } in let same : it ≡ s = cc e in (ap (λ (x : Sending). x.by) (sym same), ap (λ (x : Sending). x.view) (sym same))

    in_view : (p : Participant) → participant w log ≡ Some p → (v : Option View) → p.agent.view ≡ v → (v >>= sends_in w pieces p) ≡ Some s → (participant w log ≡ Some s.by) × (s.by.agent.view ≡ Some s.view)
    in_view p found None inside e = absurd (cc e)
    in_view p found (Some view) inside e =
        let same = said p view (message_of w.replies view pieces) e in
        (found ∙ ap (λ (q : Participant). Some q) (sym same.0), ap (λ (q : Participant). q.agent.view) same.0 ∙ inside ∙ ap (λ (v : View). Some v) (sym same.1))

    by : (o : Option Participant) → participant w log ≡ o → (o >>= sends w pieces) ≡ Some s → (participant w log ≡ Some s.by) × (s.by.agent.view ≡ Some s.view)
    by None found e = absurd (cc e)
    by (Some p) found e = in_view p found p.agent.view refl e

begins_by : (w : World) (s : Sending) (t : Session) → BeginsWith w s t → t.by ≡ s.by.name
begins_by w s _ (begins_alone given by) = refl
begins_by w s _ (begins_refreshing xid asked asks) = refl

module _ (s : WorldState) (w : Played) (shows : RepresentsWorld s w) (keeps : KeepsAll w) where
  module _ (log : List ℕ) (pieces : List Piece) (call : CallState) (is : IsBegun s.parts w.0 log pieces call) where
    abbrev pub r : ℕ
    r = call.session.replicas

    abbrev pub start : Configuration
    start = record { world = w.0; ghost_state = having_begun w.1; session = is.session; began = beginning w.1 is.sending.by.name }

    pub ringed : w.0.replicas ≡ Some r
    ringed = shows.parts.replicas ∙ is.shown.replicas

    sent : (participant w.0 log ≡ Some is.sending.by) × (is.sending.by.agent.view ≡ Some is.sending.view)
    sent = sent_by w.0 log pieces is.sending is.sends

    pub named : is.sending.by.name ≡ log
    named = (found_named w.0.participants log is.sending.by sent.0).1

    pub begun_by : is.session.by ≡ log
    begun_by = begins_by w.0 is.sending is.session is.begins ∙ named

    pub begun_hand : IsInHand start r
    begun_hand = calls_begin w r is.sending is.session keeps.0 ringed (subst (λ (n : List ℕ). participant w.0 n ≡ Some is.sending.by) (sym named) sent.0) sent.1 is.begins

    pub begun_configuration : IsConfigurationIn s.parts log call start r
    begun_configuration = record {
      way = record { keeps = begun_keeps w keeps.0 r ringed; ring = ringed; hand = inl begun_hand };
      parts = shows.parts;
      named = begun_by;
      replicas = refl;
      shows = is.shown.shows;
    }

  -- ---- one that is open

  module _ (name : List ℕ) (t : NamedSession) (o : OpenState) (found : find (has_name name) w.0.sessions ≡ Some t) (is : IsOpenAs w.0.replicas t o) where
    abbrev pub here : Configuration
    here = configuration_of w t.session (began_of w.1 name)

    pub open_hand : IsInHand here o.call.session.replicas
    open_hand = (named_hand w keeps.0 o.call.session.replicas is.replicas name t.session (ap (option_map (λ (x : NamedSession). x.session)) found)).0

    pub open_configuration : IsConfigurationIn s.parts o.by o.call here o.call.session.replicas
    open_configuration = record {
      way = record { keeps = keeps.0; ring = is.replicas; hand = inl open_hand };
      parts = shows.parts;
      named = is.by;
      replicas = refl;
      shows = is.shows;
    }

-- ---- one that has come to its end

-- it has said something
said_then : (c : Configuration) (r : ℕ) (call : CallState) → IsTrue (is_some call.told) → RepresentsSession c.session call → IsInHand c r → (said : Said) × (c.session.stage ≡ Over (Some said))
said_then c r call told shows hand = by call.told told shows
  where
    some_said : (o : Option Said) → c.session.stage ≡ Over o → IsTrue (is_some o) → (said : Said) × (c.session.stage ≡ Over (Some said))
    some_said None over some = absurd (cc some)
    some_said (Some said) over some = (said, over)

    by : (o : Option Served) → IsTrue (is_some o) → RepresentsBy c.session call o → (said : Said) × (c.session.stage ≡ Over (Some said))
    by None some is = absurd (cc some)
    by (Some served) some is = some_said is.said is.is_over (subst (IsAtStage c.world r c.session) is.is_over hand.goes_on.stage)

-- a reply changes neither the ring nor the open sessions
pub replied_ring : (w : World) (said : Said) → (replied w said).replicas ≡ w.replicas
replied_ring w said = by (is_some said.message)
  where
    by : (b : Bool) → (cond b (record w { replies = w.replies ++ record { handle = said.handle; verifier = said.verifier } ∷ [] }) w).replicas ≡ w.replicas
    by true = refl
    by false = refl

pub ends_so : (name : List ℕ) (before : PartsState) (old : CallState) (after : PartsState) (new : CallState) (text : List ℕ) (given : Option Given) (later : PartsState)
    → RunsOutIn name before old after new → IsRepresentedOf new text → LeavesGiven new given → RepliesIn given after later → EndsIn name before old later text
ends_so name before old after new text given later runs shown leaves replies c r configuration hand =
    let to = runs.1 c r configuration in
    let led = runs_lead r name to.1 configuration.named configuration.way.keeps hand configuration.way.ring in
    let said = said_then to.0 r new runs.0 to.2.shown.shows led.leaves.1 in
    record {
      end = to.0;
      said = said.0;
      runs = to.1;
      over = said.1;
      shown = shown to.0.session said.0 to.2.shown.shows said.1;
      sessions = to.2.goes_on.1;
      ring = to.2.ring;
      counts = λ others. replies (record to.0.world { sessions = others }) said.0 (with_others to.0.world others to.2.goes_on.0) (leaves to.0.session said.0 to.2.shown.shows said.1);
    }
  where
    with_others : (w : World) (others : List NamedSession) → HasParts w after → HasParts (record w { sessions = others }) after
    with_others w others has = record { replicas = has.replicas; nodes = has.nodes; participants = has.participants; views = has.views; replies = has.replies; moment = has.moment; met = has.met }
