-- A call that begins.
use Rattle.std.proofs.Common.{◌≡◌, ◌≢◌, ℕ, false, List, [], Option, Some, None, refl, sym, ap, ◌∙◌, subst}
use Rattle.std.specs.Prelude.{IfSome}
use Rattle.log_heads.specs.declared.judge.HssJudge.{HssJudge}
use Rattle.log_model.specs.View.{View}
use Rattle.dht_ids.specs.declared.peer.Peer.{Peer}
use Rattle.dht_ids.specs.declared.post.Post.{Post}
use Rattle.agent_model.specs.Standing.{Standing}
use Rattle.session_model.specs.Executions.{Begins, publishing_session}
use Rattle.session_model.specs.Executions.Begins.{alone, refreshes}
use Rattle.session_model.specs.Sessions.{Session}
use Rattle.ivy_session.specs.States.{BeginsAs, IsSession, SessionState, is_turning, session_awaited}
use Rattle.ring_nodes.specs.NodesState.{IsNodesOf, NodesState}
use Rattle.script_participants.specs.ParticipantState.{ParticipantState, state_of}
use Rattle.world_model.specs.Agents.{hss_standing_in}
use Rattle.world_model.specs.Calls.{BeginsWith}
use Rattle.world_model.specs.Logs.{empty_view, to_publish}
use Rattle.world_model.specs.World.{Participant, World, entries}
use Rattle.world_laws.proofs.WholePublishing.{some_entries}
use Rattle.session_steps.specs.Configurations.{given_at, given_of}
use Rattle.session_steps.specs.Representing.{BeginsIn, CallState, IsUntold, RepresentsSession, judges}

-- the call of that session, which has said nothing yet
abbrev pub of_session : SessionState HssJudge → CallState
of_session st = record { session = st; given = record { handle = None; verifier = None }; told = None }

pub same_call : (call : CallState) (st : SessionState HssJudge) → call.session ≡ st → call.given ≡ record { handle = None; verifier = None } → call.told ≡ None → of_session st ≡ call
same_call call st session given told = λ i. record { session = sym session i; given = sym given i; told = sym told i }

begun_at : {by message : List ℕ} {entries : List Peer} {standing : Standing} {s : Session} → Begins by message entries standing s → (s.entries ≡ entries) × (given_of None ≡ given_at s.stage)
begun_at (alone given is) = (refl, refl)
begun_at (refreshes xid asked asks) = (refl, refl)

module _ (nodes : NodesState) (some : nodes.nodes ≢ []) (w : World) (is : IsNodesOf w nodes) where
  -- the world has a node, so sessions know one
  knows_some : entries w ≢ []
  knows_some = some_entries w (λ none. some (sym is.0 ∙ none))

  untold_so : (s : Session) (st : SessionState HssJudge) → s.entries ≡ entries w → IsSession judges s st → session_awaited st ≡ None → is_turning st.stage ≡ false → given_of None ≡ given_at s.stage → IsUntold s (of_session st)
  untold_so s st known session free no_turn gives = record {
    some_entry = λ none. knows_some (sym known ∙ none);
    session = session;
    asked = λ waits. absurd (waits free);
    no_turn = no_turn;
    gives = gives;
  }

module _ (nodes : NodesState) (who : ParticipantState) (st : SessionState HssJudge) (peers : List Peer) (some : nodes.nodes ≢ []) (known : (w : World) → IsNodesOf w nodes → peers ≡ entries w) (has : st.entries ≡ peers)
    (free : session_awaited st ≡ None) (no_turn : is_turning st.stage ≡ false) where
  pub begins_in : (message : List ℕ) (standing : Standing) → IfSome who.agent.view (λ view. standing ≡ hss_standing_in who.agent view) → BeginsAs judges message standing st → BeginsIn nodes who message (of_session st)
  begins_in message standing stands begins w p is is_who =
      by p.agent.view (subst (λ (who : ParticipantState). IfSome who.agent.view (λ view. standing ≡ hss_standing_in who.agent view)) (sym is_who) stands)
    where
      there : (view : View) → standing ≡ hss_standing_in p.agent view → (s : Session) × BeginsWith w (record { by = p; view = view; message = message }) s × RepresentsSession s (of_session st)
      there view stands =
          let begun = begins p.name in
          let at = begun_at begun.1 in (
            begun.0,
            subst (λ (s : Standing). Begins p.name message (entries w) s begun.0) stands (subst (λ (ps : List Peer). Begins p.name message ps standing begun.0) (has ∙ known w is) begun.1),
            untold_so nodes some w is begun.0 st (at.0 ∙ has ∙ known w is) begun.2 free no_turn at.1,
          )

      by : (o : Option View) → IfSome o (λ view. standing ≡ hss_standing_in p.agent view)
          → IfSome o (λ view. (s : Session) × BeginsWith w (record { by = p; view = view; message = message }) s × RepresentsSession s (of_session st))
      by None stands = tt
      by (Some view) stands = there view stands

  pub publishes_in : (pending : List Post) → pending ≡ who.agent.pending → ((by : List ℕ) (standing : Standing) → IsSession judges (publishing_session by st.entries standing pending) st)
      → (w : World) (p : Participant) → IsNodesOf w nodes → state_of p ≡ who → RepresentsSession (to_publish w p) (of_session st)
  publishes_in pending is_pending begun w p is is_who =
      untold_so nodes some w is (to_publish w p) st refl
      (subst (λ (posts : List Post). IsSession judges (publishing_session p.name (entries w) (hss_standing_in p.agent empty_view) posts) st) (is_pending ∙ sym (ap (λ (who : ParticipantState). who.agent.pending) is_who))
      (subst (λ (ps : List Peer). IsSession judges (publishing_session p.name ps (hss_standing_in p.agent empty_view) pending) st) (has ∙ known w is) (begun p.name (hss_standing_in p.agent empty_view))))
      free no_turn refl
