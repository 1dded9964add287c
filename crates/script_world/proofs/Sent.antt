-- A session that begins with what the line of a call sends.
use Rattle.std.proofs.Common.{◌≡◌, ℕ, List, [], ◌∷◌, map, find, refl, sym, ap, ◌∙◌, subst, Option, Some, None}
use Rattle.std.specs.Prelude.{IfSome, option_map}
use Rattle.std.specs.Str.{bytes_eq}
use Rattle.log_model.specs.View.{View}
use Rattle.script_model.specs.Words.{◌>>=◌}
use Rattle.script_model.specs.declared.command.Piece.{Piece}
use Rattle.script_model.specs.Messages.{Given, message_of}
use Rattle.session_model.specs.Sessions.{Session}
use Rattle.world_model.specs.Calls.{BeginsWith, Sending, sending_of}
use Rattle.world_model.specs.World.{Participant, World, participant}
use Rattle.script_participants.specs.ParticipantState.{ParticipantState, state_of}
use Rattle.session_steps.specs.Representing.{BeginsIn, CallState, RepresentsSession}
use Rattle.script_world.specs.PartsState.{HasParts, PartsState}
use Rattle.script_world.specs.Running.{BeginsOf}
use Rattle.script_world.proofs.Keeping.{nobody_named, one_named}

module _ (w : World) (pieces : List Piece) where
  -- what a participant sends in a view
  abbrev pub sends_in : Participant → View → Option Sending
  sends_in p view = message_of w.replies view pieces >>= λ message. Some (record { by = p; view = view; message = message })

  abbrev pub sends : Participant → Option Sending
  sends p = p.agent.view >>= sends_in p

module _ (w : World) (s : PartsState) (has : HasParts w s) (log : List ℕ) (pieces : List Piece) where
  begins_nothing : sending_of w log pieces ≡ None → BeginsOf s None w (sending_of w log pieces)
  begins_nothing none = subst (BeginsOf s None w) (sym none) refl

  pub nobody_begins : option_map state_of (participant w log) ≡ None → BeginsOf s None w (sending_of w log pieces)
  nobody_begins none = begins_nothing (ap (λ (o : Option Participant). o >>= sends w pieces) (nobody_named (participant w log) none))

  -- before the ring
  pub nobody_there : s.participants ≡ [] → BeginsOf s None w (sending_of w log pieces)
  nobody_there none = begins_nothing (ap (λ (ps : List Participant). find (λ (p : Participant). bytes_eq p.name log) ps >>= sends w pieces) (empty w.participants (has.participants ∙ none)))
    where
      empty : (ps : List Participant) → map state_of ps ≡ [] → ps ≡ []
      empty [] e = refl
      empty (p ∷ ps) e = absurd cc

  module _ (x : ParticipantState) (found : Some x ≡ option_map state_of (participant w log)) where
    abbrev its : (p : Participant) × (participant w log ≡ Some p) × (state_of p ≡ x)
    its = one_named (participant w log) x (sym found)

    abbrev p : Participant
    p = its.0

    sends_so : (o : Option View) → x.agent.view ≡ o → sending_of w log pieces ≡ (o >>= sends_in w pieces p)
    sends_so o in_view = ap (λ (q : Option Participant). q >>= sends w pieces) its.1 ∙ ap (λ (v : Option View). v >>= sends_in w pieces p) (ap (λ (y : ParticipantState). y.agent.view) its.2 ∙ in_view)

    pub outside_begins : x.agent.view ≡ None → BeginsOf s None w (sending_of w log pieces)
    outside_begins outside = begins_nothing (sends_so None outside)

    module _ (view : View) (in_view : x.agent.view ≡ Some view) where
      sends_message : (o : Option (List ℕ)) → o ≡ message_of s.replies view pieces → sending_of w log pieces ≡ (o >>= λ message. Some (record { by = p; view = view; message = message }))
      sends_message o is = sends_so (Some view) in_view ∙ ap (λ (m : Option (List ℕ)). m >>= λ message. Some (record { by = p; view = view; message = message }))
          (ap (λ (replies : List Given). message_of replies view pieces) has.replies ∙ sym is)

      pub no_message_begins : None ≡ message_of s.replies view pieces → BeginsOf s None w (sending_of w log pieces)
      no_message_begins none = begins_nothing (sends_message None none)

      pub begins : (message : List ℕ) (call : CallState) → Some message ≡ message_of s.replies view pieces → BeginsIn s.nodes x message call → s.replicas ≡ Some call.session.replicas
          → BeginsOf s (Some call) w (sending_of w log pieces)
      begins message call said begun ring = subst (BeginsOf s (Some call) w) (sym (sends_message (Some message) said)) (t.0, t.1, record { replicas = ring; shows = t.2 })
        where
          Begun : Option View → Type 0
          Begun o = IfSome o (λ v. (t : Session) × BeginsWith w (record { by = p; view = v; message = message }) t × RepresentsSession t call)

          t : (t : Session) × BeginsWith w (record { by = p; view = view; message = message }) t × RepresentsSession t call
          t = subst Begun (ap (λ (y : ParticipantState). y.agent.view) its.2 ∙ in_view) (begun w p has.nodes its.2)
