-- The configurations in which the lines of calls begin, from which steps go on.
use Rattle.std.proofs.Common.{◌≡◌, ℕ, List, Some, sym, subst}
use Rattle.script_model.specs.declared.command.Piece.{Piece}
use Rattle.session_model.specs.Sessions.{Session}
use Rattle.world_model.specs.Calls.{BeginsWith, Sending, configuration_of, sending_of}
use Rattle.world_model.specs.Logs.{Played}
use Rattle.world_model.specs.Steps.{Configuration}
use Rattle.world_model.specs.GhostState.{began_of, beginning, having_begun}
use Rattle.world_model.specs.World.{participant, session_named}
use Rattle.world_laws.specs.Invariant.{Invariant}
use Rattle.world_laws.proofs.Beginning.{calls_begin}
use Rattle.world_laws.proofs.Bringing.{found_named}
use Rattle.world_laws.proofs.OneSteps.{GoesWell}
use Rattle.world_laws.proofs.Opening.{sent_by}
use Rattle.world_laws.proofs.OpenSessions.{begun_keeps, named_hand}

-- of a whole call
abbrev pub begun_configuration : Played → Sending → Session → Configuration
begun_configuration w s t = record { world = w.0; ghost_state = having_begun w.1; session = t; began = beginning w.1 s.by.name }

-- of an open session
abbrev pub open_configuration : Played → List ℕ → Session → Configuration
open_configuration w name s = configuration_of w s (began_of w.1 name)

module _ (w : Played) (keeps : Invariant w) (r : ℕ) (ringed : w.0.replicas ≡ Some r) where
  pub begun_well : (log : List ℕ) (pieces : List Piece) (s : Sending) → sending_of w.0 log pieces ≡ Some s → (t : Session) → BeginsWith w.0 s t → GoesWell r (begun_configuration w s t)
  begun_well log pieces s sends t begins =
      let sent = sent_by w.0 log pieces s sends in record {
        keeps = begun_keeps w keeps r ringed;
        hand = calls_begin w r s t keeps ringed (subst (λ (n : List ℕ). participant w.0 n ≡ Some s.by) (sym (found_named w.0.participants log s.by sent.is_by).1) sent.is_by) sent.in_view begins;
        ringed = ringed;
      }

  pub open_well : (name : List ℕ) (s : Session) → session_named w.0 name ≡ Some s → GoesWell r (open_configuration w name s)
  open_well name s is = record { keeps = keeps; hand = (named_hand w keeps r ringed name s is).0; ringed = ringed }
