-- A session that begins in a world in which the invariant holds satisfies it.
use Rattle.std.proofs.Common.{◌≡◌, ℕ, List, [], ◌∷◌, ◌++◌, Option, Some, refl, subst, arith, le_refl}
use Rattle.std.specs.Prelude.{IfSome, Contains}
use Rattle.std.specs.List.{AllByRecursion}
use Rattle.dhash_model.specs.declared.miss.Miss.{Miss}
use Rattle.log_model.proofs.Lists.{each, in_nothing}
use Rattle.log_model.specs.Vector.{seq_of}
use Rattle.log_model.specs.View.{View}
use Rattle.turn_model.specs.Basis.{nothing_held}
use Rattle.session_model.specs.Brought.{Brought, BlockOf}
use Rattle.std.specs.Prelude.{Ok}
use Rattle.session_model.specs.Executions.{fresh_session}
use Rattle.session_model.specs.Executions.Begins.{alone as answered_alone, refreshes as begins_refreshing}
use Rattle.session_model.specs.Refreshing.{FailsBy, Refreshes}
use Rattle.session_model.specs.Replies.{said_bare}
use Rattle.session_model.specs.Sessions.{Over, Refreshing, Session, Stage}
use Rattle.session_laws.specs.Going.{ComesTo}
use Rattle.session_laws.specs.Loading.{IsSnapshotOf}
use Rattle.session_laws.proofs.Going.{refresh_begins}
use Rattle.session_laws.proofs.Missing.{fails_by_the_last}
use Rattle.world_model.specs.Agents.{hss_standing_in}
use Rattle.world_model.specs.Calls.{BeginsWith, Sending}
use Rattle.world_model.specs.World.{Participant, entries, participant}
use Rattle.world_model.specs.GhostState.{Began, beginning, having_begun, knowing_of, known_of}
use Rattle.world_model.specs.Logs.{Played}
use Rattle.world_laws.specs.Causes.{said_at}
use Rattle.world_laws.specs.Causes.HasCause.{alone}
use Rattle.world_laws.specs.Invariant.{AreSound, HasSaid, IsAtStage, IsInHand, IsMetPost, IsSound, IsSoundIn, IsSoundSession, Invariant}
use Rattle.world_laws.specs.Invariant.KeepsUp.{still}
use Rattle.world_laws.specs.Laws.{CallsBegin}
use Rattle.world_laws.proofs.Bringing.{found_named}
use Rattle.world_laws.proofs.Frames.{ring_of}
use Rattle.world_laws.proofs.TakingOn.{on_so}
use Rattle.world_laws.proofs.WholePublishing.{entries_made, some_entries}

pub none_last : (before : List Brought) (last : Brought) → [] ≡ before ++ last ∷ [] → ⊥
none_last [] last e = cc e
none_last (b ∷ before) last e = cc e

module _ (w : Played) (r : ℕ) (s : Sending) (keeps : Invariant w) (ringed : w.0.replicas ≡ Some r) (is_by : participant w.0 s.by.name ≡ Some s.by) (in_view : s.by.agent.view ≡ Some s.view) where
  abbrev p : Participant
  p = s.by

  abbrev begun : Stage → Session
  begun stage = fresh_session p.name s.message (entries w.0) (hss_standing_in p.agent s.view) stage

  abbrev began : Began
  began = beginning w.1 p.name

  sound_so : (stage : Stage) → AreSound w.0 w.1 → IsSoundSession w.0 (having_begun w.1) (begun stage) began
  sound_so stage sound = record {
    by = p;
    is_by = is_by;
    of = p.agent.holding;
    knows = agent.knows;
    held = refl;
    edges = refl;
    to_load = subst (λ (o : Option View). IfSome o (λ view. IfSome p.agent.to_load (λ root. (p.agent.holding ≡ nothing_held) × IsSnapshotOf w.0.met view (known_of w.1 p.name) root))) in_view
        (each (λ (q : Participant). IfSome q.agent.view (λ view. IfSome q.agent.to_load (λ root. (q.agent.holding ≡ nothing_held) × IsSnapshotOf w.0.met view (known_of w.1 q.name) root))) w.0.participants p sound.to_load among);
    known = λ q c. c;
    floor = λ log. le_refl (seq_of p.agent.floor log);
    keeps_up = still refl refl refl;
    anew = λ some. absurd (omega (arith, some));
    stays_fresh = λ fresh. fresh;
    received = λ e c. absurd (in_nothing e c);
    blocks = λ key bytes c. absurd (in_nothing (BlockOf key (Ok bytes)) c);
  }
    where
      among : Contains w.0.participants p
      among = (found_named w.0.participants p.name p is_by).0

      agent : IsSound w.0.met p (knowing_of w.1 p.name) s.view
      agent = subst (IsSoundIn w.0.met p (knowing_of w.1 p.name)) in_view (each (λ (q : Participant). IsSoundIn w.0.met q (knowing_of w.1 q.name) q.agent.view) w.0.participants p sound.agents among)

  hand_so : (stage : Stage) → IsAtStage w.0 r (begun stage) stage → HasSaid (having_begun w.1) began.number (begun stage) (said_at stage) → IsInHand (record { world = w.0; ghost_state = having_begun w.1; session = begun stage; began = began }) r
  hand_so stage at_stage has_said = record {
    number = omega arith;
    goes_on = record {
      by = p;
      is_by = is_by;
      in_view = in_view;
      own_key = refl;
      some_entry = some_entries w.0 (ring_of w keeps ringed).1;
      entries = entries_made w.0;
      heard = tt;
      pending = each (λ (q : Participant). AllByRecursion (IsMetPost w.0.met) q.agent.pending) w.0.participants p keeps.met.pending (found_named w.0.participants p.name p is_by).0;
      stage = at_stage;
    };
    said = has_said;
    sound = λ apart. sound_so stage (keeps.sound apart);
  }

  came : ComesTo (hss_standing_in p.agent s.view) []
  came = refresh_begins (hss_standing_in p.agent s.view)

  goes : {miss : Miss} → came.end ≡ FailsBy miss → ⊥
  goes {miss} is =
      let last = fails_by_the_last (hss_standing_in p.agent s.view) [] came.notes came.given miss (subst (Refreshes (hss_standing_in p.agent s.view) [] came.notes came.given) is came.refreshes) in
      none_last last.0 last.1 last.2

  begins_so : (t : Session) → BeginsWith w.0 s t → IsInHand (record { world = w.0; ghost_state = having_begun w.1; session = t; began = began }) r
  begins_so _ (answered_alone given by) = hand_so (Over (Some (said_bare given))) refl (alone given by)
  begins_so _ (begins_refreshing xid asked asks) = hand_so Refreshing (record {
    xid = xid;
    asked = asked;
    asks = asks;
    notes = came.notes;
    given = came.given;
    end = came.end;
    refreshed = came.refreshes;
    goes_on = on_so r (begun Refreshing) (some_entries w.0 (ring_of w keeps ringed).1) refl came.end (λ miss is. goes is);
  }) tt

pub calls_begin : CallsBegin
calls_begin w r s t keeps ringed is_by in_view begins = begins_so w r s keeps ringed is_by in_view t begins
