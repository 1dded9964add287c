-- A session is told of its turn, as steps of the session of the definitions.
use Rattle.std.proofs.Common.{◌≡◌, ◌⊎◌, ⊎_elim, inl, inr, ℕ, ◌+◌, ◌<◌, ◌≤◌, Bool, true, false, List, [], Some, None, Ok, Err, if◌then◌else◌, ◌==◌, refl, sym, ap, ◌∙◌, subst}
use Rattle.std.proofs.lemmas.List.{append-nil}
use Rattle.log_model.specs.View.{View}
use Rattle.wire_model.specs.Rpc.{Success, reply}
use Rattle.nfs_model.specs.Arguments.{mount_program, program_of}
use Rattle.nfs_model.specs.declared.arguments.Args.{Args}
use Rattle.nfs_model.specs.declared.arguments.Args.TheVariants as args
use Rattle.nfs_model.specs.declared.replies.Reply.{Reply}
use Rattle.nfs_model.specs.Results.{result as bytes_of}
use Rattle.nfs_model.specs.Reading.{mount_answer}
use Rattle.dhash_client.specs.GetHead.{Judges}
use Rattle.agent_model.specs.Standing.{Standing}
use Rattle.session_model.specs.Replies.{alone_answer, said_no_memory, said_of}
use Rattle.session_model.specs.Sessions.{Over, Session}
use Rattle.session_model.specs.Executions.{LacksMemory, anew, answered_by_turn, ended}
use Rattle.log_fetch.specs.declared.standing.Standing.{Standing as Given}
use Rattle.log_fetch.specs.declared.turned.Turned.{Turned}
use Rattle.log_fetch.specs.declared.turned.TurnFault.TheVariants as fault
use Rattle.log_fetch.specs.Standings.{asked_of, notes_of, standing_of}
use Rattle.view_refresh.specs.States.{Refreshing as RefreshState}
use Rattle.ivy_session.specs.Publishing.{PublishingIsAfter, PublishingState, publishing_begun, stage_of}
use Rattle.ivy_session.specs.declared.served.Call.{Call}
use Rattle.ivy_session.specs.declared.served.Served.TheVariants as served
use Rattle.ivy_session.specs.declared.session.Stage.{Stage}
use Rattle.ivy_session.specs.declared.session.Stage.TheVariants as stage
use Rattle.ivy_session.specs.States.{IsCallOf, IsSession, SessionState, served_of}
use Rattle.ivy_session.specs.Stepping.{IsRefused, IsTurned, TurnedIs}
use Rattle.ivy_session.specs.Ending.{BeginsAgain, IsRefreshFor, lacking, replying}
use Rattle.ivy_session.proofs.Refreshes.{begun_comes, lacks_so}

-- ---- what needs no turn needs none in any view

some_or_none : {T : Type 0} (x : T) → Some x ≡ None → ⊥
some_or_none x e = cc e

by_test : (b : Bool) (x y : Reply) → (if b then Some x else None) ≡ None → (if b then Some y else None) ≡ None
by_test true x y e = absurd (some_or_none x e)
by_test false x y e = refl

needs_turn : (v w : View) (a : Args) → alone_answer v a ≡ None → alone_answer w a ≡ None
needs_turn v w args.Null e = absurd (some_or_none _ e)
needs_turn v w a e = by_test (program_of a == mount_program) (mount_answer v a) (mount_answer w a) e

call_anew : (s : Session) (st : Standing) (c : Call) → IsCallOf s c → IsCallOf (anew s st) c
call_anew s st c h = record {
  asks = record { call = h.asks.call; is_call = h.asks.is_call; xid_is = h.asks.xid_is; served = h.asks.served; caller = h.asks.caller; arguments = h.asks.arguments; not_alone = needs_turn s.standing.view st.view c.asked.args h.asks.not_alone };
  caller = h.caller;
  args = h.args;
}

module _ {J : Type 0} (judges : Judges J) (st : SessionState J) (c : Call) where
  abbrev At : SessionState J
  At = record st { stage = stage.Turning c }

  -- ---- its turn was answered

  module _ (turned : Turned) where
    answers : (new : SessionState J) → ((s : Session) (is : IsSession judges s At) (answer : Reply) → turned.reply ≡ bytes_of answer
        → IsSession judges (answered_by_turn s (said_of c.xid answer) is.at.notes turned.posts) new
        ⊎ ((new.is_cut ≡ true) × IsSession judges (record (answered_by_turn s (said_of c.xid answer) is.at.notes turned.posts) { stage = Over (Some (said_of c.xid answer)) }) new))
        → (s : Session) → IsSession judges s At → TurnedIs judges At new s (Ok turned)
    answers new by s is answer e = record { xid = c.xid; asked = asked_of c.asked; asks = is.at.call.asks; notes = is.at.notes; given = is.at.given; refreshed = is.at.refreshed; publishes = by s is answer e }

    noted_so : (s : Session) (is : IsSession judges s At) → st.notes ≡ notes_of is.at.notes s.missed
    noted_so s is = is.at.noted ∙ ap (notes_of is.at.notes) (sym is.at.unmissed)

    told_so : (answer : Reply) → turned.reply ≡ bytes_of answer → replying c turned.reply ≡ served_of (Some (said_of c.xid answer))
    told_so answer e = ap (λ (bytes : List ℕ). served.Reply (reply c.xid (Success bytes))) e

    pub publishes_then : (p : PublishingState) → p ≡ publishing_begun st.replicas st.entries turned.posts → IsTurned judges At (record st { stage = stage.Publishing (replying c turned.reply) p }) (Ok turned)
    publishes_then p begun = (
      (refl, refl, refl),
      answers (record st { stage = stage.Publishing (replying c turned.reply) p }) (λ s is answer e. inl (record {
        entries = is.entries;
        starts = is.starts;
        at = record {
          said = Some (said_of c.xid answer);
          is_told = told_so answer e;
          stage = sym (ap (stage_of (Some (said_of c.xid answer))) begun);
          replicas = ap (λ (x : PublishingState). x.replicas) begun;
          entries = ap (λ (x : PublishingState). x.entries) begun;
          asks = subst (PublishingIsAfter s.current) (sym begun) is.at.free;
          noted = noted_so s is;
        };
      })),
    )

    pub is_cut_then : IsTurned judges At (record st { is_cut = true; stage = stage.Over (replying c turned.reply) }) (Ok turned)
    is_cut_then = (
      (refl, refl, refl),
      answers (record st { is_cut = true; stage = stage.Over (replying c turned.reply) }) (λ s is answer e. inr (
        refl,
        record { entries = is.entries; starts = is.starts; at = record { said = Some (said_of c.xid answer); is_told = told_so answer e; stage = refl; noted = noted_so s is } },
      )),
    )

  -- ---- memory runs out

  over_by : (s : Session) (is : IsSession judges s At) → IsSession judges (ended s (said_no_memory c.xid) is.at.notes None) (record st { stage = stage.Over (lacking c) })
  over_by s is = record { entries = is.entries; starts = is.starts; at = record { said = Some (said_no_memory c.xid); is_told = refl; stage = refl; noted = is.at.noted } }

  pub lacks_turn : IsTurned judges At (record st { stage = stage.Over (lacking c) }) (Err fault.Memory)
  lacks_turn = (
    (refl, refl, refl),
    λ s is. (
      ended s (said_no_memory c.xid) is.at.notes None,
      LacksMemory.lacks is.at.notes is.at.notes is.at.given _ c.xid (asked_of c.asked) is.at.refreshed.0 is.at.refreshed.1 is.at.call.asks [] (append-nil is.at.notes),
      over_by s is,
    ),
  )

  -- ---- its turn was refused

  module _ (given : Given) where
    gives_up : (s : Session) → IsSession judges s At → 2 ≤ st.starts → IsRefused judges At (record st { stage = stage.Over (lacking c) }) s (standing_of given)
    gives_up s is many = IsRefused.gives_up c.xid is.at.notes is.at.given (asked_of c.asked) (subst (λ (n : ℕ). 2 ≤ n) is.starts many) is.at.refreshed is.at.call.asks (over_by s is)

    -- the state in which it begins again
    abbrev New : Stage J → SessionState J
    New at = record st { starts = st.starts + 1; notes = []; stage = at }

    begins_by : (r : RefreshState J) (s : Session) → IsSession judges s At → st.starts < 2 → IsRefreshFor judges st given r → IsRefused judges At (New (stage.Refreshing c r)) s (standing_of given)
    begins_by r s is few h = IsRefused.begins_again (subst (λ (n : ℕ). n < 2) is.starts few) (record {
      entries = is.entries;
      starts = ap (λ (n : ℕ). n + 1) is.starts;
      at = record {
        call = call_anew s (standing_of given) c is.at.call;
        refreshing = record { stage = is.at.refreshed.0; entries = h.entries ∙ is.entries; unmissed = is.at.unmissed; after = h.started; unfailed = h.unfailed };
        judge = h.judge;
        replicas = h.replicas;
        unnoted = refl;
      };
    })

    lacks_by : (s : Session) → IsSession judges s At → st.starts < 2 → IsRefused judges At (New (stage.Over (lacking c))) s (standing_of given)
    lacks_by s is few =
        let t : Session = anew s (standing_of given) in
        let call = call_anew s (standing_of given) c is.at.call in
        IsRefused.lacks_memory (ended t (said_no_memory c.xid) [] None) (subst (λ (n : ℕ). n < 2) is.starts few)
        (lacks_so t c.xid (asked_of c.asked) is.at.refreshed.0 (begun_comes (standing_of given)) call.asks)
        (record { entries = is.entries; starts = ap (λ (n : ℕ). n + 1) is.starts; at = record { said = Some (said_no_memory c.xid); is_told = refl; stage = refl; noted = refl } })

    abbrev With : SessionState J → Stage J → SessionState J
    With x at = record x { stage = at }

    pub begins_again : (new : SessionState J) (r : RefreshState J) → BeginsAgain judges st new given (Some r) → IsTurned judges At (With new (stage.Refreshing c r)) (Err (fault.Behind given))
    begins_again new r h = subst (λ (x : SessionState J). IsTurned judges At (With x (stage.Refreshing c r)) (Err (fault.Behind given))) (sym h.0.1) ((refl, refl, refl), λ s is. begins_by r s is h.0.0 h.1)

    pub lacks_anew : (new : SessionState J) → BeginsAgain judges st new given None → IsTurned judges At (With new (stage.Over (lacking c))) (Err (fault.Behind given))
    lacks_anew new h = ⊎_elim
        (λ begun. subst (λ (x : SessionState J). IsTurned judges At (With x (stage.Over (lacking c))) (Err (fault.Behind given))) (sym begun.1) ((refl, refl, refl), λ s is. lacks_by s is begun.0))
        (λ many. subst (λ (x : SessionState J). IsTurned judges At (With x (stage.Over (lacking c))) (Err (fault.Behind given))) (sym many.1) ((refl, refl, refl), λ s is. gives_up s is many.0))
        h
