-- How a session begins.
use Rattle.std.proofs.Common.{◌≡◌, ℕ, false, List, [], Option, Some, None, refl, sym, subst}
use Rattle.log_model.specs.View.{View}
use Rattle.dht_ids.specs.declared.peer.Peer.{Peer}
use Rattle.dhash_client.specs.GetHead.{Judges}
use Rattle.agent_model.specs.Standing.{Standing}
use Rattle.session_model.specs.Replies.{IsByMessage, said_bare}
use Rattle.session_model.specs.Sessions.{Over, Refreshing}
use Rattle.session_model.specs.Executions.{Begins, fresh_session}
use Rattle.ivy_session.specs.Reading.{AsksWell}
use Rattle.log_fetch.specs.declared.asked.Asked.{Asked}
use Rattle.log_fetch.specs.declared.note.Note.{Note as Noted}
use Rattle.log_fetch.specs.declared.standing.Standing.{Standing as Given}
use Rattle.log_fetch.specs.Standings.{asked_of, standing_of}
use Rattle.view_refresh.specs.States.{Refreshing as RefreshState, has_failed}
use Rattle.view_refresh.specs.Behind.{RefreshIsAfter}
use Rattle.ivy_session.specs.declared.served.Call.{Call}
use Rattle.ivy_session.specs.declared.session.Stage.{Stage}
use Rattle.ivy_session.specs.declared.session.Stage.TheVariants as stage
use Rattle.ivy_session.specs.States.{BeginsAs, begun, reply_or_none}

-- the call as it was read
pub asks_well : (view : View) (message : List ℕ) (xid other : ℕ) (asked also : Asked) → other ≡ xid → also ≡ asked → AsksWell view message xid asked → AsksWell view message other also
asks_well view message xid other asked also e f h = subst (λ (n : ℕ). AsksWell view message n also) (sym e) (subst (λ (a : Asked). AsksWell view message xid a) (sym f) h)

module _ {J : Type 0} (judges : Judges J) (judge : J) (replicas : ℕ) (entries : List Peer) (message : List ℕ) where
  pub alone_begins : (standing : Standing) (given : Option (List ℕ)) → IsByMessage standing.view message given → BeginsAs judges message standing (begun judge replicas entries (stage.Over (reply_or_none given)))
  alone_begins standing given h by = (
    fresh_session by message entries standing (Over (Some (said_bare given))),
    Begins.alone given h,
    record { entries = refl; starts = refl; at = record { said = Some (said_bare given); is_told = refl; stage = refl; noted = refl } },
  )

  pub call_begins : (given : Given) (c : Call) (r : RefreshState J) → AsksWell given.view message c.xid c.asked → (r.judge ≡ judge) × (r.replicas ≡ replicas) × (r.entries ≡ entries)
      → RefreshIsAfter judges (standing_of given) [] [] r → has_failed r ≡ false → BeginsAs judges message (standing_of given) (begun judge replicas entries (stage.Refreshing c r))
  call_begins given c r h by_same started unfailed by = (
    fresh_session by message entries (standing_of given) Refreshing,
    Begins.refreshes c.xid (asked_of c.asked) h.asks,
    record {
      entries = refl;
      starts = refl;
      at = record {
        call = record { asks = h.asks; caller = h.caller; args = h.args };
        refreshing = record { stage = refl; entries = by_same.2; unmissed = refl; after = started; unfailed = unfailed };
        judge = by_same.0;
        replicas = by_same.1;
        unnoted = refl;
      };
    },
  )

  -- with nothing noted
  pub begun_with : (standing : Standing) (notes : List Noted) (at : Stage J) → notes ≡ [] → BeginsAs judges message standing (begun judge replicas entries at)
      → BeginsAs judges message standing (record { judge = judge; replicas = replicas; entries = entries; starts = 0; notes = notes; is_cut = false; stage = at })
  begun_with standing notes at none h =
      subst (λ (l : List Noted). BeginsAs judges message standing (record { judge = judge; replicas = replicas; entries = entries; starts = 0; notes = l; is_cut = false; stage = at })) (sym none) h
