-- How a session's refresh is concluded.
use Rattle.std.specs.Prelude.{◌≡◌, false, ◌⊎◌, ℕ, ◌+◌, ◌<◌, ◌≤◌, List, [], None, Some, Result, Ok, Err, Option}
use Rattle.ivy_base.specs.declared.memory.Memory.{Memory}
use Rattle.wire_model.specs.Rpc.{Success, SystemError, reply}
use Rattle.nfs_model.specs.Results.{result as bytes_of}
use Rattle.dht_ids.specs.declared.ask.Answer.{Answer}
use Rattle.dhash_model.specs.declared.miss.Miss.{Miss}
use Rattle.dhash_client.specs.GetHead.{Judges}
use Rattle.session_model.specs.Replies.{missed_reply}
use Rattle.log_fetch.specs.declared.note.Note.{Note as Noted}
use Rattle.log_fetch.specs.declared.standing.Standing.{Standing}
use Rattle.log_fetch.specs.Standings.{asked_of, standing_of}
use Rattle.view_refresh.specs.declared.refresh.Refreshed.{Refreshed}
use Rattle.view_refresh.specs.States.{Refreshing as RefreshState, has_failed, most_refresh, refresh_awaited, refresh_left}
use Rattle.view_refresh.specs.Behind.{RefreshIsAfter}
use Rattle.ivy_session.specs.Publishing.{PublishingState, PublishingHasHeard}
use Rattle.ivy_session.specs.declared.served.Call.{Call}
use Rattle.ivy_session.specs.declared.served.Served.{Served}
use Rattle.ivy_session.specs.declared.served.Served.TheVariants as served
use Rattle.ivy_session.specs.declared.session.Next.{Next}
use Rattle.ivy_session.specs.declared.session.Next.TheVariants as next
use Rattle.ivy_session.specs.declared.session.Stage.TheVariants as stage
use Rattle.ivy_session.specs.States.{SessionState}
use Rattle.ivy_session.specs.Taking.{IsFailure}

-- memory runs out
abbrev pub lacking : Call → Served
lacking c = served.Reply (reply c.xid SystemError)

-- its turn gave that
abbrev pub replying : Call → List ℕ → Served
replying c bytes = served.Reply (reply c.xid (Success bytes))

-- the refresh failed by that miss
abbrev pub missing : Call → Miss → Served
missing c miss = served.Reply (reply c.xid (Success (bytes_of (missed_reply (asked_of c.asked) miss))))

-- the miss is told, and this is noted; or that memory runs out, and nothing is noted
abbrev pub TellsMiss : {J : Type 0} → SessionState J → SessionState J → Call → Miss → List Noted → Served → Type 0
TellsMiss old new c miss notes told = ((told ≡ missing c miss) × (new ≡ record old { notes = notes })) ⊎ ((told ≡ lacking c) × (new ≡ old))

-- its agent's turn is wanted with what was brought, or the refresh failed
abbrev pub ConcludesAs : {J : Type 0} → SessionState J → SessionState J → Call → Refreshed → Next → Type 0
ConcludesAs old new c given (next.Turn refresh) =
    (given.result ≡ Ok refresh) × (new ≡ record old { notes = given.notes; stage = stage.Turning c })
ConcludesAs old new c given (next.Done told) = (miss : Miss) × (given.result ≡ Err miss) × TellsMiss old new c miss given.notes told
ConcludesAs old new c given _ = ⊥

-- it is told why its refresh failed; or that memory runs out, and nothing is noted
abbrev pub EndsAs : {J : Type 0} → Judges J → SessionState J → SessionState J → Call → RefreshState J → Served → Type 0
EndsAs judges old new c r told =
    ((told ≡ lacking c) × (new ≡ old))
    ⊎ ((miss : Miss) × (notes : List Noted) × IsFailure judges r (miss, notes) × (told ≡ missing c miss)
    × (new ≡ record old { notes = notes }))

-- the answer was heard by what publishes
abbrev pub PutHears : PublishingState → PublishingState → Result Answer Memory → Result (Unit {0}) Memory → Type 0
PutHears old new given (Ok done) = (answer : Answer) × (given ≡ Ok answer) × PublishingHasHeard old new answer
PutHears old new given (Err lacks) = Unit {0}

-- the refresh is for that standing, by the same judge, from as many owners and the same nodes on, waits for no node yet, and asks only so
-- much
pub record IsRefreshFor {J : Type 0} (judges : Judges J) (st : SessionState J) (standing : Standing) (r : RefreshState J) : Type 0 where
  pub judge : r.judge ≡ st.judge
  pub replicas : r.replicas ≡ st.replicas
  pub entries : r.entries ≡ st.entries
  pub started : RefreshIsAfter judges (standing_of standing) [] [] r
  pub free : refresh_awaited r ≡ None
  pub unfailed : has_failed r ≡ false
  pub left : refresh_left r < most_refresh

-- it began again with this refresh, or without memory for one; or it did so twice before, and stays as it is
abbrev pub IsNew : {J : Type 0} → SessionState J → SessionState J → Type 0
IsNew old new = (old.starts < 2) × (new ≡ record old { starts = old.starts + 1; notes = [] })

abbrev pub BeginsAgain : {J : Type 0} → Judges J → SessionState J → SessionState J → Standing → Option (RefreshState J) → Type 0
BeginsAgain judges old new standing (Some r) = IsNew old new × IsRefreshFor judges old standing r
BeginsAgain judges old new standing None = IsNew old new ⊎ ((2 ≤ old.starts) × (new ≡ old))
