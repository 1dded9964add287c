-- Stages of a session that are changed in place.
use Rattle.std.specs.Prelude.{◌≡◌, Bool, true, false, List, Option, Some, None, Result, Ok, Err, IfSome}
use Rattle.ivy_base.specs.declared.memory.Memory.{Memory}
use Rattle.dht_ids.specs.declared.ask.Answer.{Answer}
use Rattle.dht_ids.specs.declared.ask.Want.{Want}
use Rattle.dht_ids.specs.declared.post.Ack.{Ack}
use Rattle.dht_ids.specs.declared.post.Post.{Post}
use Rattle.dhash_model.specs.declared.miss.Miss.{Miss}
use Rattle.dhash_client.specs.GetHead.{Judges}
use Rattle.session_model.specs.Sessions.{Cache}
use Rattle.log_fetch.specs.declared.note.Note.{Note as Noted}
use Rattle.view_refresh.specs.declared.refresh.Refreshed.{Refreshed}
use Rattle.view_refresh.specs.States.{Refreshing as RefreshState}
use Rattle.ivy_session.specs.Publishing.{PublishingState, PublishingIsWanted}
use Rattle.ivy_session.specs.declared.served.Call.{Call}
use Rattle.ivy_session.specs.declared.served.Served.{Served}
use Rattle.ivy_session.specs.declared.session.Stage.{Stage}
use Rattle.ivy_session.specs.declared.session.Stage.TheVariants as stage
use Rattle.ivy_session.specs.States.{SessionState}
use Rattle.ivy_session.specs.Taking.{Advances, IsFailure, RefreshHears}
use Rattle.ivy_session.specs.Ending.{EndsAs, PutHears, TellsMiss, lacking}

-- its refresh is on its way
abbrev pub is_refreshing : {J : Type 0} → Stage J → Bool
is_refreshing (stage.Refreshing c r) = true
is_refreshing (stage.Turning c) = false
is_refreshing (stage.Publishing told p) = false
is_refreshing (stage.Over told) = false
is_refreshing stage.Told = false

-- it publishes
abbrev pub is_publishing : {J : Type 0} → Stage J → Bool
is_publishing (stage.Refreshing c r) = false
is_publishing (stage.Turning c) = false
is_publishing (stage.Publishing told p) = true
is_publishing (stage.Over told) = false
is_publishing stage.Told = false

-- the call, until it is answered
abbrev pub call_at : {J : Type 0} → Stage J → Option Call
call_at (stage.Refreshing c r) = Some c
call_at (stage.Turning c) = Some c
call_at (stage.Publishing told p) = None
call_at (stage.Over told) = None
call_at stage.Told = None

-- what is told in the end, once it is known
abbrev pub told_at : {J : Type 0} → Stage J → Option Served
told_at (stage.Refreshing c r) = None
told_at (stage.Turning c) = None
told_at (stage.Publishing told p) = Some told
told_at (stage.Over told) = Some told
told_at stage.Told = None

-- what publishes says what it wants
abbrev pub PutWants : {J : Type 0} → Stage J → Stage J → Result (Want (List Ack)) Memory → Type 0
PutWants (stage.Publishing told p) now (Ok want) = (q : PublishingState) × (now ≡ stage.Publishing told q) × PublishingIsWanted p q want
PutWants (stage.Publishing told p) now (Err lacks) = (q : PublishingState) × (now ≡ stage.Publishing told q)
PutWants _ now result = ⊥

-- what publishes hears an answer
abbrev pub PutHeard : {J : Type 0} → Stage J → Stage J → Result Answer Memory → Result (Unit {0}) Memory → Type 0
PutHeard (stage.Publishing told p) now given result = (q : PublishingState) × (now ≡ stage.Publishing told q) × PutHears p q given result
PutHeard _ now given result = ⊥

-- the refresh takes what is available, and says what it wants then
abbrev pub RefreshWants : {J : Type 0} → Judges J → Stage J → Stage J → Cache → Cache → Result (Want Refreshed) Memory → Type 0
RefreshWants {J} judges (stage.Refreshing c r) now before after result =
    (q : RefreshState J) × (now ≡ stage.Refreshing c q) × Advances judges r q before after result
RefreshWants judges _ now before after result = ⊥

-- the refresh hears an answer
abbrev pub RefreshHeard : {J : Type 0} → Judges J → Stage J → Stage J → Cache → Cache → Result Answer Memory → Result Bool Memory → Type 0
RefreshHeard {J} judges (stage.Refreshing c r) now before after given result =
    (q : RefreshState J) × (now ≡ stage.Refreshing c q) × RefreshHears judges r q before after given result
RefreshHeard judges _ now before after given result = ⊥

-- the refresh says why it failed
abbrev pub FailureAt : {J : Type 0} → Judges J → Stage J → Stage J → Option (Miss × List Noted) → Type 0
FailureAt {J} judges (stage.Refreshing c r) now why = (q : RefreshState J) × (now ≡ stage.Refreshing c q) × IfSome why (IsFailure judges r)
FailureAt judges _ now why = ⊥

-- it is told why; or that memory runs out, and nothing is noted
abbrev pub TellsWhy : {J : Type 0} → SessionState J → SessionState J → Call → Option (Miss × List Noted) → Served → Type 0
TellsWhy old new c None told = (told ≡ lacking c) × (new ≡ old)
TellsWhy old new c (Some why) told = TellsMiss old new c why.0 why.1 told

-- its refresh has failed, and it is over: it is told why
abbrev pub EndsRefresh : {J : Type 0} → Judges J → SessionState J → SessionState J → Type 0
EndsRefresh {J} judges old new = ((c : Call) (r : RefreshState J) → old.stage ≡ stage.Refreshing c r
    → (mid : SessionState J) × (told : Served) × EndsAs judges (record old { stage = stage.Told }) mid c r told
    × (new ≡ record mid { stage = stage.Over told }))
