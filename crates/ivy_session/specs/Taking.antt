-- What a session's refresh takes of what is available, and hears.
use Rattle.std.specs.Prelude.{◌≡◌, ◌≢◌, ◌⊎◌, ◌<◌, Bool, true, false, ℕ, List, [], Option, Some, None, Result, Ok, Err}
use Rattle.ivy_base.specs.declared.key.Key.{Key}
use Rattle.ivy_base.specs.declared.memory.Memory.{Memory}
use Rattle.ivy_base.specs.Naming.{name}
use Rattle.dht_ids.specs.declared.ask.Answer.{Answer}
use Rattle.dht_ids.specs.declared.ask.Ask.{Ask}
use Rattle.dht_ids.specs.declared.ask.Want.{Want}
use Rattle.dht_ids.specs.declared.ask.Want.TheVariants as want
use Rattle.dht_ids.specs.declared.peer.Peer.{Peer}
use Rattle.dht_ids.specs.declared.post.Post.{Post}
use Rattle.dhash_model.specs.declared.miss.Miss.{Miss}
use Rattle.dhash_model.specs.Cache.{block_of, kept}
use Rattle.dhash_client.specs.GetHead.{Judges}
use Rattle.agent_model.specs.Standing.{Refresh as ModelRefresh}
use Rattle.session_model.specs.Brought.{brought_in}
use Rattle.session_model.specs.Refreshing.{Note, RefreshEnd, FailsBy, Refreshes}
use Rattle.session_model.specs.Sessions.{Session, Cache, Hears, Takes, TakesAll, TakesSome, pending_block}
use Rattle.log_fetch.specs.declared.note.Note.{Note as Noted}
use Rattle.log_fetch.specs.Standings.{notes_of}
use Rattle.view_refresh.specs.declared.refresh.Refreshed.{Refreshed}
use Rattle.view_refresh.specs.States.{Refreshing as RefreshState, IsSameRefresh, has_failed, refresh_awaited, refresh_left, refresh_wanted}
use Rattle.view_refresh.specs.Behind.{RefreshIsAfter}
use Rattle.view_refresh.specs.Steps.{Brings, HasNoRoute, Stands}
use Rattle.ivy_session.specs.States.{IsRefreshingBy}
use Rattle.ivy_session.specs.Stepping.{AsksOf}

-- another session of the same call, that differs in what it was brought
abbrev pub IsSameCall : Session → Session → Type 0
IsSameCall s t = t ≡ record s { parts = t.parts; current = t.current }

-- its refresh has come to something with what it was brought
abbrev pub HasCome : Session → Type 0
HasCome s = (end : RefreshEnd) × Stands s.standing s.parts end

-- the block is available, and was taken
abbrev pub HasTaken : {J : Type 0} → Judges J → RefreshState J → RefreshState J → Cache → Cache → Type 0
HasTaken judges old new before after =
    IsSameRefresh old new × (refresh_awaited old ≡ None) × (refresh_awaited new ≡ None)
    × ((s : Session) → IsRefreshingBy judges s old
    → (t : Session) × Takes (judges old.judge) old.replicas s before t after × IsSameCall s t × IsRefreshingBy judges t new)

-- the block that is wanted isn't available
abbrev pub IsAway : Option Key → List Post → Cache → Type 0
IsAway None posts cache = Unit {0}
IsAway (Some key) posts cache = (pending_block key posts ≡ None) × (block_of key cache ≡ None)

-- one block was taken, and fewer are left; or the one that is wanted isn't available; or memory runs out
abbrev pub TakesOne : {J : Type 0} → Judges J → RefreshState J → RefreshState J → Cache → Cache → Result Bool Memory → Type 0
TakesOne judges old new before after (Ok true) = HasTaken judges old new before after × (refresh_left new < refresh_left old)
TakesOne judges old new before after (Ok false) = (new ≡ old) × (after ≡ before) × IsAway (refresh_wanted old) old.pending before
TakesOne judges old new before after (Err lacks) = after ≡ before

-- what was available was taken, or some of it where memory runs out: without a node to be heard
abbrev pub TakesHand : {J : Type 0} → Judges J → RefreshState J → RefreshState J → Cache → Cache → Result (Unit {0}) Memory → Type 0
TakesHand judges old new before after (Ok done) =
    IsSameRefresh old new × (refresh_awaited old ≢ None → (new ≡ old) × (after ≡ before))
    × ((s : Session) → refresh_awaited old ≡ None → IsRefreshingBy judges s old
    → (t : Session) × TakesAll (judges old.judge) old.replicas s before t after × IsSameCall s t × IsRefreshingBy judges t new)
TakesHand judges old new before after (Err lacks) =
    (s : Session) → IsRefreshingBy judges s old
    → (t : Session) × TakesSome (judges old.judge) old.replicas s before t after × IsSameCall s t × HasCome t

-- the cache once a block that was given back is kept
abbrev pub kept_back : Option (Key × List ℕ) → Cache → Cache
kept_back None cache = cache
kept_back (Some block) cache = kept (name block.1) block.1 cache

-- the refresh has failed
pub record IsFailing {J : Type 0} (judges : Judges J) (s : Session) (r : RefreshState J) : Type 0 where
  pub after : RefreshIsAfter judges s.standing s.parts s.current r
  pub failed : has_failed r ≡ true

-- The answer was heard, and a block that came right is kept: the refresh goes on, and waits for a node only where a get has made asks; or
-- it has failed.
abbrev pub IsHeardTo : {J : Type 0} → Judges J → Session → RefreshState J → Cache → Cache → Bool → Type 0
IsHeardTo judges t new before after false = IsRefreshingBy judges t new × (refresh_awaited new ≢ None → t.current ≢ [])
IsHeardTo judges t new before after true = IsFailing judges t new × (after ≡ before)

-- Where memory runs out the cache is the same.
abbrev pub RefreshHears : {J : Type 0} → Judges J → RefreshState J → RefreshState J → Cache → Cache → Result Answer Memory
    → Result Bool Memory → Type 0
RefreshHears judges old new before after given (Ok failed) =
    (answer : Answer) × (given ≡ Ok answer)
    × IsSameRefresh old new
    × ((s : Session) (node : Peer) (question : Ask) → refresh_awaited old ≡ Some (node, question) → IsRefreshingBy judges s old
    → (t : Session) × Hears (judges old.judge) old.replicas s before node question answer t after × IsSameCall s t
    × IsHeardTo judges t new before after failed)
RefreshHears judges old new before after given (Err lacks) = after ≡ before

-- ---- what is wanted then

-- what was available was taken; or the session is the same, and a node is to be heard
abbrev pub Available : {J : Type 0} → Judges J → RefreshState J → Session → Session → Cache → Cache → Type 0
Available judges old s t before after =
    TakesAll (judges old.judge) old.replicas s before t after ⊎ ((refresh_awaited old ≢ None) × (t ≡ s) × (after ≡ before))

-- what is available is taken, and then a node is asked, or all was brought; or memory runs out
abbrev pub Advances : {J : Type 0} → Judges J → RefreshState J → RefreshState J → Cache → Cache → Result (Want Refreshed) Memory → Type 0
Advances judges old new before after (Ok (want.Ask node question)) =
    IsSameRefresh old new × (refresh_awaited new ≡ Some (node, question))
    × ((s : Session) → IsRefreshingBy judges s old
    → (t : Session) × Available judges old s t before after × IsSameCall s t × IsRefreshingBy judges t new
    × AsksOf (judges old.judge) old.replicas t node question)
Advances judges old new before after (Ok (want.Done given)) =
    (s : Session) → IsRefreshingBy judges s old
    → (t : Session) × TakesAll (judges old.judge) old.replicas s before t after × IsSameCall s t × (t.current ≡ [])
    × (Brings t.standing t.parts given ⊎ HasNoRoute t.entries t.standing t.parts given)
Advances judges old new before after (Err lacks) =
    (s : Session) → IsRefreshingBy judges s old
    → (t : Session) × TakesSome (judges old.judge) old.replicas s before t after × IsSameCall s t × HasCome t

-- ---- how it fails

pub record FailsAs (s : Session) (miss : Miss) (noted : List Noted) : Type 0 where
  pub notes : List Note
  pub given : ModelRefresh
  pub refreshes : Refreshes s.standing (brought_in s.parts) notes given (FailsBy miss)
  pub noted_are : noted ≡ notes_of notes (Some miss)

-- why a refresh that has failed did, and what is noted then
abbrev pub IsFailure : {J : Type 0} → Judges J → RefreshState J → Miss × List Noted → Type 0
IsFailure judges r why = (s : Session) → IsFailing judges s r → FailsAs s why.0 why.1
