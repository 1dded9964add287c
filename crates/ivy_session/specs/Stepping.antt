-- What a session wants next, hears, and is told of its turn: steps of the session of the definitions.
use Rattle.std.specs.Prelude.{◌≡◌, ◌≢◌, ◌⊎◌, ◌<◌, ◌≤◌, ℕ, true, List, [], ◌∷◌, Contains, Option, Some, None, Result, Ok, Err}
use Rattle.ivy_base.specs.declared.key.Key.{Key}
use Rattle.ivy_base.specs.declared.key.PubKey.{PubKey}
use Rattle.ivy_base.specs.declared.memory.Memory.{Memory}
use Rattle.wire_model.specs.Rpc.{Success, reply}
use Rattle.nfs_model.specs.declared.replies.Reply.{Reply}
use Rattle.nfs_model.specs.Results.{result as bytes_of}
use Rattle.dht_ids.specs.declared.ask.Answer.{Answer}
use Rattle.dht_ids.specs.declared.ask.Ask.{Ask}
use Rattle.dht_ids.specs.declared.ask.Ask.TheVariants as ask
use Rattle.dht_ids.specs.declared.judge.Judged.{Judged}
use Rattle.dht_ids.specs.declared.peer.Peer.{Peer}
use Rattle.dht_ids.specs.declared.post.Ack.{Ack}
use Rattle.dht_ids.specs.declared.post.Post.{Post}
use Rattle.dhash_model.specs.declared.miss.Miss.{Miss}
use Rattle.dhash_client.specs.GetHead.{Judges}
use Rattle.log_records.specs.Batches.{Batch, AreUnder, owners_in}
use Rattle.turn_model.specs.Turn.{Asked}
use Rattle.agent_model.specs.Standing.{Refresh as ModelRefresh, Standing as ModelStanding}
use Rattle.session_model.specs.Asking.{AsksNext}
use Rattle.session_model.specs.Brought.{WantedOfRing}
use Rattle.session_model.specs.Refreshing.{Note}
use Rattle.session_model.specs.Replies.{Asks, missed_reply, said_no_memory, said_of}
use Rattle.session_model.specs.Sessions.{Said, Session, Cache, Publishing, Over, Hears, IsGet, IsPut, TakesAll, TakesSome, Wants}
use Rattle.session_model.specs.Sessions.{put_question, wanted_key}
use Rattle.session_model.specs.Executions.{Fails, HasRefreshed, LacksMemory, anew, answered_by_turn, ended}
use Rattle.log_fetch.specs.declared.refresh.Refresh.{Refresh}
use Rattle.log_fetch.specs.declared.turned.Turned.{Turned}
use Rattle.log_fetch.specs.declared.turned.TurnFault.{TurnFault}
use Rattle.log_fetch.specs.declared.turned.TurnFault.TheVariants as fault
use Rattle.log_fetch.specs.Edges.{edge_in}
use Rattle.log_fetch.specs.Standings.{notes_of, refresh_of, standing_of}
use Rattle.ivy_session.specs.Publishing.{Passes}
use Rattle.ivy_session.specs.declared.session.Next.{Next}
use Rattle.ivy_session.specs.declared.session.Next.TheVariants as next
use Rattle.ivy_session.specs.declared.served.Served.{Served}
use Rattle.ivy_session.specs.declared.served.Served.TheVariants as served
use Rattle.ivy_session.specs.States.{HasAsked, SessionState, IsSession, is_turning, served_of, session_awaited}

-- the judge, the number of owners and the nodes stay
abbrev pub IsSameSession : {J : Type 0} → SessionState J → SessionState J → Type 0
IsSameSession old new = (new.judge ≡ old.judge) × (new.replicas ≡ old.replicas) × (new.entries ≡ old.entries)

module _ (judged : Key → List ℕ → Option Judged) (replicas : ℕ) (s : Session) (node : Peer) (question : Ask) where
  -- The session asks that node next: for what its refresh wants, or for the first post that it has still to put.
  pub data AsksOf : Type 0 where
    gets : (want : WantedOfRing) → Wants judged replicas s want
        → AsksNext (wanted_key want) (ask.Get (wanted_key want)) (IsGet judged replicas s.entries want) s.current node question → AsksOf
    puts : (said : Option Said) (p : Post) (posts : List Post) (acks : List Ack) → s.stage ≡ Publishing said (p ∷ posts) acks
        → AsksNext p.key (put_question p) (IsPut judged replicas s p) s.current node question → AsksOf

-- the batch is with the floor, of members' logs, and each chain was tested under the view
pub record IsBatchOf (s : ModelStanding) (b : Batch) : Type 0 where
  pub floor : b.floor ≡ s.floor
  pub under : AreUnder s.view (edge_in s.edges) b
  pub members : (owner : PubKey) → Contains (owners_in b.chains) owner → Contains s.view.members owner

-- Where no node is known, what is wanted has no route, and the call is answered so.
pub record IsUnrouted (s : Session) (told : Served) : Type 0 where
  pub none : s.entries ≡ []
  pub xid : ℕ
  pub asked : Asked
  pub asks : Asks s.standing.view s.message xid asked
  pub miss : Miss
  pub is_told : told ≡ served.Reply (reply xid (Success (bytes_of (missed_reply asked miss))))

module _ {J : Type 0} (judges : Judges J) (old new : SessionState J) (s : Session) where
  -- What is wanted next, of a session of these definitions and its participant's cache.
  pub data NextIs (before after : Cache) : Next → Type 0 where
    asks : (t : Session) (node : Peer) (question : Ask) → TakesAll (judges old.judge) old.replicas s before t after → IsSession judges t new
        → session_awaited new ≡ Some (node, question) → AsksOf (judges old.judge) old.replicas t node question
        → NextIs before after (next.Ask node question)
    asks_again : (node : Peer) (question : Ask) → session_awaited old ≢ None → session_awaited new ≡ Some (node, question)
        → IsSession judges s new
        → AsksOf (judges old.judge) old.replicas s node question → after ≡ before → NextIs before after (next.Ask node question)
    turns : (t : Session) (notes : List Note) (refresh : Refresh) → TakesAll (judges old.judge) old.replicas s before t after
        → IsSession judges t new
        → is_turning new.stage ≡ true → HasRefreshed t notes (refresh_of refresh) → IsBatchOf t.standing refresh.batch
        → NextIs before after (next.Turn refresh)
    settles : (said : Option Said) (acks : List Ack)
        → (s.stage ≡ Publishing said [] acks) ⊎ ((s.entries ≡ []) × Passes old.replicas s.stage (Publishing said [] acks)) → s.current ≡ []
        → after ≡ before → IsSession judges (record s { stage = Over said }) new → NextIs before after (next.Settle acks)
    is_over : (said : Option Said) → s.stage ≡ Over said → after ≡ before → new.notes ≡ notes_of s.notes s.missed
        → NextIs before after (next.Done (served_of said))
    lacks_memory : (t u : Session) (said : Said) → TakesSome (judges old.judge) old.replicas s before t after → LacksMemory t u
        → u.stage ≡ Over (Some said) → new.notes ≡ notes_of u.notes u.missed
        → NextIs before after (next.Done (served_of (Some said)))
    is_cut : (said : Option Said) (posts : List Post) (acks : List Ack) → s.stage ≡ Publishing said posts acks → new.is_cut ≡ true
        → new.notes ≡ notes_of s.notes s.missed → after ≡ before
        → NextIs before after (next.Done (served_of said))
    is_unrouted : (t : Session) (told : Served) → TakesAll (judges old.judge) old.replicas s before t after → IsUnrouted t told
        → NextIs before after (next.Done told)

  -- The answer was heard: a step of the session, after which it waits for a node only where the get or put on its way has made asks; or
  -- memory runs out, and it has no turn, or publishes no more.
  pub data HeardIs (before after : Cache) (node : Peer) (question : Ask) (given : Result Answer Memory) : Type 0 where
    hears : (answer : Answer) (heard t : Session) → given ≡ Ok answer
        → Hears (judges old.judge) old.replicas s before node question answer heard after → Fails heard t → IsSession judges t new
        → HasAsked new t
        → HeardIs before after node question given
    lacks_memory : (t : Session) → LacksMemory s t → after ≡ before → IsSession judges t new → HeardIs before after node question given
    is_cut : (said : Option Said) (posts : List Post) (acks : List Ack) → s.stage ≡ Publishing said posts acks → new.is_cut ≡ true
        → after ≡ before
        → IsSession judges (record s { stage = Over said; current = [] }) new → HeardIs before after node question given

  -- Its turn was refused, and it begins again from that standing, at most twice; else memory runs out.
  pub data IsRefused (standing : ModelStanding) : Type 0 where
    begins_again : s.starts < 2 → IsSession judges (anew s standing) new → IsRefused standing
    lacks_memory : (t : Session) → s.starts < 2 → LacksMemory (anew s standing) t → IsSession judges t new → IsRefused standing
    gives_up : (xid : ℕ) (notes : List Note) (given : ModelRefresh) (asked : Asked) → 2 ≤ s.starts → HasRefreshed s notes given
        → Asks s.standing.view s.message xid asked
        → IsSession judges (ended s (said_no_memory xid) notes None) new → IsRefused standing

  -- Its turn was answered: it publishes what is pending; or memory runs out for that, and it is over.
  pub record IsAnswered (turned : Turned) (answer : Reply) : Type 0 where
    pub xid : ℕ
    pub asked : Asked
    pub asks : Asks s.standing.view s.message xid asked
    pub notes : List Note
    pub given : ModelRefresh
    pub refreshed : HasRefreshed s notes given
    pub publishes : IsSession judges (answered_by_turn s (said_of xid answer) notes turned.posts) new
        ⊎ ((new.is_cut ≡ true) × IsSession judges
        (record (answered_by_turn s (said_of xid answer) notes turned.posts) { stage = Over (Some (said_of xid answer)) }) new)

  abbrev pub TurnedIs : Result Turned TurnFault → Type 0
  TurnedIs (Ok turned) = (answer : Reply) → turned.reply ≡ bytes_of answer → IsAnswered turned answer
  TurnedIs (Err fault.Memory) = (t : Session) × LacksMemory s t × IsSession judges t new
  TurnedIs (Err (fault.Behind standing)) = IsRefused (standing_of standing)
  TurnedIs (Err (fault.BelowTide standing)) = IsRefused (standing_of standing)

-- ---- whichever session of the definitions it may be

module _ {J : Type 0} (judges : Judges J) (old new : SessionState J) where
  abbrev pub IsNext : Cache → Cache → Next → Type 0
  IsNext before after wanted = IsSameSession old new
      × ((s : Session) → IsSession judges s old → NextIs judges old new s before after wanted)

  abbrev pub IsHeard : Cache → Cache → Result Answer Memory → Type 0
  IsHeard before after answer =
      IsSameSession old new
      × ((s : Session) (node : Peer) (question : Ask) → session_awaited old ≡ Some (node, question) → IsSession judges s old
      → HeardIs judges old new s before after node question answer)

  abbrev pub IsTurned : Result Turned TurnFault → Type 0
  IsTurned turned = IsSameSession old new × ((s : Session) → IsSession judges s old → TurnedIs judges old new s turned)

-- the session is to begin again without a snapshot to load
abbrev pub IsAgainFor : TurnFault → Type 0
IsAgainFor fault.Memory = Unit {0}
IsAgainFor (fault.Behind standing) = standing.basis ≡ None
IsAgainFor (fault.BelowTide standing) = standing.basis ≡ None
