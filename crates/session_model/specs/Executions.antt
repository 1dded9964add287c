-- How a session begins, and how it goes on between its asks: its refresh fails, its turn is answered or refused, its posts are settled.
use Rattle.std.specs.Prelude.{◌≡◌, ℕ, ◌+◌, ◌<◌, ◌≤◌, List, [], ◌++◌, Option, Some, None}
use Rattle.log_model.specs.Record.{Record}
use Rattle.nfs_model.specs.declared.replies.Reply.{Reply}
use Rattle.turn_model.specs.Turn.{Asked, Turned}
use Rattle.dht_ids.specs.declared.peer.Peer.{Peer}
use Rattle.dht_ids.specs.declared.post.Ack.{Ack}
use Rattle.dht_ids.specs.declared.post.Post.{Post}
use Rattle.dhash_model.specs.declared.miss.Miss.{Miss}
use Rattle.log_model.specs.Signing.{Signing}
use Rattle.agent_model.specs.Agent.{Agent, Kept}
use Rattle.agent_model.specs.Standing.{Standing, Refresh, begun_again_in}
use Rattle.agent_model.specs.Candidates.{Grounds}
use Rattle.agent_model.specs.Turning.{Turning, Turns, TurnEnd, Behind, BelowTide, Answered, IsTurnBy}
use Rattle.agent_model.specs.Others.{settled}
use Rattle.session_model.specs.Brought.{brought_in, heads_at}
use Rattle.session_model.specs.Refreshing.{Note, Refreshes, RefreshEnd, FailsBy, Done}
use Rattle.session_model.specs.Replies.{IsByMessage, Asks, said_bare, said_of, said_no_memory, missed_reply}
use Rattle.session_model.specs.Sessions.{Session, Said, Stage, Refreshing, Publishing, Over, publishing}

-- ---- beginning

abbrev pub fresh_session : List ℕ → List ℕ → List Peer → Standing → Stage → Session
fresh_session by message entries standing stage = record {
  by = by;
  message = message;
  entries = entries;
  standing = standing;
  parts = [];
  current = [];
  starts = 0;
  stage = stage;
  notes = [];
  missed = None;
}

-- a message that reaches no turn is answered at once; else the session refreshes
pub data Begins (by message : List ℕ) (entries : List Peer) (standing : Standing) : Session → Type 0 where
  alone : (given : Option (List ℕ)) → IsByMessage standing.view message given
      → Begins by message entries standing (fresh_session by message entries standing (Over (Some (said_bare given))))
  refreshes : (xid : ℕ) (asked : Asked) → Asks standing.view message xid asked
      → Begins by message entries standing (fresh_session by message entries standing Refreshing)

-- a session that only publishes these posts
abbrev pub publishing_session : List ℕ → List Peer → Standing → List Post → Session
publishing_session by entries standing pending = fresh_session by [] entries standing (publishing None pending)

-- ---- endings of a refresh

-- the session begins again: what was brought and noted counts no more
abbrev pub anew : Session → Standing → Session
anew s standing = record s { standing = standing; parts = []; current = []; starts = s.starts + 1 }

-- it is over
abbrev pub ended : Session → Said → List Note → Option Miss → Session
ended s said notes missed = record s { current = []; stage = Over (Some said); notes = notes; missed = missed }

-- its turn was answered, and what its agent has to publish is published
abbrev pub answered_by_turn : Session → Said → List Note → List Post → Session
answered_by_turn s said notes pending = record s { stage = publishing (Some said) pending; notes = notes }

-- the refresh is done, and has noted this and gives this
abbrev pub HasRefreshed : Session → List Note → Refresh → Type 0
HasRefreshed s notes given = (s.stage ≡ Refreshing) × Refreshes s.standing (brought_in s.parts) notes given Done

-- The refresh has failed, or it goes on. Nobody sees this step.
pub data Fails (s : Session) : Session → Type 0 where
  fails : (notes : List Note) (given : Refresh) (miss : Miss) (xid : ℕ) (asked : Asked) → s.stage ≡ Refreshing
      → Refreshes s.standing (brought_in s.parts) notes given (FailsBy miss)
      → Asks s.standing.view s.message xid asked → Fails s (ended s (said_of xid (missed_reply asked miss)) notes (Some miss))
  goes_on : ((notes : List Note) (given : Refresh) (miss : Miss) → s.stage ≡ Refreshing
      → Refreshes s.standing (brought_in s.parts) notes given (FailsBy miss) → ⊥) → Fails s s

-- the turn was refused
abbrev pub IsRefusal : TurnEnd → Type 0
IsRefusal Behind = Unit {0}
IsRefusal BelowTide = Unit {0}
IsRefusal (Answered reply applied) = ⊥

-- What a session makes of a turn of its agent, and what is to be saved: it publishes, or begins again, at most twice.
pub data TakesTurn {S : Type 0} (signs : Signing S) (turning : Turning S) (s : Session)
    : TurnEnd → Agent S → Option (Kept S) → Session → Type 0 where
  answers : (notes : List Note) (given : Refresh) (xid : ℕ) (asked : Asked) (reply : Reply) (applied : ℕ) (after : Agent S)
      (saving : Option (Kept S)) → HasRefreshed s notes given → Asks s.standing.view s.message xid asked
      → Turns signs given turning asked (Answered reply applied) after saving
      → TakesTurn signs turning s (Answered reply applied) after saving (answered_by_turn s (said_of xid reply) notes after.pending)
  begins_again : (notes : List Note) (given : Refresh) (xid : ℕ) (asked : Asked) (end : TurnEnd) (after : Agent S)
      (saving : Option (Kept S)) → HasRefreshed s notes given → Asks s.standing.view s.message xid asked
      → Turns signs given turning asked end after saving → IsRefusal end → s.starts < 2
      → TakesTurn signs turning s end after saving (anew s (begun_again_in signs after turning.view))
  gives_up : (notes : List Note) (given : Refresh) (xid : ℕ) (asked : Asked) (end : TurnEnd) (after : Agent S)
      (saving : Option (Kept S)) → HasRefreshed s notes given → Asks s.standing.view s.message xid asked
      → Turns signs given turning asked end after saving → IsRefusal end → 2 ≤ s.starts
      → TakesTurn signs turning s end after saving (ended s (said_no_memory xid) notes None)

-- What the candidates of its turn are told by, among the blocks met, where its agent knew these records when it (last) began.
abbrev pub grounds_of : List (List ℕ) → Session → List Record → Grounds
grounds_of met s knew = record { heads = heads_at (brought_in s.parts); met = met; standing = s.standing; knew = knew }

-- The turn of the session by the definition, among the blocks met, of an agent that knows these records now and knew those when the
-- session (last) began.
pub record IsTurnIn {S : Type 0} (signs : Signing S) (met : List (List ℕ)) (turning : Turning S) (s : Session) (knew known : List Record)
    (turned : Turned) : Type 0 where
  pub xid : ℕ
  pub asked : Asked
  pub asks : Asks s.standing.view s.message xid asked
  pub notes : List Note
  pub given : Refresh
  pub refreshed : HasRefreshed s notes given
  pub taken : List Record
  pub is_turn : IsTurnBy signs (record { grounds = grounds_of met s knew; started = given.started }) turning known asked taken turned

-- Where memory runs out while a session refreshes, it is over: it has no turn and puts nothing, and may leave out notes.
pub data LacksMemory (s : Session) : Session → Type 0 where
  lacks : (notes shown : List Note) (given : Refresh) (end : RefreshEnd) (xid : ℕ) (asked : Asked) → s.stage ≡ Refreshing
      → Refreshes s.standing (brought_in s.parts) notes given end
      → Asks s.standing.view s.message xid asked → (rest : List Note) → shown ++ rest ≡ notes
      → LacksMemory s (ended s (said_no_memory xid) shown None)

-- all posts were put, and the agent drops those that were acknowledged
pub data Settles {S : Type 0} (a : Agent S) (s : Session) : Agent S → Session → Type 0 where
  settles : (said : Option Said) (acks : List Ack) → s.stage ≡ Publishing said [] acks
      → Settles a s (settled a acks) (record s { stage = Over said })
