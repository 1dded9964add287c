-- Why a session gives its reply: by its message alone, because its refresh failed, by its turn, or because memory ran out.
use Rattle.std.specs.Prelude.{◌≡◌, ℕ, List, Contains, Option, Some, None}
use Rattle.dhash_model.specs.declared.miss.Miss.{Miss}
use Rattle.turn_model.specs.Turn.{Asked}
use Rattle.agent_model.specs.Standing.{Refresh}
use Rattle.session_model.specs.Brought.{brought_in}
use Rattle.session_model.specs.Refreshing.{Refreshes, FailsBy, Done}
use Rattle.session_model.specs.Replies.{Asks, IsByMessage, missed_reply, said_bare, said_no_memory, said_of}
use Rattle.session_model.specs.Sessions.{Said, Session, Stage, Refreshing, Publishing, Over}
use Rattle.world_model.specs.GhostState.{GhostState, HadTurn}

-- The reply of a session, once that is decided.
abbrev pub said_at : Stage → Option Said
said_at Refreshing = None
said_at (Publishing said posts acks) = said
said_at (Over said) = said

-- It is the session that had the turn: the number of its call, whose it is, its message, and all that it was brought.
pub record IsOf (h : HadTurn) (number : ℕ) (s : Session) : Type 0 where
  pub number_is : h.began.number ≡ number
  pub by : h.session.by ≡ s.by
  pub message : h.session.message ≡ s.message
  pub entries : h.session.entries ≡ s.entries
  pub standing : h.session.standing ≡ s.standing
  pub parts : h.session.parts ≡ s.parts

-- JUKEBOX (10008) and IO (5) of a failed refresh come only with what it needed and couldn't have. SYSTEM_ERR has no cause but memory.
pub data HasCause (st : GhostState) (number : ℕ) (s : Session) : Said → Type 0 where
  alone : (given : Option (List ℕ)) → IsByMessage s.standing.view s.message given → HasCause st number s (said_bare given)
  missed : (xid : ℕ) (asked : Asked) (given : Refresh) (miss : Miss) → Asks s.standing.view s.message xid asked
      → Refreshes s.standing (brought_in s.parts) s.notes given (FailsBy miss)
      → s.missed ≡ Some miss → HasCause st number s (said_of xid (missed_reply asked miss))
  turned : (h : HadTurn) (xid : ℕ) (asked : Asked) (given : Refresh) → Contains st.turns h → IsOf h number s
      → Asks s.standing.view s.message xid asked
      → Refreshes s.standing (brought_in s.parts) s.notes given Done → HasCause st number s (said_of xid h.turned.reply)
  no_memory : (xid : ℕ) (asked : Asked) → Asks s.standing.view s.message xid asked → HasCause st number s (said_no_memory xid)
