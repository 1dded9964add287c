-- What holds of each reply. It is the file system's answer on one tree, or it has another cause.
-- The tree is the replay, from nothing, of one causally closed set of verified records, of members of the caller's view alone.
use Rattle.std.specs.Prelude.{◌≡◌, ◌⊎◌, ℕ, ◌++◌, List, Contains, IfSome, Some}
use Rattle.ivy_base.specs.Naming.{IsCollisionFree}
use Rattle.log_model.specs.Closed.{IsClosed, IsClosedPart, log_of}
use Rattle.log_model.specs.Record.{Record}
use Rattle.log_model.specs.Replay.{replay}
use Rattle.turn_model.specs.Basis.{HoldsAll, kept_tree}
use Rattle.turn_model.specs.Known.{IsVerified}
use Rattle.turn_model.specs.Turn.{Asked, Candidate, IsAvailable, turn_on}
use Rattle.world_model.specs.Agents.{hss_inputs, own_hss_key}
use Rattle.agent_model.specs.Candidates.{AreCandidatesOf, StandsWithin}
use Rattle.agent_model.specs.Standing.{Refresh}
use Rattle.session_model.specs.Brought.{asks_in, brought_in}
use Rattle.session_model.specs.Executions.{grounds_of}
use Rattle.session_model.specs.Refreshing.{Note, Refreshes, Done}
use Rattle.session_model.specs.Replies.{Asks}
use Rattle.session_model.specs.Sessions.{Over, Said, Session}
use Rattle.script_driver.specs.Run.{Outcome, Goes}
use Rattle.script_model.specs.declared.command.Command.{Command}
use Rattle.script_model.specs.declared.command.Command.TheVariants as command
use Rattle.script_model.specs.Lines.{command_of}
use Rattle.script_model.specs.Messages.{message_of}
use Rattle.dhash_model.specs.Signed.{hss_judged}
use Rattle.dht_ids.specs.Asked.{told}
use Rattle.dht_ids.specs.declared.ask.Ask.{Ask}
use Rattle.dht_ids.specs.declared.ask.Heard.{Heard}
use Rattle.world_model.specs.Fates.{FateOf}
use Rattle.world_model.specs.World.{World, session_named, without_session}
use Rattle.world_model.specs.GhostState.{GhostState, HadTurn, began_of, beginning, having_begun, without_began}
use Rattle.world_model.specs.Keepers.{fails_next}
use Rattle.world_model.specs.Logs.{Played}
use Rattle.world_model.specs.Calls.{BeginsWith, Sending, replied, configuration_of, sending_of, shown_end}
use Rattle.world_model.specs.Steps.{RunsOut, Configuration, StepsOn}
use Rattle.world_laws.specs.Causes.{HasCause}

-- ---- a turn

-- A turn that was answered is the turn of the definition on one set of records.
-- The tree that its agent keeps is the replay of the set afterwards.
pub record IsOnReplay (h : HadTurn) : Type 0 where
  -- The turn is one of its participant's agent, in the view that the agent entered, and of its session.
  pub in_view : h.by.agent.view ≡ Some h.view
  pub of_view : h.session.standing.view ≡ h.view
  pub of_own : (h.session.by ≡ h.by.name) × (h.knowing.name ≡ h.by.name) × (h.session.standing.own ≡ own_hss_key h.by.agent)
  -- What the call asks, and the refresh that its session was brought.
  pub xid : ℕ
  pub asked : Asked
  pub asks : Asks h.session.standing.view h.session.message xid asked
  pub notes : List Note
  pub given : Refresh
  pub refreshed : Refreshes h.session.standing (brought_in h.session.parts) notes given Done
  -- Where the refresh goes by a basis, which is a snapshot that was loaded, that stands for a closed part of what was known before.
  pub loaded : IfSome given.basis (StandsWithin h.view h.knowing.known)
  -- The heads that the session was brought determine the candidates: of each member's log, the chain to take records from.
  -- The set that the turn takes is the largest causally closed part of the candidates and of what was known before.
  pub candidates : List Candidate
  pub of_heads : AreCandidatesOf (grounds_of h.met h.session h.began.knew) h.view given.started candidates
  pub taken : List Record
  pub taken_is_largest : IsClosedPart h.view (IsAvailable h.knowing.known candidates) taken
  -- The reply, and the set afterwards, are those of the turn on that set. It is told whether the save fails, and the moment.
  pub is_answer : h.turned ≡ turn_on (hss_inputs h.by.agent h.view (fails_next h.by.keeper)) taken asked h.now
  -- The set afterwards has all that was known before. Before anything was written, it had of the own log just what was known.
  -- It is verified: its part of each log is the beginning of a chain, and another's record stands at or below a head that was received.
  pub keeps_what_was_known : (r : Record) → Contains h.knowing.known r → Contains h.turned.set r
  pub own_log_is_known : log_of (own_hss_key h.by.agent) taken ≡ log_of (own_hss_key h.by.agent) h.knowing.known
  pub is_verified : IsVerified h.met h.view (own_hss_key h.by.agent) h.after.floor h.knowing.received h.turned.set
  -- The set afterwards is causally closed. The tree that the agent keeps is its replay.
  -- The agent's basis stands for a closed part of it.
  pub set_is_closed : IsClosed h.view h.turned.set
  pub kept_tree_is_replay : kept_tree h.after.holding ≡ replay h.turned.set
  pub basis_stands : HoldsAll h.view h.turned.set h.after.holding

-- So it is if no two different blocks that were met before the turn have one name.
abbrev pub TurnHolds : HadTurn → Type 0
TurnHolds h = IsCollisionFree h.met → IsOnReplay h

-- The turns that were answered between two ghost states.
abbrev pub NewTurns : GhostState → GhostState → List HadTurn → Type 0
NewTurns st next more = next.turns ≡ st.turns ++ more

-- ---- what is shown

-- The lines that show a reply: `as`, a whole call, and `end S`, the end of an open session.
abbrev pub ShowsReply : Command → Type 0
ShowsReply (command.As log pieces) = Unit {0}
ShowsReply (command.Finish session) = Unit {0}
ShowsReply _ = ⊥

-- The session of the line, and the number of its call.
-- Of `as` it is the session that the line begins, of that participant with that message. Of `end S` it is the open session of that name.
abbrev pub IsAskedBy : Played → Command → ℕ → Session → Type 0
IsAskedBy w (command.As log pieces) number s =
    (number ≡ w.1.begun) × (s.by ≡ log) × (message_of w.0.replies s.standing.view pieces ≡ Some s.message)
IsAskedBy w (command.Finish name) number s =
    (before : Session) × (session_named w.0 name ≡ Some before) × (number ≡ (began_of w.1 name).number) × (s.by ≡ before.by)
    × (s.message ≡ before.message)
IsAskedBy w _ number s = ⊥

-- Where the steps of the line's call begin: in the world and the ghost state of the line.
-- Of `as` the session begins with what the line sends. Of `end S` it is the open session of that name, as the lines before left it.
abbrev pub StepsBeginAt : Played → Command → Configuration → Type 0
StepsBeginAt w (command.As log pieces) start = (s : Sending) × (t : Session) × (sending_of w.0 log pieces ≡ Some s) × BeginsWith w.0 s t
    × (start ≡ record { world = w.0; ghost_state = having_begun w.1; session = t; began = beginning w.1 s.by.name })
StepsBeginAt w (command.Finish name) start =
    (s : Session) × (session_named w.0 name ≡ Some s) × (start ≡ configuration_of w s (began_of w.1 name))
StepsBeginAt w _ start = ⊥

-- What is left after their end: the reply counts for later lines, and the session is open no longer.
abbrev pub left_behind : Command → Configuration → Said → Played
left_behind (command.Finish name) end said = (replied (without_session end.world name) said, without_began end.ghost_state name)
left_behind _ end said = (replied end.world said, end.ghost_state)

-- The trail of a session: the asks by which it was brought something since it last began, and those of its get or put on its way.
abbrev pub trail_of : Session → List Heard
trail_of s = asks_in s.parts ++ s.current

-- On the way from one configuration to another the session asked a node, and heard the fate of that ask in the world there:
-- what the node answers by what it holds, or silence, exactly if it is stopped or the ask is lost.
pub record IsHeard (replicas : ℕ) (name : List ℕ) (start end : Configuration) (h : Heard) : Type 0 where
  pub count : ℕ
  pub configuration : Configuration
  pub leads : StepsOn hss_judged replicas name count start configuration
  pub goes_on : RunsOut hss_judged replicas name configuration end
  pub question : Ask
  pub next : World
  pub fate : FateOf hss_judged configuration.world h.node question h.got next
  pub tells : Contains (told h.node question h.got) h

-- The steps that the line made, all up to the end of its session, which says this.
-- What the session has in its trail it had at their beginning, or heard in them.
pub record StepsEndAt (w : Played) (command : Command) (next : Played) (end : Configuration) (said : Said) : Type 0 where
  pub replicas : ℕ
  pub ringed : w.0.replicas ≡ Some replicas
  pub start : Configuration
  pub begins : StepsBeginAt w command start
  pub runs : RunsOut hss_judged replicas start.session.by start end
  pub over : end.session.stage ≡ Over (Some said)
  pub leaves : next ≡ left_behind command end said
  pub heard : (h : Heard) → Contains (trail_of end.session) h
      → Contains (trail_of start.session) h ⊎ IsHeard replicas start.session.by start end h

-- What the line shows is the reply of the session at the end of the steps that it made, and that reply has its cause.
pub record IsCaused (w : Played) (command : Command) (next : Played) (output : List ℕ) : Type 0 where
  pub end : Configuration
  pub said : Said
  pub ends : StepsEndAt w command next end said
  pub asked_by : IsAskedBy w command end.began.number end.session
  pub shown : output ≡ shown_end end.session said
  pub cause : HasCause next.1 end.began.number end.session said

-- ---- the law of a step

-- Each turn that the line made is on the replay, and the reply that the line shows, if it shows one, has its cause.
pub record HoldsOf (w : Played) (command : Command) (next : Played) (output : List ℕ) : Type 0 where
  pub more : List HadTurn
  pub new : NewTurns w.1 next.1 more
  pub turns : (h : HadTurn) → Contains more h → TurnHolds h
  pub caused : ShowsReply command → IsCaused w command next output

-- The headline, of a line that goes on. Each turn that it made is on the replay of one causally closed set of verified records.
-- The reply that it shows, if it shows one, is that of the session at the end of its steps, and has its cause.
-- Each answer in the trail of that session is the fate of its ask, in these steps or in those of the lines before.
abbrev pub Headline : Played → List ℕ → Outcome Played → Type 0
Headline w line outcome = (c : Command) (next : Played) (output : List ℕ) → command_of line ≡ Some c → outcome ≡ Goes next output
    → HoldsOf w c next output
