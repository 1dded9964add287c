-- Completeness: in calm scripts no whole call fails because a block is missing. In tidy ones, while no session is open, its turn takes all
-- that the members have written, and nothing else: `Takes` has that.
use Rattle.std.specs.Prelude.{◌≡◌, ◌≢◌, ◌⊎◌, ◌↔◌, ◌≤◌, true, false, ℕ, length, sum_by, List, [], ◌∷◌, ◌++◌, Contains, Option, Some, None}
use Rattle.std.specs.Prelude.{is_some, Result, Bool}
use Rattle.std.specs.List.{AllByRecursion}
use Rattle.ivy_base.specs.declared.key.Key.{Key}
use Rattle.ivy_base.specs.Naming.{IsCollisionFree, head_key_of, name}
use Rattle.dht_ids.specs.declared.ask.Answer.{Answer}
use Rattle.dht_ids.specs.declared.ask.Ask.TheVariants as ask
use Rattle.dht_ids.specs.declared.peer.Peer.{Peer}
use Rattle.dht_ids.specs.declared.post.Post.{Post}
use Rattle.dhash_model.specs.Execution.{Told, told_all}
use Rattle.dhash_model.specs.Puts.{holds}
use Rattle.dhash_model.specs.declared.miss.Miss.{Miss}
use Rattle.dhash_model.specs.Signed.{hss_judged}
use Rattle.dhash_model.specs.Stores.{Block, full}
use Rattle.agent_model.specs.Agent.{is_head}
use Rattle.log_model.specs.Closed.{log_of}
use Rattle.log_model.specs.Record.{Record}
use Rattle.log_model.specs.View.{View}
use Rattle.script_driver.specs.Run.{Goes}
use Rattle.script_model.specs.declared.command.Command.{Command}
use Rattle.script_model.specs.declared.command.Command.TheVariants as command
use Rattle.script_model.specs.declared.command.Piece.{Piece}
use Rattle.script_model.specs.Lines.{command_of}
use Rattle.session_model.specs.Sessions.{IsPutOfPost, acknowledged, put_question}
use Rattle.world_model.specs.Agents.{own_hss_key}
use Rattle.world_model.specs.Fates.{FateOf, Fates, asking}
use Rattle.world_model.specs.Nodes.{Node}
use Rattle.world_model.specs.World.{World, Participant, entries, node_at, participant, view_named}
use Rattle.world_model.specs.GhostState.{HadTurn, known_of}
use Rattle.world_model.specs.Logs.{Played}
use Rattle.world_model.specs.Step.{IvyStep, most_bytes}
use Rattle.calm_laws.specs.Calm.{IsCalmAt, Stopped}
use Rattle.world_laws.specs.Headline.{IsCaused, IsOnReplay}

-- ---- no call fails for want of a block

-- What is shown is what a session of the line said, and its refresh missed nothing: so the reply says neither that the client is to try
-- again later, nor an IO error of a block. And each turn of the line is on the replay, without a premise.
pub record IsLineServed (w : Played) (c : Command) (next : Played) (output : List ℕ) : Type 0 where
  pub caused : IsCaused w c next output
  pub missed_nothing : caused.end.session.missed ≡ None
  -- Before each turn that the line made, no two different blocks that were met had one name: the headline's premise.
  pub apart : (h : HadTurn) → Contains next.1.turns h → Contains w.1.turns h ⊎ IsCollisionFree h.met

-- of each log a put of a head was acknowledged
abbrev pub HaveHeads : Played → Type 0
HaveHeads w = (q : Participant) → Contains w.0.participants q
    → (p : Post) × Contains w.1.acked p × (is_head p.kind ≡ true) × (p.key ≡ head_key_of (own_hss_key q.agent))

-- In a calm script so is each whole call, where that is so.
abbrev pub CallsMissNothingBehindHeads : Type 0
CallsMissNothingBehindHeads =
    (r : ℕ) (w next : Played) (count : ℕ) (lines : List (List ℕ)) (line name output : List ℕ) (pieces : List Piece)
    → IsCalmAt r w (Stopped count) lines → HaveHeads w
    → command_of line ≡ Some (command.As name pieces) → IvyStep w line (Goes next output)
    → IsLineServed w (command.As name pieces) next output

-- While what was met is within its limit no node's store is full: it has room for any block that was met.
abbrev pub StoresHaveRoom : Type 0
StoresHaveRoom = (r : ℕ) (w : Played) (count : ℕ) (lines : List (List ℕ)) (id : Key) (n : Node) (key : Key) (block : Block)
    → IsCalmAt r w (Stopped count) lines → sum_by (λ b. length b) w.0.met ≤ most_bytes → node_at w.0 id ≡ Some n
    → Contains w.0.met block.bytes → full key block n.blocks ≡ None

-- the post is content under its name, or a head that is judged
pub record FitsItsKey (p : Post) : Type 0 where
  pub content : is_head p.kind ≡ false → name p.bytes ≡ p.key
  pub head : is_head p.kind ≡ true → is_some (hss_judged p.key p.bytes) ≡ true

-- So a live node that is asked to hold such a post that was met holds it then, or a head that is newer. One that has stopped is silent, and
-- takes nothing.
abbrev pub LivePutsAreTaken : Type 0
LivePutsAreTaken = (r : ℕ) (w : Played) (next : World) (count : ℕ) (lines : List (List ℕ)) (p : Post) (to : Peer) (n : Node)
    (given : Answer) → IsCalmAt r w (Stopped count) lines → sum_by (λ b. length b) w.0.met ≤ most_bytes
    → Contains w.0.met p.bytes → FitsItsKey p
    → node_at w.0 to.id ≡ Some n → n.is_live ≡ true → FateOf hss_judged w.0 to (put_question p) given next → holds given ≡ true

-- So a whole put of it is acknowledged.
abbrev pub PutsAreAcknowledged : Type 0
PutsAreAcknowledged = (r : ℕ) (w : Played) (next : World) (count : ℕ) (lines : List (List ℕ)) (p : Post) (looks asks : Told)
    (came : Result Bool Miss) → IsCalmAt r w (Stopped count) lines → sum_by (λ b. length b) w.0.met ≤ most_bytes
    → Contains w.0.met p.bytes → FitsItsKey p → Fates hss_judged w.0 (asking (ask.Route p.key) looks ++ asking (put_question p) asks) next
    → IsPutOfPost r (entries w.0) p (told_all (ask.Route p.key) looks ++ told_all (put_question p) asks) came → acknowledged came ≡ true

-- So each log has a head of which a put was acknowledged, in each world of a calm script in which a further line is within the limit of
-- what may be met.
abbrev pub LogsHaveHeads : Type 0
LogsHaveHeads = (r : ℕ) (w : Played) (count : ℕ) (lines : List (List ℕ)) → IsCalmAt r w (Stopped count) lines
    → sum_by (λ b. length b) w.0.met ≤ most_bytes → HaveHeads w

-- So in a calm script each whole call is served, tidy or not.
abbrev pub CallsMissNothing : Type 0
CallsMissNothing = (r : ℕ) (w next : Played) (count : ℕ) (lines : List (List ℕ)) (line name output : List ℕ) (pieces : List Piece)
    → IsCalmAt r w (Stopped count) lines
    → command_of line ≡ Some (command.As name pieces) → IvyStep w line (Goes next output)
    → IsLineServed w (command.As name pieces) next output

-- ---- tidy scripts

-- no session of the participant is open
abbrev pub HasNoneOpen : World → List ℕ → Type 0
HasNoneOpen w log = AllByRecursion (λ s. s.session.by ≢ log) w.sessions

-- it is in no view, or in that one, be it under another name
abbrev pub IsInOrNone : World → List ℕ → Option View → Type 0
IsInOrNone w log view = (p : Participant) (before : View) → participant w log ≡ Some p → p.agent.view ≡ Some before → view ≡ Some before

-- where a participant enters a view or starts again no session of it is open, and it enters no view but the one that it is in
abbrev pub IsTidyAt : World → Command → Type 0
IsTidyAt w (command.Use log view) = HasNoneOpen w log × IsInOrNone w log (view_named w view)
IsTidyAt w (command.Restart log) = HasNoneOpen w log
IsTidyAt w _ = Unit {0}

-- each log has a key of its own
abbrev pub HaveOwnKeys : World → Type 0
HaveOwnKeys w = (p q : Participant) → Contains w.participants p → Contains w.participants q → own_hss_key p.agent ≡ own_hss_key q.agent
    → p ≡ q

-- all members of the caller's view have entered it
abbrev pub HaveEntered : World → List ℕ → Type 0
HaveEntered w caller = (p q : Participant) (view : View) → participant w caller ≡ Some p → p.agent.view ≡ Some view
    → Contains w.participants q → Contains view.members (own_hss_key q.agent) → q.agent.view ≡ Some view

-- ---- the turn takes everything

-- a member of the view has written the record
abbrev pub IsWritten : Played → View → Record → Type 0
IsWritten w view one = (q : Participant) × Contains w.0.participants q × Contains view.members (own_hss_key q.agent)
    × Contains (log_of (own_hss_key q.agent) (known_of w.1 q.name)) one

-- The new turn takes all records that the members of its view have written, and nothing else.
abbrev pub TakesAllWritten : Played → Played → Type 0
TakesAllWritten w next = (h : HadTurn) (turn : IsOnReplay h) (one : Record) → next.1.turns ≡ w.1.turns ++ h ∷ []
    → Contains turn.taken one ↔ IsWritten w h.view one
