-- Completeness of refreshes: if nodes gave all that a call's refresh needs, the call has its turn, and no reply of a failed refresh.
use Rattle.std.specs.Prelude.{◌≡◌, ◌⊎◌, ℕ, false, List, [], ◌++◌, Contains, Option, Some}
use Rattle.std.specs.List.{AllByRecursion}
use Rattle.ivy_base.specs.Naming.{IsCollisionFree, head_key_of, name}
use Rattle.dht_ids.specs.declared.ask.Answer.TheVariants as answer
use Rattle.dht_ids.specs.declared.ask.AskKind.TheVariants as kind
use Rattle.dht_ids.specs.declared.ask.Heard.{Heard}
use Rattle.dht_ids.specs.declared.judge.Judged.{Judged}
use Rattle.dhash_model.specs.Signed.{hss_judged}
use Rattle.nfs_model.specs.declared.replies.NfsStatus.{NfsStatus}
use Rattle.nfs_model.specs.declared.replies.NfsStatus.TheVariants as status
use Rattle.nfs_model.specs.declared.replies.Reply.TheVariants as reply
use Rattle.nfs_model.specs.declared.replies.Tail.{Tail}
use Rattle.turn_model.specs.Basis.{Basis}
use Rattle.turn_model.specs.Turn.{Asked}
use Rattle.session_model.specs.Brought.{Brought, HeadsOf, BlockOf, Part, brought_in}
use Rattle.session_model.specs.Refreshing.{Loaded, LoadsFor}
use Rattle.session_model.specs.Replies.{Asks, said_no_memory, said_of}
use Rattle.session_model.specs.Sessions.{Said, Session}
use Rattle.script_driver.specs.Run.{Goes, Outcome}
use Rattle.script_model.specs.Lines.{command_of}
use Rattle.script_model.specs.declared.command.Command.{Command}
use Rattle.world_model.specs.Logs.{Played}
use Rattle.world_model.specs.Steps.{Configuration}
use Rattle.world_model.specs.GhostState.{HadTurn}
use Rattle.world_laws.specs.Causes.{IsOf}
use Rattle.world_laws.specs.Headline.{IsCaused, IsOnReplay, TurnHolds}
use Rattle.stage_laws.specs.Outputs.{RefusesItself, ShowsStatus}
use Rattle.stage_laws.specs.Statuses.{is_of_tree}

-- ---- what is given

-- One of the asked nodes gave these bytes: an entry of the trail tells so.
abbrev pub WasGiven : List Heard → List ℕ → Type 0
WasGiven asks bytes = (h : Heard) × Contains asks h × (h.kind ≡ kind.Get) × (h.got ≡ answer.Found bytes)

-- A block is given right if its name is the key. Nobody is asked for one that is available, in the cache or the pending posts.
-- A head is given right if its log's judge takes it: its signature is accepted.
abbrev pub IsGivenRight : Brought → List Heard → Type 0
IsGivenRight (HeadsOf owner came) asks =
    (bytes : List ℕ) × (head : Judged) × WasGiven asks bytes × (hss_judged (head_key_of owner) bytes ≡ Some head)
IsGivenRight (BlockOf key came) asks = (asks ≡ []) ⊎ ((bytes : List ℕ) × WasGiven asks bytes × (name bytes ≡ key))

-- The heads and records for which a session's refresh has asked. Before them it loaded a snapshot, or there was none to load: if a block
-- of a snapshot can't be had, the refresh goes on without the snapshot.
pub record HasAskedFor (s : Session) (needed : List Part) : Type 0 where
  pub before : List Part
  pub basis : Option Basis
  pub loads : LoadsFor s.standing.to_load (brought_in before) (Loaded basis)
  pub parts : s.parts ≡ before ++ needed

-- Each head and each record that the refresh needed was given right.
abbrev pub IsGivenAll : Session → Type 0
IsGivenAll s = (needed : List Part) → HasAskedFor s needed → AllByRecursion (λ p. IsGivenRight p.brought p.asks) needed

-- ---- what comes of it

-- What the session says is the reply of a turn of its own. If no two different blocks that were met before the turn have one name, it is
-- on the replay: the file system's reply, or ROFS or SERVERFAULT for a cause of the turn's own. Then the line shows neither JUKEBOX nor
-- IO.
pub record EndsInTurn (next : Played) (end : Configuration) (said : Said) (output : List ℕ) : Type 0 where
  pub turn : HadTurn
  pub had : Contains next.1.turns turn
  pub its : IsOf turn end.began.number end.session
  pub xid : ℕ
  pub says : said ≡ said_of xid turn.turned.reply
  pub holds : TurnHolds turn
  pub itself : (on : IsOnReplay turn) (s : NfsStatus) (t : Tail) → is_of_tree s ≡ false → turn.turned.reply ≡ reply.Refused s t
      → RefusesItself turn on s
  pub shows : IsCollisionFree turn.met → (ShowsStatus output status.Jukebox → ⊥) × (ShowsStatus output status.Io → ⊥)

-- The session says SYSTEM_ERR: memory ran out.
abbrev pub SaysNoMemory : Said → Type 0
SaysNoMemory said = (xid : ℕ) × (said ≡ said_no_memory xid)

-- Say that a line shows the reply to a call that wants a turn, and that each head and record that its refresh needed was given right. Then
-- the refresh ended in the call's turn, unless memory ran out.
abbrev pub RefreshesAreComplete : Played → List ℕ → Outcome Played → Type 0
RefreshesAreComplete w line outcome = (c : Command) (next : Played) (output : List ℕ) → command_of line ≡ Some c
    → outcome ≡ Goes next output → (caused : IsCaused w c next output) (xid : ℕ) (asked : Asked)
    → Asks caused.end.session.standing.view caused.end.session.message xid asked → IsGivenAll caused.end.session
    → EndsInTurn next caused.end caused.said output ⊎ SaysNoMemory caused.said
