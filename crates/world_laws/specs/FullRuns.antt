-- Runs in which memory never runs out: that there is one from each world that a script reaches, or names clash.
use Rattle.std.specs.Prelude.{◌≡◌, ◌≢◌, ◌<◌, ◌≤◌, ◌^◌, ◌⊎◌, ℕ, Bool, true, false, List, ◌∷◌, ◌++◌, Contains, filter, length, map, sum_by}
use Rattle.std.specs.Prelude.{IfSome}
use Rattle.std.specs.Prelude.{Option, Some}
use Rattle.std.specs.List.{AllByRecursion}
use Rattle.ivy_base.specs.Naming.{HasClash, IsCollisionFree, head_key_of}
use Rattle.wire_model.specs.Rpc.{SystemError, reply}
use Rattle.log_model.specs.Vector.{seq_of}
use Rattle.log_model.specs.View.{View}
use Rattle.dht_ids.specs.declared.post.PostKind.{PostKind}
use Rattle.dht_ids.specs.declared.post.PostKind.TheVariants as kind
use Rattle.agent_model.specs.Agent.{is_head, kept_of, own_key}
use Rattle.agent_model.specs.Others.{is_block}
use Rattle.turn_laws.specs.Laws.{HasRoom}
use Rattle.session_model.specs.Replies.{said_no_memory}
use Rattle.session_model.specs.Sessions.{Over, Publishing, Refreshing, Said, Session, Stage}
use Rattle.script_driver.specs.Run.{Outcome, Goes, Ends, Refuses, Exceeds, Obeys, Ran, Runs, WithLaw, shown}
use Rattle.script_model.specs.declared.command.Command.TheVariants as command
use Rattle.script_model.specs.declared.command.Piece.{Piece}
use Rattle.script_model.specs.Lines.{command_of}
use Rattle.script_model.specs.Messages.{Given}
use Rattle.world_model.specs.Agents.{HssKept, hss_signing}
use Rattle.world_model.specs.Calls.{Sending, reply_line, sending_of}
use Rattle.world_model.specs.Logs.{Played}
use Rattle.world_model.specs.Step.{IvyStep, most_bytes}
use Rattle.world_model.specs.GhostState.{empty_ghost_state}
use Rattle.world_model.specs.World.{Participant, World, empty_world, named_bytes, session_named}
use Rattle.world_laws.specs.Effects.{snapped_in}
use Rattle.world_laws.specs.FullTurns.{AreBytes}
use Rattle.world_laws.specs.Invariant.{AreApart, IsKeptSo, Invariant}
use Rattle.world_laws.specs.Laws.{HadMemory}

-- ---- room

abbrev pub is_record : PostKind → Bool
is_record kind.Block = false
is_record kind.Log = true
is_record kind.Head = false

-- What is to be published is one head at most, no more records than the own log has, and blocks of snapshots, of which no two are equal.
pub record HasFewPosts (k : HssKept) : Type 0 where
  pub records : length (filter (λ p. is_record p.kind) k.pending) ≤ seq_of k.floor (head_key_of (own_key hss_signing k.signer))
  pub heads : length (filter (λ p. is_head p.kind) k.pending) ≤ 1
  pub blocks : AreApart (map (λ p. p.bytes) (filter (λ p. is_block p.kind) k.pending))

-- So it is of each agent, and of what its keeper holds.
pub record PublishFew (w : World) : Type 0 where
  pub agents : AllByRecursion (λ p. HasFewPosts (kept_of p.agent)) w.participants
  pub kept : AllByRecursion (IsKeptSo (λ p k. HasFewPosts k)) w.participants

abbrev pub EmptyPublishesFew : Type 0
EmptyPublishesFew = PublishFew empty_world

-- A line leaves it so.
abbrev pub FewPostsCome : Type 0
FewPostsCome = (w next : Played) (line output : List ℕ) → Invariant w → PublishFew w.0 → IvyStep w line (Goes next output)
    → PublishFew next.0

-- each agent has room
abbrev pub HaveRoom : World → Type 0
HaveRoom w = AllByRecursion (λ p. HasRoom p.agent) w.participants

-- no more was met than a line may go on with
abbrev pub MetLittle : World → Type 0
MetLittle w = sum_by (λ b. length b) w.met ≤ most_bytes

-- So they have there: the blocks are met.
abbrev pub ThereIsRoom : Type 0
ThereIsRoom = (w : Played) → Invariant w → PublishFew w.0 → MetLittle w.0 → HaveRoom w.0

-- Where no names collide, and no more was met than a line may go on with, what would be saved of a snapshot has fewer posts than a word
-- counts: it has so many blocks for each record of what it is made of, and each record has so many bytes.
abbrev pub SnapshotsAreFew : Type 0
SnapshotsAreFew = (w : Played) (p : Participant) (view : View) → Invariant w → PublishFew w.0 → MetLittle w.0
    → IsCollisionFree (named_bytes w.0) → Contains w.0.participants p → p.agent.view ≡ Some view
    → length (snapped_in p view).pending < 2 ^ 32

-- ---- bytes

-- what a reply gave to later lines is bytes
abbrev pub GivesBytes : Given → Type 0
GivesBytes g = IfSome g.handle AreBytes × IfSome g.verifier AreBytes

abbrev pub given_of : Said → Given
given_of said = record { handle = said.handle; verifier = said.verifier }

-- So is what a session will give; and while it publishes for a call, it doesn't say that memory ran out.
abbrev pub IsSaidWell : Stage → Type 0
IsSaidWell Refreshing = Unit {0}
IsSaidWell (Publishing said posts acks) = IfSome said (λ m. GivesBytes (given_of m) × ((xid : ℕ) → m ≢ said_no_memory xid))
IsSaidWell (Over said) = IfSome said (λ m. GivesBytes (given_of m))

pub record IsOfBytes (s : Session) : Type 0 where
  pub message : AreBytes s.message
  pub said : IsSaidWell s.stage

-- What replies gave is bytes, and so are the messages of open sessions and what these will give.
pub record HasBytes (w : World) : Type 0 where
  pub replies : AllByRecursion GivesBytes w.replies
  pub sessions : AllByRecursion (λ s. IsOfBytes s.session) w.sessions

abbrev pub EmptyHasBytes : Type 0
EmptyHasBytes = HasBytes empty_world

-- the line sends these pieces, in a whole call or to open a session
abbrev pub Sends : List ℕ → List ℕ → List Piece → Type 0
Sends line log pieces = (command_of line ≡ Some (command.As log pieces))
    ⊎ ((session : List ℕ) × (command_of line ≡ Some (command.Open session log pieces)))

-- They are a message of bytes, whatever the line.
abbrev pub MessagesAreBytes : Type 0
MessagesAreBytes = (w : World) (line log : List ℕ) (pieces : List Piece) (s : Sending) → HasBytes w → Sends line log pieces
    → sending_of w log pieces ≡ Some s → AreBytes s.message

-- Where no names of the blocks met collide, a line leaves it so.
abbrev pub BytesCome : Type 0
BytesCome = (w next : Played) (line output : List ℕ) → Invariant w → HasBytes w.0 → IsCollisionFree (named_bytes next.0)
    → IvyStep w line (Goes next output) → HasBytes next.0

-- ---- lines

-- names clash among the blocks that are met then
abbrev pub Clashes : Outcome Played → Type 0
Clashes (Goes next output) = HasClash (named_bytes next.0)
Clashes Ends = ⊥
Clashes Refuses = ⊥
Clashes Exceeds = ⊥

-- In such a world, where agents have room unless too much was met, each line has an outcome in which memory was there and no names collide,
-- or one in which names clash.
abbrev pub FullLines : Type 0
FullLines = (w : Played) (line : List ℕ) → Invariant w → (MetLittle w.0 → HaveRoom w.0) → HasBytes w.0
    → (outcome : Outcome Played) × IvyStep w line outcome × (HadMemory w line outcome ⊎ Clashes outcome)

-- ---- running out of memory

-- what is shown begins with the reply when out of memory
abbrev pub ShowsLack : List ℕ → Type 0
ShowsLack output = (xid : ℕ) × (rest : List ℕ) × (output ≡ reply_line (reply xid SystemError) ++ rest)

-- an open session, which wasn't over, is over because memory ran out
pub record EndsForMemory (w next : World) : Type 0 where
  pub name : List ℕ
  pub before : Session
  pub after : Session
  pub xid : ℕ
  pub was : session_named w name ≡ Some before
  pub not_over : (said : Option Said) → before.stage ≢ Over said
  pub stands : Contains next.sessions (record { name = name; session = after })
  pub over : after.stage ≡ Over (Some (said_no_memory xid))

-- memory ran out for a call, which the line's output or an open session tells
abbrev pub LackedMemory : Played → List ℕ → Outcome Played → Type 0
LackedMemory w line (Goes next output) = ShowsLack output ⊎ EndsForMemory w.0 next.0
LackedMemory w line Ends = ⊥
LackedMemory w line Refuses = ⊥
LackedMemory w line Exceeds = ⊥

-- Of each outcome of a line in such a world memory was there and no names collide, or memory ran out, or names clash.
abbrev pub MemoryIsDecided : Type 0
MemoryIsDecided = (w : Played) (line : List ℕ) (outcome : Outcome Played) → Invariant w → IvyStep w line outcome
    → HadMemory w line outcome ⊎ (LackedMemory w line outcome ⊎ Clashes outcome)

-- ---- scripts

-- The first lines go on with memory there, and no names collide; and the line after them leads to a world that met blocks among which names
-- clash.
pub record ClashesOn (w : Played) (lines : List (List ℕ)) : Type 0 where
  pub front : List (List ℕ)
  pub line : List ℕ
  pub rest : List (List ℕ)
  pub are : lines ≡ front ++ line ∷ rest
  pub text : List ℕ
  pub mid : Played
  pub obeyed : Obeys (WithLaw IvyStep HadMemory) w front text mid
  pub last : Played
  pub output : List ℕ
  pub step : IvyStep mid (shown line) (Goes last output)
  pub clash : HasClash (named_bytes last.0)

-- the one run in which memory never runs out and no names collide
abbrev pub IsFullRun : Played → ℕ → List (List ℕ) → Ran → Type 0
IsFullRun w number lines ran = Runs (WithLaw IvyStep HadMemory) w number lines ran
    × ((other : Ran) → Runs (WithLaw IvyStep HadMemory) w number lines other → other ≡ ran)

-- From such a world there is that run of each script, or names clash on the way.
abbrev pub FullScripts : Type 0
FullScripts = (w : Played) (number : ℕ) (lines : List (List ℕ)) → Invariant w → PublishFew w.0 → HasBytes w.0
    → ((ran : Ran) × IsFullRun w number lines ran) ⊎ ClashesOn w lines

-- So it is of each script from its beginning.
abbrev pub FullStarts : Type 0
FullStarts = (number : ℕ) (lines : List (List ℕ))
    → ((ran : Ran) × IsFullRun (empty_world, empty_ghost_state) number lines ran) ⊎ ClashesOn (empty_world, empty_ghost_state) lines
