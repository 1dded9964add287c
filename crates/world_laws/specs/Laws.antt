-- Laws of the world's steps and of its runs. Each is stated here, and proved in this crate.
use Rattle.std.specs.Prelude.{◌≡◌, ◌≢◌, ◌⊎◌, ◌↔◌, ℕ, ◌+◌, ◌<◌, Bool, true, List, [], ◌∷◌, ◌++◌, map, take, Contains, Option, Some, IfSome}
use Rattle.std.specs.List.{AllByRecursion}
use Rattle.ivy_base.specs.declared.key.Key.{Key}
use Rattle.ivy_base.specs.declared.key.PubKey.{PubKey}
use Rattle.ivy_base.specs.Naming.{IsCollisionFree, HasClash, head_key_of}
use Rattle.wire_model.specs.Rpc.{SystemError, reply}
use Rattle.log_model.specs.Record.{Record}
use Rattle.log_model.specs.Chain.{LinkedFrom}
use Rattle.log_model.specs.Closed.{IsClosed, log_of}
use Rattle.log_model.specs.Rank.{front}
use Rattle.log_model.specs.Spelling.{HasSpelling, no_name}
use Rattle.log_model.specs.Standing.{Stand, StandsAmong}
use Rattle.log_model.specs.Vector.{Entry, Stamp, Vector, stamp_at}
use Rattle.log_model.specs.View.{View, IsView}
use Rattle.log_model.specs.ViewKeys.{HasKeys}
use Rattle.nfs_model.specs.declared.replies.Reply.{Reply}
use Rattle.turn_model.specs.Basis.{Holding, Knows, fresh_basis}
use Rattle.turn_model.specs.Candidates.{AreCandidates}
use Rattle.turn_model.specs.Known.{EndsAt, IsKnown}
use Rattle.turn_model.specs.Turn.{Asked, Candidate, IsPrefixOf, Turned}
use Rattle.dht_ids.specs.declared.ask.Answer.{Answer}
use Rattle.dht_ids.specs.declared.ask.Ask.{Ask}
use Rattle.dht_ids.specs.declared.judge.Judged.{Judged}
use Rattle.dht_ids.specs.declared.peer.Peer.{Peer}
use Rattle.dhash_model.specs.declared.miss.Miss.{Miss}
use Rattle.dhash_model.specs.Signed.{hss_judged}
use Rattle.hash_signature_model.specs.declared.keys.PrivateKey.{PrivateKey}
use Rattle.hash_signature_model.specs.declared.set.Set.{Set}
use Rattle.hash_signature_model.specs.Signer.{Signer, leaf_used, left_of, lower_key, signed_lower}
use Rattle.hss_keys.specs.Signer.{leaves_used}
use Rattle.agent_model.specs.Agent.{joined, kept_of}
use Rattle.agent_model.specs.Others.{basis_of}
use Rattle.agent_model.specs.SavedBytes.{ArePostsSpelled}
use Rattle.agent_model.specs.Candidates.{AreCandidatesOf, Brings, Grounds, IsMisled, MayTurn, evidence_in}
use Rattle.agent_model.specs.Turning.{Answered, Becomes, MayTake, TurnEnd, Turns}
use Rattle.agent_model.specs.Standing.{Refresh, Standing, edges_of}
use Rattle.session_model.specs.Brought.{Brought, WantedOfRing}
use Rattle.session_model.specs.Refreshing.{Needs, Note, RefreshEnd, Refreshes}
use Rattle.session_model.specs.Sessions.{Cache, Hears, Said, TakesAll, TakesSome, Session, Refreshing, Over}
use Rattle.session_model.specs.Executions.{Fails, grounds_of, HasRefreshed, IsRefusal, LacksMemory, Settles}
use Rattle.session_model.specs.Replies.{Asks, said_no_memory}
use Rattle.snapshot_model.specs.Reading.{IsBasisSpelled}
use Rattle.session_laws.specs.Going.{IsOfWant}
use Rattle.script_driver.specs.Run.{Outcome, Goes, Ends, Refuses, Exceeds, Ran, Runs, WithLaw, shown}
use Rattle.script_driver.specs.Seen.{HasGhostState, SeenStep}
use Rattle.script_model.specs.declared.command.Command.{Command}
use Rattle.script_model.specs.declared.command.Command.TheVariants as command
use Rattle.script_model.specs.declared.command.Piece.{Piece}
use Rattle.script_model.specs.Lines.{command_of}
use Rattle.world_model.specs.Agents.{HssAgent, IsHssKept, IsHssTurnIn, HssKept, TakesHssTurn, hss_signing, hss_kept_bytes, own_hss_key}
use Rattle.world_model.specs.Keepers.{fails_next}
use Rattle.world_model.specs.World.{World, NamedSession, Participant, empty_world, named_bytes, participant, with_participant}
use Rattle.world_model.specs.Fates.{FateOf}
use Rattle.world_model.specs.GhostState.{Began, HadTurn, GhostState, beginning, empty_ghost_state, having_begun, known_of, receiving}
use Rattle.world_model.specs.Logs.{Played, Publishes, having_snapped, snapping_in}
use Rattle.world_model.specs.Calls.{BeginsWith, Sending, reply_line}
use Rattle.world_model.specs.Step.{Does, IvyStep}
use Rattle.world_model.specs.Steps.{after_turn, ask_told, heads_by, met_by, RunsOut, Configuration, Steps, StepsOn, turn_told, turning_of}
use Rattle.world_model.specs.Steps.{with_cache}
use Rattle.world_model.specs.Steps.{world_after}
use Rattle.world_laws.specs.Causes.{IsOf}
use Rattle.world_laws.specs.Invariant.{BeganFresh, GoesOn, HasNoSnapshot, IsInHand, IsMetHead, IsSoundSession, Invariant, OnlyPublishes}
use Rattle.world_laws.specs.Invariant.{sealed_with}
use Rattle.world_laws.specs.Headline.{Headline, HoldsOf, IsOnReplay, NewTurns, TurnHolds}

-- ---- blocks met

-- Whether names tell blocks apart is decided.
abbrev pub ClashIsDecided : Type 0
ClashIsDecided = (blocks : List (List ℕ)) → IsCollisionFree blocks ⊎ HasClash blocks

-- Names that tell more blocks apart tell fewer apart.
abbrev pub FewerStayApart : Type 0
FewerStayApart = (blocks more : List (List ℕ)) → ((b : List ℕ) → Contains blocks b → Contains more b) → IsCollisionFree more
    → IsCollisionFree blocks

-- A line forgets no block that was met.
abbrev pub MetGrows : Type 0
MetGrows = (w next : Played) (line output : List ℕ) → IvyStep w line (Goes next output) → (b : List ℕ) → Contains w.0.met b
    → Contains next.0.met b

-- a command that shows something, or sets the moment or a loss to come, and nothing else
abbrev pub IsStill : Command → Type 0
IsStill (command.At sec nsec) = Unit {0}
IsStill (command.Lose count) = Unit {0}
IsStill (command.Show shown) = Unit {0}
IsStill command.Nothing = Unit {0}
IsStill _ = ⊥

-- It leaves nodes, agents, sessions and blocks as they are, and the ghost state: whatever doesn't speak of the moment and of losses holds
-- on.
abbrev pub StillLinesChangeNothing : Type 0
StillLinesChangeNothing = (w next : Played) (c : Command) (output : List ℕ) → IsStill c → Does hss_judged w c (Goes next output)
    → (next.1 ≡ w.1) × (next.0 ≡ record w.0 { now = next.0.now; lost = next.0.lost })

-- ---- runs

-- a script begins in such a world, and each line leaves one
abbrev pub EmptyKeeps : Type 0
EmptyKeeps = Invariant (empty_world, empty_ghost_state)

abbrev pub LinesKeep : Type 0
LinesKeep = (w next : Played) (line output : List ℕ) → Invariant w → IvyStep w line (Goes next output) → Invariant next

-- what steps of a session in hand leave: such a world and such a session, and each turn in them is on the replay
abbrev pub StepLeaves : Configuration → Configuration → ℕ → Type 0
StepLeaves c next r = Invariant (next.world, next.ghost_state) × IsInHand next r × (more : List HadTurn)
    × NewTurns c.ghost_state next.ghost_state more
    × ((h : HadTurn) → Contains more h → TurnHolds h)

-- a step leaves that
abbrev pub StepsKeep : Type 0
StepsKeep = (c next : Configuration) (r : ℕ) → Invariant (c.world, c.ghost_state) → IsInHand c r → c.world.replicas ≡ Some r
    → Steps hss_judged r c.session.by c next → StepLeaves c next r

-- Steps of it that are no get and no turn: an ask of a put, settling, and the end where memory runs out.
abbrev pub PutsKeep : Type 0
PutsKeep = (c : Configuration) (r : ℕ) (p : Participant) (node : Peer) (question : Ask) (answer : Answer) (world : World) (heard : Session)
    (cache : Cache) → Invariant (c.world, c.ghost_state) → IsInHand c r
    → c.world.replicas ≡ Some r → participant c.world c.session.by ≡ Some p → c.session.stage ≢ Refreshing
    → FateOf hss_judged c.world node question answer world
    → Hears hss_judged r c.session p.cache node question answer heard cache
    → (let next : Configuration = record {
      world = with_participant world (record p { cache = cache });
      ghost_state = ask_told c.ghost_state p.name c.session heard;
      session = heard;
      began = c.began;
    } in
    Invariant (next.world, next.ghost_state) × IsInHand next r × (next.ghost_state.turns ≡ c.ghost_state.turns))

-- so does an ask of a get by which nothing is brought yet
abbrev pub GetsGoOnKeep : Type 0
GetsGoOnKeep = (c : Configuration) (r : ℕ) (p : Participant) (node : Peer) (question : Ask) (answer : Answer) (world : World)
    (heard : Session)
    (cache : Cache) → Invariant (c.world, c.ghost_state) → IsInHand c r
    → c.world.replicas ≡ Some r → participant c.world c.session.by ≡ Some p → c.session.stage ≡ Refreshing → heard.parts ≡ c.session.parts
    → FateOf hss_judged c.world node question answer world
    → Hears hss_judged r c.session p.cache node question answer heard cache
    → (let next : Configuration = record {
      world = with_participant world (record p { cache = cache });
      ghost_state = ask_told c.ghost_state p.name c.session heard;
      session = heard;
      began = c.began;
    } in
    Invariant (next.world, next.ghost_state) × IsInHand next r × (next.ghost_state.turns ≡ c.ghost_state.turns))

abbrev pub SettlingKeeps : Type 0
SettlingKeeps = (c : Configuration) (r : ℕ) (p : Participant) (after : HssAgent) (t : Session) → Invariant (c.world, c.ghost_state)
    → IsInHand c r
    → participant c.world c.session.by ≡ Some p → Settles p.agent c.session after t
    → (let next : Configuration = record c { world = with_participant c.world (record p { agent = after }); session = t } in Invariant
    (next.world, next.ghost_state) × IsInHand next r)

-- so does a step at which what is available is taken, and then memory runs out
abbrev pub LackingStepsKeep : Type 0
LackingStepsKeep = (c : Configuration) (r : ℕ) (p : Participant) (taken t : Session) (cache : Cache) → Invariant (c.world, c.ghost_state)
    → IsInHand c r
    → participant c.world c.session.by ≡ Some p
    → TakesSome hss_judged r c.session p.cache taken cache → LacksMemory taken t
    → (let next : Configuration = with_cache hss_judged r c p t cache in Invariant (next.world, next.ghost_state) × IsInHand next r)

-- so does an ask of a get that is over with it, by which something is brought: the refresh goes on, or has failed
abbrev pub GetsBringKeep : Type 0
GetsBringKeep = (c : Configuration) (r : ℕ) (p : Participant) (node : Peer) (question : Ask) (answer : Answer) (world : World)
    (heard t : Session)
    (cache : Cache) → Invariant (c.world, c.ghost_state) → IsInHand c r
    → c.world.replicas ≡ Some r → participant c.world c.session.by ≡ Some p → c.session.stage ≡ Refreshing → heard.parts ≢ c.session.parts
    → FateOf hss_judged c.world node question answer world → Hears hss_judged r c.session p.cache node question answer heard cache
    → Fails heard t
    → (let next : Configuration = record {
      world = with_participant world (record p { cache = cache });
      ghost_state = ask_told c.ghost_state p.name c.session t;
      session = t;
      began = c.began;
    } in
    Invariant (next.world, next.ghost_state) × IsInHand next r × (next.ghost_state.turns ≡ c.ghost_state.turns))

-- so does taking what is available, after which the refresh goes on
abbrev pub TakingKeeps : Type 0
TakingKeeps = (c : Configuration) (r : ℕ) (p : Participant) (taken : Session) (cache : Cache) → Invariant (c.world, c.ghost_state)
    → IsInHand c r
    → participant c.world c.session.by ≡ Some p
    → TakesSome hss_judged r c.session p.cache taken cache
    → (let next : Configuration = with_cache hss_judged r c p taken cache in Invariant (next.world, next.ghost_state) × IsInHand next r)

-- so do more heads that a participant received, which were met
abbrev pub ReceivingKeeps : Type 0
ReceivingKeeps = (w : World) (st : GhostState) (name : List ℕ) (heads : List Entry) → Invariant (w, st)
    → AllByRecursion (IsMetHead w.met) heads
    → Invariant (w, receiving st name heads)

-- so does an ask whose answer isn't heard, since memory runs out
abbrev pub VainAsksKeep : Type 0
VainAsksKeep = (c : Configuration) (r : ℕ) (p : Participant) (node : Peer) (question : Ask) (answer : Answer) (world : World)
    (heard t : Session)
    (cache : Cache) → Invariant (c.world, c.ghost_state) → IsInHand c r
    → c.world.replicas ≡ Some r → participant c.world c.session.by ≡ Some p → FateOf hss_judged c.world node question answer world
    → Hears hss_judged r c.session p.cache node question answer heard cache
    → LacksMemory c.session t → Invariant (world, c.ghost_state) × IsInHand (record c { world = world; session = t }) r

abbrev pub LackingKeeps : Type 0
LackingKeeps = (c : Configuration) (r : ℕ) (t : Session) → IsInHand c r → LacksMemory c.session t → IsInHand (record c { session = t }) r

-- so does a step of a session that only publishes, which has no turn
abbrev pub PublishingKeeps : Type 0
PublishingKeeps = (c next : Configuration) (r : ℕ) → Invariant (c.world, c.ghost_state) → OnlyPublishes c.world r c.session
    → c.world.replicas ≡ Some r
    → Steps hss_judged r c.session.by c next
    → Invariant (next.world, next.ghost_state) × OnlyPublishes next.world r next.session × (next.ghost_state.turns ≡ c.ghost_state.turns)

-- ---- calls that begin

-- a session that begins is in hand
abbrev pub CallsBegin : Type 0
CallsBegin = (w : Played) (r : ℕ) (s : Sending) (t : Session) → Invariant w → w.0.replicas ≡ Some r → participant w.0 s.by.name ≡ Some s.by
    → s.by.agent.view ≡ Some s.view → BeginsWith w.0 s t
    → IsInHand (record { world = w.0; ghost_state = having_begun w.1; session = t; began = beginning w.1 s.by.name }) r

-- so the line that opens a session leaves such a world
abbrev pub OpenLineKeeps : Type 0
OpenLineKeeps = (session log : List ℕ) (pieces : List Piece) (w next : Played) (output : List ℕ) → Invariant w
    → Does hss_judged w (command.Open session log pieces) (Goes next output) → Invariant next

-- ---- turns

-- a turn that is answered
abbrev pub AnsweredTurnsKeep : Type 0
AnsweredTurnsKeep = (c : Configuration) (r : ℕ) (p : Participant) (view : View) (reply : Reply) (applied : ℕ) (after : HssAgent)
    (saving : Option HssKept)
    (t : Session) (turned : Turned) → Invariant (c.world, c.ghost_state) → IsInHand c r
    → c.world.replicas ≡ Some r → participant c.world c.session.by ≡ Some p → p.agent.view ≡ Some view
    → TakesHssTurn (turning_of c.world p view) c.session (Answered reply applied) after saving t → turned.reply ≡ reply
    → (IsCollisionFree (named_bytes c.world)
    → IsHssTurnIn (named_bytes c.world) (turning_of c.world p view) c.session c.began.knew (known_of c.ghost_state p.name) turned)
    → StepLeaves c (record {
      world = world_after c.world (record (after_turn p after saving) { work = applied });
      ghost_state = turn_told c p view after turned;
      session = t;
      began = c.began;
    }) r

-- a turn that is refused
abbrev pub RefusedTurnsKeep : Type 0
RefusedTurnsKeep = (c : Configuration) (r : ℕ) (p : Participant) (view : View) (end : TurnEnd) (after : HssAgent) (saving : Option HssKept)
    (t : Session)
    → Invariant (c.world, c.ghost_state) → IsInHand c r
    → c.world.replicas ≡ Some r → participant c.world c.session.by ≡ Some p → p.agent.view ≡ Some view → IsRefusal end
    → TakesHssTurn (turning_of c.world p view) c.session end after saving t
    → StepLeaves c (record c {
      world = world_after c.world (after_turn p after saving);
      session = t;
      began = record c.began { knew = known_of c.ghost_state p.name };
    }) r

-- ---- replies

-- in such a world the headline holds of each line; so it holds of each line of a run
abbrev pub HeadlineHolds : Type 0
HeadlineHolds = (w : Played) (line : List ℕ) (outcome : Outcome Played) → Invariant w → IvyStep w line outcome → Headline w line outcome

abbrev pub EachReplyIsOnReplay : Type 0
EachReplyIsOnReplay = (w : Played) (number : ℕ) (lines : List (List ℕ)) (ran : Ran) → Invariant w → Runs IvyStep w number lines ran
    → Runs (WithLaw IvyStep Headline) w number lines ran

-- Each open session can be brought to its end, in the same steps whatever is told of it: it says something, and this world is left.
abbrev pub EachSessionEnds : Type 0
EachSessionEnds = (w : World) (r : ℕ) (s : Session) → HasGhostState Invariant w → w.replicas ≡ Some r → GoesOn w r s
    → (next : World) × (t : Session) × (said : Said) × (t.stage ≡ Over (Some said))
    × ((st : GhostState) (b : Began) → (told : GhostState)
    × RunsOut hss_judged r s.by (record { world = w; ghost_state = st; session = s; began = b })
    (record { world = next; ghost_state = told; session = t; began = b }))

-- A world has an outcome of each line, and one whichever ghost state fits it.
abbrev pub EachLineIsTotal : Type 0
EachLineIsTotal = (w : World) (line : List ℕ) → HasGhostState Invariant w
    → (outcome : Outcome World) × SeenStep Invariant IvyStep w line outcome

-- the line makes no snapshot
abbrev pub MakesNoSnapshot : List ℕ → Type 0
MakesNoSnapshot line = (log : List ℕ) → command_of line ≢ Some (command.Snap log)

-- So each script has a run.
abbrev pub EachScriptHasARun : Type 0
EachScriptHasARun = (w : World) (number : ℕ) (lines : List (List ℕ)) → HasGhostState Invariant w
    → (ran : Ran) × Runs (SeenStep Invariant IvyStep) w number lines ran

-- ---- one run

-- no call was refused because memory ran out in this step: what is shown doesn't begin with such a reply, unless by the end of a session
-- that was over before, and no session is over so that wasn't
pub record HasMemoryIn (w next : World) (line output : List ℕ) : Type 0 where
  pub shown : (xid : ℕ) (rest : List ℕ) → output ≡ reply_line (reply xid SystemError) ++ rest
      → (s : NamedSession) × Contains w.sessions s × (command_of line ≡ Some (command.Finish s.name))
      × (s.session.stage ≡ Over (Some (said_no_memory xid)))
  pub sessions : AllByRecursion (λ s. (xid : ℕ) → s.session.stage ≡ Over (Some (said_no_memory xid)) → Contains w.sessions s) next.sessions

-- two worlds that a line leads to, in both of which memory was there, are one, and so are their outputs, where no names of what was met
-- collide
abbrev pub StepsAreDeterministic : Type 0
StepsAreDeterministic = (w one other : Played) (line text words : List ℕ) → Invariant w → IsCollisionFree (named_bytes one.0)
    → IsCollisionFree (named_bytes other.0)
    → IvyStep w line (Goes one text) → IvyStep w line (Goes other words) → HasMemoryIn w.0 one.0 line text
    → HasMemoryIn w.0 other.0 line words → (one ≡ other) × (text ≡ words)

-- the session isn't over because memory ran out
abbrev pub HasMemoryAt : Session → Type 0
HasMemoryAt s = (xid : ℕ) → s.stage ≢ Over (Some (said_no_memory xid))

-- So are the configurations that a step of a session in hand leads to, and many steps, and all up to the end.
abbrev pub SessionStepsAreDeterministic : Type 0
SessionStepsAreDeterministic = (c one other : Configuration) (r : ℕ) → Invariant (c.world, c.ghost_state) → IsInHand c r
    → c.world.replicas ≡ Some r
    → IsCollisionFree (named_bytes c.world)
    → Steps hss_judged r c.session.by c one → Steps hss_judged r c.session.by c other → HasMemoryAt one.session → HasMemoryAt other.session
    → one ≡ other

abbrev pub ManyStepsAreDeterministic : Type 0
ManyStepsAreDeterministic = (c one other : Configuration) (r count : ℕ) → Invariant (c.world, c.ghost_state) → IsInHand c r
    → c.world.replicas ≡ Some r
    → IsCollisionFree (named_bytes one.world)
    → StepsOn hss_judged r c.session.by count c one → StepsOn hss_judged r c.session.by count c other → HasMemoryAt one.session
    → HasMemoryAt other.session → one ≡ other

abbrev pub SessionEndsAreDeterministic : Type 0
SessionEndsAreDeterministic = (c one other : Configuration) (r : ℕ) → Invariant (c.world, c.ghost_state) → IsInHand c r
    → c.world.replicas ≡ Some r
    → IsCollisionFree (named_bytes one.world)
    → RunsOut hss_judged r c.session.by c one → RunsOut hss_judged r c.session.by c other → HasMemoryAt one.session
    → HasMemoryAt other.session → one ≡ other

-- What is published alone leads to one world in any case.
abbrev pub PublishingIsDeterministic : Type 0
PublishingIsDeterministic = (r : ℕ) (w : Played) (p : Participant) (one other : Played) → Publishes hss_judged r w p one
    → Publishes hss_judged r w p other → one ≡ other

-- ---- leaving out

-- of the view's members both have the same heads, and the same records' blocks
pub record AgreeOnMembers (view : View) (heads others : Key → List Stamp) (met more : List (List ℕ)) : Type 0 where
  pub same_heads : (owner : PubKey) → Contains view.members owner → heads (head_key_of owner) ≡ others (head_key_of owner)
  pub records : (r : Record) → Contains view.members r.owner → HasSpelling r → StandsAmong met r ↔ StandsAmong more r

-- then they have the same candidates, whatever other logs there are
abbrev pub OtherLogsDontInterfere : Type 0
OtherLogsDontInterfere = (view : View) (grounds : Grounds) (others : Key → List Stamp) (more : List (List ℕ)) (started : Vector)
    (candidates : List Candidate)
    → AgreeOnMembers view grounds.heads others grounds.met more → AreCandidatesOf grounds view started candidates
    → AreCandidatesOf (record grounds { heads = others; met = more }) view started candidates

-- two turns of equal views, agents, sets, calls and moments give equal replies
abbrev pub AlikeTurnsAnswerAlike : Type 0
AlikeTurnsAnswerAlike = (g h : HadTurn) (one : IsOnReplay g) (other : IsOnReplay h) → g.view ≡ h.view → one.taken ≡ other.taken
    → own_hss_key g.by.agent ≡ own_hss_key h.by.agent
    → left_of g.by.agent.signer ≡ left_of h.by.agent.signer → g.by.agent.has_failed ≡ h.by.agent.has_failed
    → fails_next g.by.keeper ≡ fails_next h.by.keeper
    → one.asked ≡ other.asked → g.now ≡ h.now → g.turned.reply ≡ h.turned.reply

-- ---- what is saved and loaded

-- what may be saved is determined by its bytes
abbrev pub KeptOnce : Type 0
KeptOnce = (k l : HssKept) → IsHssKept k → IsHssKept l → hss_kept_bytes k ≡ hss_kept_bytes l → k ≡ l

-- A line that makes no snapshot leaves a world without one so.
abbrev pub NoSnapshotComes : Type 0
NoSnapshotComes = (w next : Played) (line output : List ℕ) → Invariant w → HasNoSnapshot w.0 → MakesNoSnapshot line
    → IvyStep w line (Goes next output) → HasNoSnapshot next.0

-- ---- keys

-- the heads that left an agent, each by the number of its signature and the record that it is over
pub record AreLeft (w : World) (p : Participant) (k : HssKept) : Type 0 where
  pub held : p.keeper.kept ≡ Some (hss_kept_bytes k)
  pub whole : IsHssKept k
  pub signed : List (ℕ × Stamp)
  pub left : p.left ≡ map (sealed_with k.signer) signed

-- The heads that left an agent were each signed under a number of its own: two over records of one number, or signed by the same leaves,
-- are one.
abbrev pub LeafSignsOnce : Type 0
LeafSignsOnce = (w : Played) (p : Participant) (k : HssKept) → Invariant w → Contains w.0.participants p → IsHssKept k
    → p.keeper.kept ≡ Some (hss_kept_bytes k) → (signed : AreLeft w.0 p k)
    × ((g h : ℕ × Stamp) → Contains signed.signed g → Contains signed.signed h
    → (g.1.seq ≡ h.1.seq) ⊎ (leaves_used k.signer.sets g.0 ≡ leaves_used k.signer.sets h.0) → g ≡ h)

-- the public keys that signature n has, from the top down, each signed by the leaf above it (RFC 8554, section 6.2)
abbrev pub keys_signed : PrivateKey → List Set → ℕ → List (List ℕ)
keys_signed key [] n = []
keys_signed key (set ∷ lower) n = (let leaf = leaf_used key.set (set ∷ lower) n in signed_lower key leaf set
    ∷ keys_signed (lower_key key leaf set) lower n)

abbrev pub keys_by : Signer → ℕ → List (List ℕ)
keys_by signer n = keys_of signer.sets
  where
    keys_of : List Set → List (List ℕ)
    keys_of [] = []
    keys_of (set ∷ lower) = keys_signed (record { set = set; id = signer.id; seed = signer.seed }) lower n

-- A leaf above the lowest level has signed one message, the key below it: two signatures that use the same leaves down to a level have the
-- same keys signed there.
abbrev pub UpperLeavesSignOnce : Type 0
UpperLeavesSignOnce = (signer : Signer) (n m levels : ℕ) → take levels (leaves_used signer.sets n) ≡ take levels (leaves_used signer.sets m)
    → take levels (keys_by signer n) ≡ take levels (keys_by signer m)

-- a head that is to leave was signed under a number below that which the keeper's bytes have
abbrev pub HeadsAreSavedFirst : Type 0
HeadsAreSavedFirst = (w : Played) (p : Participant) (k : HssKept) (bytes : List ℕ) → Invariant w → Contains w.0.participants p → IsHssKept k
    → p.keeper.kept ≡ Some (hss_kept_bytes k) → Contains (heads_by p.agent.pending) bytes
    → (number : ℕ) × (newest : Stamp) × (bytes ≡ sealed_with k.signer (number, newest)) × (number < k.signer.made)

-- ---- one truth

-- Where no names collide, a floor names one set of records among them.
abbrev pub KnownIsUnique : Type 0
KnownIsUnique = (met : List (List ℕ)) (view : View) (floor : Vector) (known other : List Record) → IsCollisionFree met
    → IsKnown view floor known → IsKnown view floor other
    → Stand met known → Stand met other → known ≡ other

-- A front names one closed part of a closed set.
abbrev pub FrontIsOfOne : Type 0
FrontIsOfOne = (view : View) (known one other : List Record) → IsView view → IsClosed view known → IsClosed view one → IsClosed view other
    → ((r : Record) → Contains one r → Contains known r) → ((r : Record) → Contains other r → Contains known r)
    → front one ≡ front other → one ≡ other

-- each log has a key of its own, and each judged head that was met was made by its log's agent
pub record IsHonest (w : World) : Type 0 where
  pub own_keys : (p q : Participant) → Contains w.participants p → Contains w.participants q
      → head_key_of (own_hss_key p.agent) ≡ head_key_of (own_hss_key q.agent) → p ≡ q
  pub own_heads : (bytes : List ℕ) (log : Key) (j : Judged) → Contains w.met bytes → hss_judged log bytes ≡ Some j
      → (p : Participant) × Contains w.participants p × (log ≡ head_key_of (own_hss_key p.agent)) × Contains p.left bytes

-- the chain that the keeper of a log's agent names
pub record IsKeptLog (w : World) (q : Participant) (log : List Record) : Type 0 where
  pub kept : HssKept
  pub whole : IsHssKept kept
  pub holds : q.keeper.kept ≡ Some (hss_kept_bytes kept)
  pub linked : LinkedFrom (own_hss_key q.agent) 1 no_name log
  pub ends : EndsAt (stamp_at kept.floor (head_key_of (own_hss_key q.agent))) log
  pub stand : Stand (w.met ++ map (λ p. p.bytes) kept.pending) log

-- what an agent knows of a log is the beginning of that chain
abbrev pub OneTruth : Type 0
OneTruth = (w : Played) (p q : Participant) (view : View) (log : List Record) → Invariant w → IsHonest w.0 → Contains w.0.participants p
    → Contains w.0.participants q
    → p.agent.view ≡ Some view → (kept : IsKeptLog w.0 q log)
    → IsCollisionFree (named_bytes w.0 ++ map (λ post. post.bytes) kept.kept.pending)
    → IsPrefixOf (log_of (own_hss_key q.agent) (known_of w.1 p.name)) log

-- ---- refreshes end in turns

-- what a refresh gives a turn is tied to the heads and the blocks that it was brought
abbrev pub RefreshBrings : Type 0
RefreshBrings = (c : Configuration) (r : ℕ) (notes : List Note) (given : Refresh) → Invariant (c.world, c.ghost_state)
    → IsCollisionFree (named_bytes c.world)
    → IsInHand c r → HasRefreshed c.session notes given
    → Brings (grounds_of (named_bytes c.world) c.session c.began.knew) c.session.standing.view given

-- Its turn is that of the definition: this is what its agent knows now, and it may turn so.
abbrev pub RefreshMayTurn : Type 0
RefreshMayTurn = (c : Configuration) (p : Participant) (r : ℕ) (notes : List Note) (given : Refresh) → Invariant (c.world, c.ghost_state)
    → IsCollisionFree (named_bytes c.world) → IsInHand c r
    → participant c.world c.session.by ≡ Some p → HasRefreshed c.session notes given
    → Knows c.session.standing.view p.agent.floor p.agent.holding (known_of c.ghost_state p.name)
    × MayTurn (grounds_of (named_bytes c.world) c.session c.began.knew) c.session.standing.view (own_hss_key p.agent)
    (known_of c.ghost_state p.name) given

-- the session has just had a turn that was answered
pub record HasTurned (c next : Configuration) : Type 0 where
  pub had : HadTurn
  pub new : next.ghost_state.turns ≡ c.ghost_state.turns ++ had ∷ []
  pub its : IsOf had c.began.number next.session

-- Once a refresh is done the next step is its turn, where memory is there: it is answered, or the session begins again.
abbrev pub RefreshEndsInTurn : Type 0
RefreshEndsInTurn = (c next : Configuration) (r : ℕ) (notes : List Note) (given : Refresh) → Invariant (c.world, c.ghost_state)
    → IsCollisionFree (named_bytes c.world) → c.world.replicas ≡ Some r → IsInHand c r
    → HasRefreshed c.session notes given → Steps hss_judged r c.session.by c next
    → HasTurned c next ⊎ (next.session.starts ≡ c.session.starts + 1) ⊎ LacksMemory c.session next.session

-- A session begins again once at most: its second turn isn't refused.
abbrev pub SecondTurnIsAnswered : Type 0
SecondTurnIsAnswered = (c : Configuration) (p : Participant) (r : ℕ) (view : View) (end : TurnEnd) (after : HssAgent)
    (saving : Option HssKept)
    (t : Session) → Invariant (c.world, c.ghost_state) → IsCollisionFree (named_bytes c.world)
    → c.world.replicas ≡ Some r → IsInHand c r → participant c.world c.session.by ≡ Some p → p.agent.view ≡ Some view
    → TakesHssTurn (turning_of c.world p view) c.session end after saving t → IsRefusal end → c.session.starts ≡ 0

-- where the session began with no snapshot to load and no basis the turn is answered at once
abbrev pub FreshTurnsAreAnswered : Type 0
FreshTurnsAreAnswered = (c next : Configuration) (r : ℕ) (notes : List Note) (given : Refresh) → Invariant (c.world, c.ghost_state)
    → IsCollisionFree (named_bytes c.world) → c.world.replicas ≡ Some r → IsInHand c r
    → (sound : IsSoundSession c.world c.ghost_state c.session c.began) → BeganFresh c.session sound.of
    → HasRefreshed c.session notes given → Steps hss_judged r c.session.by c next → HasTurned c next ⊎ LacksMemory c.session next.session

-- ---- nothing misleads without a snapshot

-- What a session begins with where its agent has no basis: of each log from whose record its refresh starts it holds a record, so it knows
-- that record's vector, and isn't misled.
abbrev pub FreshStandingsDontMislead : Type 0
FreshStandingsDontMislead = (g : Grounds) (view : View) (of : Holding) (owner : PubKey) (records : List Record)
    → Knows view g.standing.floor of g.knew → of.basis ≡ fresh_basis → g.standing.held ≡ joined of → g.standing.edges ≡ edges_of of
    → Contains view.members owner → IsMisled g view g.standing.held owner records → ⊥

-- So the candidates of a session that began with no snapshot to load and no basis are determined by its heads alone, whatever was met.
abbrev pub FreshCandidatesAreByHeads : Type 0
FreshCandidatesAreByHeads = (w : World) (st : GhostState) (s : Session) (b : Began) (met : List (List ℕ)) (notes : List Note)
    (given : Refresh)
    (candidates : List Candidate) → (sound : IsSoundSession w st s b) → BeganFresh s sound.of → HasRefreshed s notes given
    → AreCandidatesOf (grounds_of met s b.knew) s.standing.view given.started candidates
    → AreCandidates (evidence_in (grounds_of met s b.knew) s.standing.view) candidates

-- ---- publishing as a whole

-- A participant publishes all that its agent has to: the invariant holds of the world that is left, and no turn was had.
abbrev pub WholePublishingKeeps : Type 0
WholePublishingKeeps = (w : Played) (r : ℕ) (p : Participant) (next : Played) → Invariant w → w.0.replicas ≡ Some r
    → participant w.0 p.name ≡ Some p → Publishes hss_judged r w p next
    → Invariant next × (next.1.turns ≡ w.1.turns)

-- ---- lines of calls

-- Many steps of a session in hand leave such a world and such a session, and so do all up to the end; each turn in them is on the replay.
abbrev pub ManyStepsKeep : Type 0
ManyStepsKeep = (c next : Configuration) (r count : ℕ) → Invariant (c.world, c.ghost_state) → IsInHand c r → c.world.replicas ≡ Some r
    → StepsOn hss_judged r c.session.by count c next → StepLeaves c next r

abbrev pub AllStepsKeep : Type 0
AllStepsKeep = (c next : Configuration) (r : ℕ) → Invariant (c.world, c.ghost_state) → IsInHand c r → c.world.replicas ≡ Some r
    → RunsOut hss_judged r c.session.by c next → StepLeaves c next r

-- the commands by which sessions go on
abbrev pub IsCall : Command → Type 0
IsCall (command.As log pieces) = Unit {0}
IsCall (command.Step session count) = Unit {0}
IsCall (command.Finish session) = Unit {0}
IsCall _ = ⊥

-- They leave such a world, and the headline holds of them.
abbrev pub CallLinesKeep : Type 0
CallLinesKeep = (c : Command) (w next : Played) (output : List ℕ) → IsCall c → Invariant w → Does hss_judged w c (Goes next output)
    → Invariant next × HoldsOf w c next output

-- In no other command a turn is had, whatever the world.
abbrev pub OthersHaveNoTurn : Type 0
OthersHaveNoTurn = (c : Command) (w next : Played) (output : List ℕ) → (IsCall c → ⊥) → Does hss_judged w c (Goes next output)
    → next.1.turns ≡ w.1.turns

-- ---- what turns save

-- What may be saved of an agent may be of what a turn makes of it, and what is then saved may be.
abbrev pub TurnsAreSaved : Type 0
TurnsAreSaved = (view : View) (a after : HssAgent) (h : Holding) (fails : Bool) (written : List Record) (saving : Option HssKept)
    → a.view ≡ Some view → IsHssKept (kept_of a) → MayTake hss_signing view a h
    → Becomes hss_signing view a h fails written after saving → IsHssKept (kept_of after) × IfSome saving IsHssKept

-- ---- snapshots that are made

-- What an agent holds of a closed set has a spelling as a snapshot.
abbrev pub HeldIsSpelled : Type 0
HeldIsSpelled = (view : View) (floor : Vector) (h : Holding) (known : List Record) → IsView view → HasKeys view → Knows view floor h known
    → IsBasisSpelled (basis_of h)

-- The line that makes a snapshot leaves such a world.
abbrev pub SnapLinesKeep : Type 0
SnapLinesKeep = (log : List ℕ) (w next : Played) (output : List ℕ) → Invariant w → Does hss_judged w (command.Snap log) (Goes next output)
    → Invariant next

-- A snapshot that was made leaves such a world, also before what the participant has is published.
abbrev pub SnapshotsKeep : Type 0
SnapshotsKeep = (log : List ℕ) (w : Played) (p : Participant) (view : View) → Invariant w → participant w.0 log ≡ Some p
    → p.agent.view ≡ Some view → (snapping_in p view).0.1 ≡ true → ArePostsSpelled (having_snapped p view).agent.pending
    → (let q = having_snapped p view in Invariant (record (with_participant w.0 q) { met = met_by w.0.met q.agent.pending }, w.1))

-- ---- one run, where memory was there

-- where a line goes on, memory was there, and no names of what was met then collide
abbrev pub HadMemory : Played → List ℕ → Outcome Played → Type 0
HadMemory w line (Goes next output) = HasMemoryIn w.0 next.0 line output × IsCollisionFree (named_bytes next.0)
HadMemory w line Ends = Unit {0}
HadMemory w line Refuses = Unit {0}
HadMemory w line Exceeds = Unit {0}

-- So each script has one run at most of which that holds all along.
abbrev pub FullRunsAreUnique : Type 0
FullRunsAreUnique = (w : Played) (number : ℕ) (lines : List (List ℕ)) (first second : Ran) → Invariant w
    → Runs (WithLaw IvyStep HadMemory) w number lines first
    → Runs (WithLaw IvyStep HadMemory) w number lines second → first ≡ second

-- ---- refreshes end

-- what this refresh was brought leads to its end: whatever comes of what it wants, and of what it wants then, it comes to want nothing
pub data EndsAtLast (s : Standing) : List Brought → Type 0 where
  refresh_comes_to : {brought : List Brought} (notes : List Note) (given : Refresh) (end : RefreshEnd) → Refreshes s brought notes given end
      → ((want : WantedOfRing) (came : Brought) → end ≡ Needs want → IsOfWant want came → EndsAtLast s (brought ++ came ∷ []))
      → EndsAtLast s brought

-- So does whatever a refresh was brought, whether or not names collide.
abbrev pub RefreshesEnd : Type 0
RefreshesEnd = (s : Standing) (brought : List Brought) (notes : List Note) (given : Refresh) (end : RefreshEnd)
    → Refreshes s brought notes given end → EndsAtLast s brought

-- Nothing more is to be asked for a refresh: with what is available it is done, or it has failed and its session is over.
pub data RefreshIsOver (r : ℕ) (c : Configuration) : Type 0 where
  is_done : (p : Participant) (taken : Session) (cache : Cache) (notes : List Note) (given : Refresh)
      → participant c.world c.session.by ≡ Some p → TakesAll hss_judged r c.session p.cache taken cache → HasRefreshed taken notes given
      → RefreshIsOver r c
  has_failed : (said : Said) (miss : Miss) → c.session.stage ≡ Over (Some said) → c.session.missed ≡ Some miss → RefreshIsOver r c

-- Where memory is there a refresh of a session in hand comes to that, whether or not names collide.
abbrev pub RefreshesRunOut : Type 0
RefreshesRunOut = (c : Configuration) (r : ℕ) → Invariant (c.world, c.ghost_state) → IsInHand c r → c.world.replicas ≡ Some r
    → c.session.stage ≡ Refreshing
    → (count : ℕ) × (next : Configuration) × StepsOn hss_judged r c.session.by count c next × HasMemoryAt next.session
    × RefreshIsOver r next

-- And where no names collide and the turn of such a refresh exists, the next step is there: that turn, or the session begins again after
-- its refusal.
abbrev pub DoneRefreshesStep : Type 0
DoneRefreshesStep = (c : Configuration) (r : ℕ) (p : Participant) (taken : Session) (cache : Cache) (notes : List Note) (given : Refresh)
    (xid : ℕ)
    (asked : Asked) (end : TurnEnd) (after : HssAgent) (saving : Option HssKept)
    → Invariant (c.world, c.ghost_state) → IsInHand c r → c.world.replicas ≡ Some r → IsCollisionFree (named_bytes c.world)
    → participant c.world c.session.by ≡ Some p → TakesAll hss_judged r c.session p.cache taken cache
    → HasRefreshed taken notes given → Asks taken.standing.view taken.message xid asked
    → Turns hss_signing given (turning_of c.world p taken.standing.view) asked end after saving
    → (next : Configuration) × Steps hss_judged r c.session.by c next × HasMemoryAt next.session

-- a turn of the refresh by what was given
abbrev pub TurnAt : Configuration → Participant → Session → Refresh → Asked → TurnEnd → HssAgent → Option HssKept → Type 0
TurnAt c p taken given asked end after saving = Turns hss_signing given (turning_of c.world p taken.standing.view) asked end after saving

-- A session goes to its end with memory there; or names clash on the way; or its refresh is done, and it goes on so by whatever turn there
-- is of it.
pub data GoesFully (r : ℕ) (name : List ℕ) : Configuration → Type 0 where
  ends : {c next : Configuration} → RunsOut hss_judged r name c next → HasMemoryAt next.session → GoesFully r name c
  clashes : {c : Configuration} → HasClash (named_bytes c.world) → GoesFully r name c
  goes_on : {c next : Configuration} (count : ℕ) → StepsOn hss_judged r name count c next → HasMemoryAt next.session → GoesFully r name next
      → GoesFully r name c
  has_turn : {c : Configuration} (p : Participant) (taken : Session) (cache : Cache) (notes : List Note) (given : Refresh) (xid : ℕ)
      (asked : Asked)
      → participant c.world name ≡ Some p → TakesAll hss_judged r c.session p.cache taken cache
      → HasRefreshed taken notes given → Asks taken.standing.view taken.message xid asked
      → (leads : (end : TurnEnd) (after : HssAgent) (saving : Option HssKept) → TurnAt c p taken given asked end after saving
      → Configuration)
      → ((end : TurnEnd) (after : HssAgent) (saving : Option HssKept) (turn : TurnAt c p taken given asked end after saving)
      → Steps hss_judged r name c (leads end after saving turn) × HasMemoryAt (leads end after saving turn).session)
      → ((end : TurnEnd) (after : HssAgent) (saving : Option HssKept) (turn : TurnAt c p taken given asked end after saving)
      → GoesFully r name (leads end after saving turn)) → GoesFully r name c

-- So does each session in hand that refreshes.
abbrev pub SessionsGoFully : Type 0
SessionsGoFully = (c : Configuration) (r : ℕ) → Invariant (c.world, c.ghost_state) → IsInHand c r → c.world.replicas ≡ Some r
    → c.session.stage ≡ Refreshing
    → GoesFully r c.session.by c
