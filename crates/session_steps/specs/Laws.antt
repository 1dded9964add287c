-- Laws that tie the contracts of sessions in code, of their agents' turns and of a ring's nodes to the steps of a world's sessions.
use Rattle.std.specs.Prelude.{◌≡◌, ◌⊎◌, ℕ, true, false, List, map, Some, None, Result, Ok, Err, IfErr, IfSome, IsSomeAnd}
use Rattle.ivy_base.specs.declared.operation.Moment.{Moment}
use Rattle.hash_signature_model.specs.Saved.{IsSigner}
use Rattle.hash_signature_model.specs.Signer.{Signer}
use Rattle.log_model.specs.View.{View}
use Rattle.dhash_model.specs.Signed.{hss_judged}
use Rattle.nfs_model.specs.Replies.{IsFittingReply}
use Rattle.nfs_model.specs.Results.{result as bytes_of}
use Rattle.nfs_model.specs.declared.replies.Reply.{Reply}
use Rattle.ring_model.specs.Members.{IsAmong}
use Rattle.dht_ids.specs.declared.ask.Answer.{Answer}
use Rattle.dht_ids.specs.declared.ask.Ask.{Ask}
use Rattle.dht_ids.specs.declared.peer.Peer.{Peer}
use Rattle.dht_ids.specs.declared.post.Ack.{Ack}
use Rattle.dhash_client.specs.GetHead.{Judges}
use Rattle.agent_model.specs.Others.{settled}
use Rattle.agent_model.specs.Standing.{Standing as ModelStanding}
use Rattle.log_records.specs.Batches.{Batch}
use Rattle.session_model.specs.Sessions.{Cache, Session}
use Rattle.log_fetch.specs.declared.asked.Asked.{Asked}
use Rattle.log_fetch.specs.declared.refresh.Refresh.{Refresh}
use Rattle.log_fetch.specs.declared.turned.Turned.{Turned}
use Rattle.log_fetch.specs.declared.turned.TurnFault.{TurnFault}
use Rattle.log_fetch.specs.Standings.{asked_of, refresh_of}
use Rattle.ivy_agent.specs.Answering.{IsCall}
use Rattle.ivy_agent.specs.Bounds.{HasBounds}
use Rattle.ivy_agent.specs.Holders.{Holder}
use Rattle.ivy_agent.specs.Turns.{IsFetchedIn, TakesTurn}
use Rattle.ivy_session.specs.declared.served.Served.{Served}
use Rattle.ivy_session.specs.declared.session.Next.TheVariants as next
use Rattle.ivy_session.specs.States.{HasAsked, IsSession, SessionState, asked_at, is_turning, session_awaited}
use Rattle.ivy_session.specs.Stepping.{AsksOf, IsAgainFor, IsBatchOf, IsHeard, IsNext, IsSameSession, IsTurned}
use Rattle.ring_nodes.specs.NodesState.{NodesState, IsNodesOf, with_nodes}
use Rattle.script_model.specs.Messages.{Given}
use Rattle.world_model.specs.Agents.{hss_signing}
use Rattle.world_model.specs.Fates.{FateOf}
use Rattle.world_model.specs.Keepers.{Keeper}
use Rattle.world_model.specs.World.{World, Participant, participant, peer_of, with_participant}
use Rattle.world_model.specs.Steps.{Configuration, Steps}
use Rattle.world_laws.specs.Invariant.{GoesOn, IsInHand, Invariant, OnlyPublishes}
use Rattle.session_steps.specs.Configurations.{GivesTurn, GivesTurnThere, IsDone, IsConfigurationOf, IsStep, MayLack, given_at, given_by}
use Rattle.session_steps.specs.Configurations.{given_of}
use Rattle.session_steps.specs.Configurations.{holder_of, memory_saves, turned_world}

-- ---- configurations

-- A step is of one call: whose it is, its message, the nodes that it knows and its number stay.
abbrev pub StepsAreOfOneCall : Type 0
StepsAreOfOneCall = (r : ℕ) (name : List ℕ) (c next : Configuration) → Steps hss_judged r name c next
    → (next.session.by ≡ c.session.by) × (next.session.message ≡ c.session.message) × (next.session.entries ≡ c.session.entries)
    × (next.began.number ≡ c.began.number)

-- so the configuration after it is one of the session in code again
abbrev pub ConfigurationsGoOn : Type 0 → Type 0
ConfigurationsGoOn J = (judges : Judges J) (c next : Configuration) (r : ℕ) (p q : Participant) (old new : SessionState J)
    → IsConfigurationOf judges c r p old
    → IsSameSession old new → Steps hss_judged r c.session.by c next
    → participant next.world c.session.by ≡ Some q → IsSession judges next.session new → IsConfigurationOf judges next r q new

-- ---- asks

-- A session in a world asks only nodes that were made.
abbrev pub AskedAreMade : Type 0
AskedAreMade = (w : World) (r : ℕ) (s : Session) (node : Peer) (question : Ask) → GoesOn w r s ⊎ OnlyPublishes w r s
    → AsksOf hss_judged r s node question → IsAmong node (map peer_of w.nodes)

-- so does a session in code
abbrev pub NextAskedAreMade : Type 0 → Type 0
NextAskedAreMade J = (judges : Judges J) (c : Configuration) (r : ℕ) (p : Participant) (old new : SessionState J) (after : Cache)
    (node : Peer)
    (question : Ask)
    → IsConfigurationOf judges c r p old → GoesOn c.world r c.session ⊎ OnlyPublishes c.world r c.session
    → IsNext judges old new p.cache after (next.Ask node question) → IsAmong node (map peer_of c.world.nodes)

-- An ask, whose answer or silence it hears, is a step.
abbrev pub AsksAreSteps : Type 0 → Type 0
AsksAreSteps J = (judges : Judges J) (c : Configuration) (r : ℕ) (p : Participant) (old mid new : SessionState J) (between after : Cache)
    (node : Peer) (question : Ask) (answer : Answer) (before later : NodesState)
    → IsConfigurationOf judges c r p old → HasAsked old c.session → IsNext judges old mid p.cache between (next.Ask node question)
    → IsNodesOf c.world before → ((w : World) → IsNodesOf w before → FateOf hss_judged w node question answer (with_nodes w later))
    → IsHeard judges mid new between after (Ok answer) → is_turning new.stage ≡ false
    → IsStep judges c r new ⊥ (with_participant (with_nodes c.world later) (record p { cache = after })) (given_at c.session.stage)

-- ---- turns

-- what a session's refresh brings may be given to its agent's turn
abbrev pub BatchesAreFetched : Type 0
BatchesAreFetched = (s : ModelStanding) (b : Batch) → IsBatchOf s b → IsFetchedIn s.view b

-- Where a turn is wanted, the session waits for it, and its agent may have it on what the session is asked.
abbrev pub TurnsMayBe : Type 0 → Type 0
TurnsMayBe J = (judges : Judges J) (c : Configuration) (r : ℕ) (p : Participant) (old mid : SessionState J) (after : Cache)
    (refresh : Refresh)
    → Invariant (c.world, c.ghost_state) → IsInHand c r → IsConfigurationOf judges c r p old
    → IsNext judges old mid p.cache after (next.Turn refresh)
    → (is_turning mid.stage ≡ true) × IsSomeAnd p.agent.view (λ view. IsFetchedIn view refresh.batch)
    × IfSome refresh.basis (λ basis. HasBounds basis.tree)
    × ((asked : Asked) → asked_at mid.stage ≡ Some asked → IsCall (asked_of asked) c.world.now)

-- What an agent that is kept in memory says of its turn is what came of it.
abbrev pub AgentsGiveTurns : Type 0
AgentsGiveTurns = (p : Participant) (view : View) (refresh : Refresh) (asked : Asked) (now : Moment) (turned : Result Turned TurnFault)
    (after : Holder Keeper Signer)
    → TakesTurn hss_signing IsSigner memory_saves view (refresh_of refresh) (asked_of asked) now (holder_of p) turned after
    → GivesTurn p view refresh asked now turned after

-- after a turn that is refused a session begins again without a snapshot to load
abbrev pub RefusalsAreFresh : Type 0
RefusalsAreFresh = (p : Participant) (refresh : Refresh) (asked : Asked) (now : Moment) (turned : Result Turned TurnFault)
    (after : Holder Keeper Signer)
    → IsSomeAnd p.agent.view (λ view. Unit {0}) → GivesTurnThere p refresh asked now turned after → IfErr turned IsAgainFor

-- where there was no turn nothing is given
abbrev pub GivesNothing : Result Turned TurnFault → Given → Type 0
GivesNothing (Ok turned) given = Unit {0}
GivesNothing (Err fault) given = given ≡ given_of None

-- Whatever comes of the turn, and whatever the session makes of it, is a step.
abbrev pub TurnsAreSteps : Type 0 → Type 0
TurnsAreSteps J = (judges : Judges J) (c : Configuration) (r : ℕ) (p : Participant) (old mid new : SessionState J) (cache : Cache)
    (refresh : Refresh) (asked : Asked) (turned : Result Turned TurnFault) (after : Holder Keeper Signer)
    → Invariant (c.world, c.ghost_state) → IsInHand c r → IsConfigurationOf judges c r p old
    → IsNext judges old mid p.cache cache (next.Turn refresh)
    → asked_at mid.stage ≡ Some asked → GivesTurnThere p refresh asked c.world.now turned after → IsTurned judges mid new turned
    → session_awaited new ≡ None → is_turning new.stage ≡ false
    → (given : Given) × IsStep judges c r new (MayLack c.session.starts turned)
    (turned_world c.world (record p { cache = cache }) turned after) given × GivesNothing turned given

-- Where the bytes of its turn are read as a reply of the call's procedure, that is what the session says then.
abbrev pub RepliesAreRead : Type 0 → Type 0
RepliesAreRead J = (judges : Judges J) (c : Configuration) (r : ℕ) (p : Participant) (old mid new : SessionState J) (cache : Cache)
    (refresh : Refresh) (asked : Asked) (turned : Turned) (after : Holder Keeper Signer) (read : Reply)
    → Invariant (c.world, c.ghost_state) → IsInHand c r → IsConfigurationOf judges c r p old
    → IsNext judges old mid p.cache cache (next.Turn refresh)
    → asked_at mid.stage ≡ Some asked → GivesTurnThere p refresh asked c.world.now (Ok turned) after → IsTurned judges mid new (Ok turned)
    → session_awaited new ≡ None → is_turning new.stage ≡ false
    → IsFittingReply asked.args read → turned.reply ≡ bytes_of read
    → IsStep judges c r new ⊥ (turned_world c.world (record p { cache = cache }) (Ok turned) after) (given_by read)

-- ---- the end

-- That its agent drops what was acknowledged is a step.
abbrev pub SettlingsAreSteps : Type 0 → Type 0
SettlingsAreSteps J = (judges : Judges J) (c : Configuration) (r : ℕ) (p : Participant) (old new : SessionState J) (after : Cache)
    (acks : List Ack)
    → IsConfigurationOf judges c r p old → IsNext judges old new p.cache after (next.Settle acks)
    → IsStep judges c r new ⊥ (with_participant c.world (record p { agent = settled p.agent acks; cache = after }))
    (given_at c.session.stage)

-- A session in code is done where it is over, or memory runs out.
abbrev pub DoneIsOver : Type 0 → Type 0
DoneIsOver J = (judges : Judges J) (c : Configuration) (r : ℕ) (p : Participant) (old new : SessionState J) (after : Cache) (told : Served)
    → IsConfigurationOf judges c r p old → IsNext judges old new p.cache after (next.Done told) → IsDone c r p new after told
