-- What the calls within a step of a call in code say, and the laws by which that is a step of each configuration that is represented.
use Rattle.std.specs.Prelude.{◌≡◌, ◌≢◌, ◌<◌, ◌+◌, ℕ, is_some, if◌then◌else◌, true, false, List, Some, None, Result, Ok, Err, IfSome}
use Rattle.std.specs.Prelude.{IsSomeAnd}
use Rattle.ivy_base.specs.declared.operation.Moment.{Moment}
use Rattle.dhash_model.specs.Signed.{hss_judged}
use Rattle.log_heads.specs.declared.judge.HssJudge.{HssJudge}
use Rattle.ring_model.specs.Members.{IsAmong}
use Rattle.dht_ids.specs.declared.ask.Answer.{Answer}
use Rattle.dht_ids.specs.declared.ask.Ask.{Ask}
use Rattle.dht_ids.specs.declared.peer.Peer.{Peer}
use Rattle.log_fetch.specs.declared.asked.Asked.{Asked}
use Rattle.log_fetch.specs.declared.refresh.Refresh.{Refresh}
use Rattle.log_fetch.specs.declared.turned.Turned.{Turned}
use Rattle.log_fetch.specs.declared.turned.TurnFault.{TurnFault}
use Rattle.log_fetch.specs.declared.turned.TurnFault.TheVariants as fault
use Rattle.log_fetch.specs.Standings.{asked_of, refresh_of}
use Rattle.ivy_agent.specs.Answering.{IsCall}
use Rattle.ivy_agent.specs.Bounds.{HasBounds}
use Rattle.ivy_agent.specs.Turns.{IsFetchedIn}
use Rattle.ivy_session.specs.declared.session.Next.{Next}
use Rattle.ivy_session.specs.Left.{LeavesNoMore, session_left}
use Rattle.ivy_session.specs.States.{asked_at, is_turning, session_awaited}
use Rattle.ivy_session.specs.Stepping.{IsHeard, IsNext, IsTurned}
use Rattle.ring_nodes.specs.NodesState.{BringsOnly, IsNodesOf, NodesState, made_peers, with_nodes}
use Rattle.session_steps.specs.MetState.{AreMet, MetState}
use Rattle.command_messages.specs.Reading.{GivesParts}
use Rattle.script_participants.specs.ParticipantState.{ParticipantState, counting}
use Rattle.script_participants.specs.Turning.{TakesTurn}
use Rattle.world_model.specs.Fates.{FateOf}
use Rattle.world_model.specs.Steps.{RunsOut, Configuration, StepsOn, met_by}
use Rattle.world_model.specs.World.{World}
use Rattle.world_laws.specs.Laws.{PublishingKeeps, StepsKeep}
use Rattle.session_steps.specs.Laws.{AsksAreSteps, DoneIsOver, NextAskedAreMade, RepliesAreRead, SettlingsAreSteps, StepsAreOfOneCall}
use Rattle.session_steps.specs.Laws.{TurnsAreSteps, TurnsMayBe}
use Rattle.session_steps.specs.Representing.{CallState, IsInProgress, Leaves, Shown, Represents, StepsFrom, judges}

-- ---- the laws

pub record Laws : Type 0 where
  pub one_call : StepsAreOfOneCall
  pub made : NextAskedAreMade HssJudge
  pub asks : AsksAreSteps HssJudge
  pub may_turn : TurnsMayBe HssJudge
  pub turns : TurnsAreSteps HssJudge
  pub read : RepliesAreRead HssJudge
  pub settlings : SettlingsAreSteps HssJudge
  pub done : DoneIsOver HssJudge
  pub keep : StepsKeep
  pub publishing : PublishingKeeps

-- ---- what is left

-- it falls with each step, until it is told that the call is over
abbrev pub left_to : CallState → ℕ
left_to call = if is_some call.told then 0 else 1 + session_left call.session

-- ---- what is wanted next

-- the session and the participant's cache are changed, and nothing else
pub record HasNext (old new : CallState) (before after : ParticipantState) (wanted : Next) : Type 0 where
  pub wants : IsNext judges old.session new.session before.cache after.cache wanted
  pub left : LeavesNoMore old.session new.session wanted
  pub call : new ≡ record old { session = new.session }
  pub who : after ≡ record before { cache = after.cache }

-- ---- an ask

-- the node was made, a notice is of such a node, and the session waits for the answer
pub record MayAsk (call : CallState) (nodes : NodesState) (node : Peer) (question : Ask) : Type 0 where
  pub made : IsAmong node (made_peers nodes)
  pub brings : BringsOnly (made_peers nodes) question
  pub waits : session_awaited call.session ≢ None

pub record HasHeard (old new : CallState) (before after : ParticipantState) (answer : Answer) : Type 0 where
  pub heard : IsHeard judges old.session new.session before.cache after.cache (Ok answer)
  pub no_turn : is_turning new.session.stage ≡ false
  pub less : session_left new.session < session_left old.session
  pub call : new ≡ record old { session = new.session }
  pub who : after ≡ record before { cache = after.cache }

-- the ask had its fate, and was heard
pub record HasAskedOf (node : Peer) (question : Ask) (old new : CallState) (nodes later : NodesState)
    (before after : ParticipantState) : Type 0 where
  pub answer : Answer
  pub fate : (w : World) → IsNodesOf w nodes → FateOf hss_judged w node question answer (with_nodes w later)
  pub heard : HasHeard old new before after answer

-- ---- a turn

-- the session waits for it, and the agent may have it
pub record MayTurn (call : CallState) (who : ParticipantState) (refresh : Refresh) (now : Moment) : Type 0 where
  pub waits : is_turning call.session.stage ≡ true
  pub batch : IsSomeAnd who.agent.view (λ view. IsFetchedIn view refresh.batch)
  pub bounds : IfSome refresh.basis (λ basis. HasBounds basis.tree)
  pub is_call : (asked : Asked) → asked_at call.session.stage ≡ Some asked → IsCall (asked_of asked) now

-- what came of it, on what the session is asked
abbrev pub TookTurn : CallState → Refresh → Moment → Result Turned TurnFault → ParticipantState → ParticipantState → Type 0
TookTurn call refresh now turned before after = (asked : Asked) → asked_at call.session.stage ≡ Some asked
    → IfSome before.agent.view (λ view. TakesTurn view (refresh_of refresh) (asked_of asked) now before turned after)

-- what its bytes give, read as a reply of the call
abbrev pub GivesOf : CallState → Turned → CallState → Type 0
GivesOf old turned new = (asked : Asked) → asked_at old.session.stage ≡ Some asked → GivesParts asked.args turned.reply new.given

-- what the agent has to publish is met, and counts as made
pub record CountsAsMade (before after : ParticipantState) (met later : MetState) : Type 0 where
  pub counts : after ≡ counting before
  pub is_met : (blocks : List (List ℕ)) → AreMet blocks met → AreMet (met_by blocks before.agent.pending) later

-- where it may begin again it does
pub record BeginsAgain (old new : CallState) : Type 0 where
  pub given : new.given ≡ old.given
  pub begins : old.session.starts < 2 → asked_at new.session.stage ≢ None

module _ (old new : CallState) (before after : ParticipantState) (met later : MetState) where
  pub record IsLeftAsIs : Type 0 where
    pub given : new.given ≡ old.given
    pub who : after ≡ before
    pub blocks : later ≡ met

  -- what is left by what came of the turn
  abbrev pub LeftBy : Result Turned TurnFault → Type 0
  LeftBy (Ok turned) = CountsAsMade before after met later × GivesOf old turned new
  LeftBy (Err fault.Memory) = IsLeftAsIs
  LeftBy (Err (fault.Behind standing)) = CountsAsMade before after met later × BeginsAgain old new
  LeftBy (Err (fault.BelowTide standing)) = CountsAsMade before after met later × BeginsAgain old new

-- the session is told what came of its turn, and no node is to be heard then
pub record IsToldOf (turned : Result Turned TurnFault) (old new : CallState) (before after : ParticipantState)
    (met later : MetState) : Type 0 where
  pub is_turned : IsTurned judges old.session new.session turned
  pub free : session_awaited new.session ≡ None
  pub no_turn : is_turning new.session.stage ≡ false
  pub less : session_left new.session < session_left old.session
  pub told : new.told ≡ old.told
  pub left : LeftBy old new before after met later turned

-- the agent had its turn, and the session was told so
pub record HasTurned (refresh : Refresh) (now : Moment) (old new : CallState) (before after : ParticipantState)
    (met later : MetState) : Type 0 where
  pub turned : Result Turned TurnFault
  pub mid : ParticipantState
  pub took : TookTurn old refresh now turned before mid
  pub is_told : IsToldOf turned old new mid after met later

-- ---- one step

-- where memory is left for what is still to be put, it is a step of whichever configuration was represented; and less is left
pub record IsArm (old new : Shown) : Type 0 where
  pub steps : new.call.session.is_cut ≡ false → StepsFrom old new
  pub less : left_to new.call < left_to old.call

-- ---- many steps

-- From each configuration in progress that was represented one is reached that is represented now; and whatever the rest leads to from
-- there, all lead to from the first.
pub record IsReached (Rest All : List ℕ → Configuration → Configuration → Type 0) (c : Configuration) (r : ℕ) (now : Shown) : Type 0 where
  pub mid : Configuration
  pub way : IsInProgress mid r
  pub leaves : Leaves c r now mid
  pub by : mid.session.by ≡ c.session.by
  pub goes : (end : Configuration) → Rest c.session.by mid end → All c.session.by c end

-- so many steps are left of so many
abbrev pub Reaches : ℕ → ℕ → Shown → Shown → Type 0
Reaches left count old now = (c : Configuration) (r : ℕ) → IsInProgress c r → Represents c r old
    → IsReached (λ name. StepsOn hss_judged r name left) (λ name. StepsOn hss_judged r name count) c r now

-- all steps up to the end are left
abbrev pub ReachesOn : Shown → Shown → Type 0
ReachesOn old now = (c : Configuration) (r : ℕ) → IsInProgress c r → Represents c r old
    → IsReached (RunsOut hss_judged r) (RunsOut hss_judged r) c r now
