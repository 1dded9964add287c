-- A call in progress in code, the sessions and configurations that it may be of, and what a step of it, or many, leave.
use Rattle.std.specs.Prelude.{◌≡◌, ◌≢◌, ◌⊎◌, IfSome, IsTrue, is_some, ℕ, false, List, [], Option, Some, None}
use Rattle.ivy_base.specs.declared.operation.Moment.{Moment}
use Rattle.dhash_model.specs.Signed.{hss_judged}
use Rattle.log_heads.specs.declared.judge.HssJudge.{HssJudge}
use Rattle.dhash_client.specs.GetHead.{Judges}
use Rattle.session_model.specs.Sessions.{Over, Said, Session}
use Rattle.log_fetch.specs.Standings.{notes_of}
pub use Rattle.ivy_session.specs.declared.served.Served.{Served}
use Rattle.ivy_session.specs.States.{HasAsked, IsSession, SessionState, is_turning, served_of}
use Rattle.ring_nodes.specs.NodesState.{IsNodesOf, NodesState, with_nodes}
use Rattle.session_steps.specs.MetState.{AreMet, MetState}
use Rattle.script_model.specs.Messages.{Given}
use Rattle.script_participants.specs.ParticipantState.{ParticipantState, state_of}
use Rattle.world_model.specs.Calls.{BeginsWith}
use Rattle.world_model.specs.World.{Participant, World, participant, with_participant}
use Rattle.world_model.specs.Steps.{RunsOut, Configuration, Steps, StepsOn}
use Rattle.world_laws.specs.Invariant.{IsInHand, Invariant, OnlyPublishes}
use Rattle.session_steps.specs.Configurations.{given_at}

-- whatever the judge is, heads are judged by their signatures
abbrev pub judges : Judges HssJudge
judges judge = hss_judged

-- the session in code, what its reply gives to later lines, and what it told once it is over
pub record CallState : Type 0 where
  pub session : SessionState HssJudge
  pub given : Given
  pub told : Option Served

-- ---- one session

-- The session in code is that one, and wasn't told to be over yet. It knows some node, and waits for no turn.
pub record IsUntold (s : Session) (call : CallState) : Type 0 where
  pub some_entry : s.entries ≢ []
  pub session : IsSession judges s call.session
  pub asked : HasAsked call.session s
  pub no_turn : is_turning call.session.stage ≡ false
  pub gives : call.given ≡ given_at s.stage

-- it is over, and that was told
pub record IsTold (s : Session) (call : CallState) (told : Served) : Type 0 where
  pub said : Option Said
  pub is_over : s.stage ≡ Over said
  pub is_told : told ≡ served_of said
  pub noted : call.session.notes ≡ notes_of s.notes s.missed
  pub gives : call.given ≡ given_at s.stage

abbrev pub RepresentsBy : Session → CallState → Option Served → Type 0
RepresentsBy s call None = IsUntold s call
RepresentsBy s call (Some told) = IsTold s call told

abbrev pub RepresentsSession : Session → CallState → Type 0
RepresentsSession s call = RepresentsBy s call call.told

-- ---- how it begins

-- in each world of these nodes, and whoever of the definitions the participant is, a session begins with the message
abbrev pub BeginsIn : NodesState → ParticipantState → List ℕ → CallState → Type 0
BeginsIn nodes who message call = (w : World) (p : Participant) → IsNodesOf w nodes → state_of p ≡ who
    → IfSome p.agent.view (λ view. (s : Session) × BeginsWith w (record { by = p; view = view; message = message }) s
    × RepresentsSession s call)

-- ---- configurations

-- the parts of a configuration that code has
pub record Shown : Type 0 where
  pub call : CallState
  pub nodes : NodesState
  pub who : ParticipantState
  pub met : MetState
  pub now : Moment

abbrev pub shown : CallState → NodesState → ParticipantState → MetState → Moment → Shown
shown call nodes who met now = record { call = call; nodes = nodes; who = who; met = met; now = now }

-- the code has the parts of that configuration, in a ring in which so many own a key
pub record Represents (c : Configuration) (r : ℕ) (s : Shown) : Type 0 where
  pub p : Participant
  pub is_by : participant c.world c.session.by ≡ Some p
  pub who : state_of p ≡ s.who
  pub nodes : IsNodesOf c.world s.nodes
  pub met : AreMet c.world.met s.met
  pub now : c.world.now ≡ s.now
  pub replicas : s.call.session.replicas ≡ r
  pub session : RepresentsSession c.session s.call

-- the invariant holds of the world, and the session is in hand, or only publishes
pub record IsInProgress (c : Configuration) (r : ℕ) : Type 0 where
  pub keeps : Invariant (c.world, c.ghost_state)
  pub ring : c.world.replicas ≡ Some r
  pub hand : IsInHand c r ⊎ OnlyPublishes c.world r c.session

-- some configuration in progress is represented
abbrev pub HasConfiguration : Shown → Type 0
HasConfiguration s = (c : Configuration) × (r : ℕ) × IsInProgress c r × Represents c r s

-- ---- what is left

-- the world with these nodes and these blocks met, and that participant in place of the one of its name
abbrev pub world_left : World → NodesState → List (List ℕ) → Participant → World
world_left w nodes met p = record (with_participant (with_nodes w nodes) p) { met = met }

-- the configuration then is represented, and its world is the one before but for its nodes, the blocks met, and the participant
pub record Leaves (c : Configuration) (r : ℕ) (s : Shown) (next : Configuration) : Type 0 where
  pub shows : Represents next r s
  pub world : next.world ≡ world_left c.world s.nodes next.world.met shows.p

-- where the session is over there is no step
abbrev pub IsOver : Configuration → Configuration → Type 0
IsOver c next = (next ≡ c) × (said : Option Said) × (c.session.stage ≡ Over said)

-- one step, or none where it is over
pub record StepsTo (c : Configuration) (r : ℕ) (s : Shown) : Type 0 where
  pub next : Configuration
  pub steps : Steps hss_judged r c.session.by c next ⊎ IsOver c next
  pub leaves : Leaves c r s next

-- whichever configuration in progress was represented
abbrev pub StepsFrom : Shown → Shown → Type 0
StepsFrom old new = (c : Configuration) (r : ℕ) → IsInProgress c r → Represents c r old → StepsTo c r new

-- so many steps
abbrev pub ManyStepsFrom : ℕ → Shown → Shown → Type 0
ManyStepsFrom count old new = (c : Configuration) (r : ℕ) → IsInProgress c r → Represents c r old
    → (end : Configuration) × StepsOn hss_judged r c.session.by count c end × Leaves c r new end

-- all steps up to the end, which was told
abbrev pub RunsOutFrom : Shown → Shown → Type 0
RunsOutFrom old new = (c : Configuration) (r : ℕ) → IsInProgress c r → Represents c r old
    → IsTrue (is_some new.call.told) × (end : Configuration) × RunsOut hss_judged r c.session.by c end × Leaves c r new end
