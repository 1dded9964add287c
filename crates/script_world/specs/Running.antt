-- Sessions that begin, go on and end in worlds that have these parts.
use Rattle.std.specs.Prelude.{◌≡◌, ◌≢◌, ℕ, List, [], Option, Some, None, IfSome, IsSomeAnd, IsTrue, is_some}
use Rattle.dhash_model.specs.Signed.{hss_judged}
use Rattle.script_model.specs.Messages.{Given}
use Rattle.session_model.specs.Sessions.{Said, Session}
use Rattle.world_model.specs.Calls.{BeginsWith, Sending, replied}
use Rattle.world_model.specs.Logs.{Played, Publishes}
use Rattle.world_model.specs.Steps.{RunsOut, Configuration, StepsOn}
use Rattle.world_model.specs.World.{Participant, World, participant}
use Rattle.world_laws.specs.Invariant.{Invariant}
use Rattle.session_steps.specs.Ending.{left_by}
use Rattle.session_steps.specs.Representing.{CallState, IsInProgress, RepresentsSession}
use Rattle.script_world.specs.PartsState.{GoesOn, HasParts, PartsState}

-- the call shows that session, which asks as many owners as the ring has
pub record IsRepresentedIn (s : PartsState) (t : Session) (call : CallState) : Type 0 where
  pub replicas : s.replicas ≡ Some call.session.replicas
  pub shows : RepresentsSession t call

-- ---- sessions that begin

-- where there is a ring, it has a node
abbrev pub MayCall : PartsState → Type 0
MayCall s = IfSome s.replicas (λ r. s.nodes.nodes ≢ [])

-- where something is sent, a session begins with it
abbrev pub BeginsOf : PartsState → Option CallState → World → Option Sending → Type 0
BeginsOf s call w None = call ≡ None
BeginsOf s call w (Some sending) = IsSomeAnd call (λ c. (t : Session) × BeginsWith w sending t × IsRepresentedIn s t c)

-- ---- sessions that go on

-- a configuration in progress in a world that has these parts, of a session of that participant, which the call represents
pub record IsConfigurationIn (s : PartsState) (name : List ℕ) (call : CallState) (c : Configuration) (r : ℕ) : Type 0 where
  pub way : IsInProgress c r
  pub parts : HasParts c.world s
  pub named : c.session.by ≡ name
  pub replicas : call.session.replicas ≡ r
  pub shows : RepresentsSession c.session call

abbrev pub HasConfigurationIn : PartsState → List ℕ → CallState → Type 0
HasConfigurationIn s name call = (c : Configuration) × (r : ℕ) × IsConfigurationIn s name call c r

-- the world of the configuration then has the parts, and the open sessions of before, in the same ring
pub record LeadsTo (after : PartsState) (new : CallState) (c end : Configuration) : Type 0 where
  pub goes_on : GoesOn c.world after end.world
  pub ring : end.world.replicas ≡ c.world.replicas
  pub shown : IsRepresentedIn after end.session new

module _ (name : List ℕ) (before : PartsState) (old : CallState) (after : PartsState) (new : CallState) where
  -- so many steps lead there from each such configuration
  abbrev pub StepsOnIn : ℕ → Type 0
  StepsOnIn count = (c : Configuration) (r : ℕ) → IsConfigurationIn before name old c r
      → (end : Configuration) × StepsOn hss_judged r name count c end × LeadsTo after new c end

  -- all steps up to the end do, and it was told
  abbrev pub RunsOutIn : Type 0
  RunsOutIn = IsTrue (is_some new.told)
      × ((c : Configuration) (r : ℕ) → IsConfigurationIn before name old c r
      → (end : Configuration) × RunsOut hss_judged r name c end × LeadsTo after new c end)

-- ---- publishing

-- a world in which the invariant holds has these parts, and that participant
pub record CanPublish (s : PartsState) (name : List ℕ) (w : Played) (p : Participant) : Type 0 where
  pub parts : HasParts w.0 s
  pub keeps : Invariant w
  pub named : participant w.0 name ≡ Some p

abbrev pub HasPublisher : PartsState → List ℕ → Type 0
HasPublisher s name = (w : Played) × (p : Participant) × CanPublish s name w p

-- all that its agent has pending is published, in each such world
abbrev pub PublishesIn : List ℕ → PartsState → PartsState → Type 0
PublishesIn name before after = (w : Played) (r : ℕ) (p : Participant) → CanPublish before name w p → w.0.replicas ≡ Some r
    → (next : Played) × Publishes hss_judged r w p next × GoesOn w.0 after next.0 × (next.0.replicas ≡ w.0.replicas)

-- ---- replies

-- what was said leaves that to later lines, in each world that has the parts before
abbrev pub RepliesIn : Option Given → PartsState → PartsState → Type 0
RepliesIn given before after = (w : World) (said : Said) → HasParts w before → given ≡ left_by said → GoesOn w after (replied w said)
