-- A script's world but for its open sessions, as contracts see it; the worlds of the definitions that have the same; and what a line does
-- in them.
use Rattle.std.specs.Prelude.{◌≡◌, ◌≤◌, ◌==◌, ℕ, List, [], Option, Some, None, IfSome, find, option_map}
use Rattle.ivy_base.specs.declared.key.Key.{Key}
use Rattle.ivy_base.specs.declared.operation.Moment.{Moment}
use Rattle.script_driver.specs.declared.machine.Taken.{Taken}
use Rattle.script_driver.specs.declared.machine.Taken.TheVariants as taken
use Rattle.script_driver.specs.Run.{Outcome, Goes, Ends, Refuses, Exceeds}
use Rattle.script_model.specs.Messages.{Given}
use Rattle.world_model.specs.Logs.{Played}
use Rattle.world_model.specs.World.{NamedView, Participant, World}
use Rattle.session_steps.specs.MetState.{AreMet, MetState}
use Rattle.ring_nodes.specs.NodesState.{IsNodesOf, NodesState}
use Rattle.script_participants.specs.ParticipantState.{AreNamedApart, HasParticipants, ParticipantState}

-- r, where a ring was made; the nodes, the participants, the views in the order of their lines; what each reply gave; the moment; and the
-- blocks met
pub record PartsState : Type 0 where
  pub replicas : Option ℕ
  pub nodes : NodesState
  pub participants : List ParticipantState
  pub views : List NamedView
  pub replies : List Given
  pub moment : Moment
  pub met : MetState

-- the world has these parts
pub record HasParts (w : World) (s : PartsState) : Type 0 where
  pub replicas : w.replicas ≡ s.replicas
  pub nodes : IsNodesOf w s.nodes
  pub participants : HasParticipants w s.participants
  pub views : w.views ≡ s.views
  pub replies : w.replies ≡ s.replies
  pub moment : w.now ≡ s.moment
  pub met : AreMet w.met s.met

-- what is so at all times: no two participants have one name, r is 1 to 8, and there is nobody before the ring
pub record AreKept (replicas : Option ℕ) (participants : List ParticipantState) : Type 0 where
  pub apart : AreNamedApart participants
  pub few : IfSome replicas (λ r. (1 ≤ r) × (r ≤ 8))
  pub nobody : replicas ≡ None → participants ≡ []

-- ---- what a line names

-- the name of the record of that number which the log's agent made
abbrev pub record_by : ℕ → Option Participant → Option Key
record_by seq None = None
record_by seq (Some p) = option_map (λ m. m.1) (find (λ m. m.0 == seq) p.made)

-- the last snapshot of it that was printed
abbrev pub snapshot_by : Option Participant → Option Key
snapshot_by None = None
snapshot_by (Some p) = p.printed

-- ---- what a line does

-- a line was taken so: where it goes on, it goes on to such a world
abbrev pub IsTaken : {W : Type 0} → (W → Type 0) → (Outcome W → Type 0) → Taken → Type 0
IsTaken {W} Then Does (taken.Went output) = (next : W) × Does (Goes next output.items) × Then next
IsTaken Then Does taken.Ended = Does Ends
IsTaken Then Does taken.Refused = Does Refuses
IsTaken Then Does taken.Exceeded = Does Exceeds

-- the world has these parts, and the open sessions are those of the one before
abbrev pub GoesOn : World → PartsState → World → Type 0
GoesOn w after next = HasParts next after × (next.sessions ≡ w.sessions)

-- the line does so in each world that has these parts
abbrev pub DoesIn : (World → Outcome World → Type 0) → PartsState → Taken → PartsState → Type 0
DoesIn Does before how after = (w : World) → HasParts w before → IsTaken (GoesOn w after) (Does w) how

-- the same of worlds with their ghost states
abbrev pub PlaysIn : (Played → Outcome Played → Type 0) → PartsState → Taken → PartsState → Type 0
PlaysIn Does before how after = (w : Played) → HasParts w.0 before → IsTaken (λ next. GoesOn w.0 after next.0) (Does w) how

-- and of a line after which sessions may be gone
abbrev pub EndsSessionsIn : (Played → Outcome Played → Type 0) → PartsState → Taken → PartsState → Type 0
EndsSessionsIn Does before how after = (w : Played) → HasParts w.0 before → IsTaken (λ next. HasParts next.0 after) (Does w) how
