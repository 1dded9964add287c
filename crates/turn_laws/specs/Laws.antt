-- What follows for an agent that takes a turn.
use Rattle.std.specs.Prelude.{◌≡◌, ◌⊎◌, false, List, [], Option, Some, None, Contains, ◌+◌, ◌<◌, ◌^◌, length}
use Rattle.ivy_base.specs.declared.key.Key.{Key}
use Rattle.ivy_base.specs.declared.key.PubKey.{PubKey}
use Rattle.ivy_base.specs.Naming.{IsCollisionFree, head_key_of}
use Rattle.log_model.specs.View.{View, IsView}
use Rattle.log_model.specs.Vector.{Vector, stamp_at}
use Rattle.log_model.specs.Record.{Record}
use Rattle.log_model.specs.Rank.{front}
use Rattle.log_model.specs.Closed.{IsClosedPart}
use Rattle.log_model.specs.Spelling.{most_records}
use Rattle.log_model.specs.Fetched.{Edge}
use Rattle.log_records.specs.Batches.{Batch, AreUnder}
use Rattle.turn_model.specs.Basis.{Basis, Holding, HoldsAll, Knows}
use Rattle.turn_model.specs.Turn.{Candidate, IsAvailable}
use Rattle.agent_model.specs.Agent.{joined, Agent}
use Rattle.agent_model.specs.Standing.{Refresh}
use Rattle.agent_model.specs.Candidates.{AreCandidatesOf, Grounds, MayTurn}
use Rattle.turn_laws.specs.Taking.{TakesNew, refresh_with, with_new}
use Rattle.agent_model.specs.Turning.{Findings, is_behind, is_below_tide}

-- The set is the largest closed part of what the agent knows and of the candidates that the refresh's heads name, and all of it is held.
pub record IsTakenBy (found : Findings) (view : View) (known : List Record) (h : Holding) (taken : List Record) : Type 0 where
  pub candidates : List Candidate
  pub of_heads : AreCandidatesOf found.grounds view found.started candidates
  pub largest : IsClosedPart view (IsAvailable known candidates) taken
  pub holds : HoldsAll view taken h

-- a turn goes on from what the agent holds; or, where one was loaded, from that basis with nothing above it
abbrev pub IsGoneOn : Holding → Option Basis → Holding → Type 0
IsGoneOn holding None h = h ≡ holding
IsGoneOn holding (Some b) h = (h ≡ holding) ⊎ (h ≡ record { basis = b; held = [] })

-- Where no names collide, what a turn takes by what is held is what it takes by the definition: whatever the agent may know and was told.
abbrev pub TakenIsByDefinition : Type 0
TakenIsByDefinition = (grounds : Grounds) (view : View) (own : PubKey) (floor : Vector) (holding h : Holding) (known : List Record)
    (batch : Batch) (basis : Option Basis) (edges : Key → Option Edge) (new : List Record)
    → IsCollisionFree grounds.met → IsView view → Knows view floor holding known → IsGoneOn holding basis h
    → MayTurn grounds view own known (refresh_with batch basis)
    → AreUnder view edges batch → TakesNew view own floor h (refresh_with batch basis) new
    → (taken : List Record) × IsTakenBy (record { grounds = grounds; started = batch.held }) view known (with_new h new) taken

-- A turn that isn't refused has something to take, whatever its refresh brought: there is a largest closed part.
abbrev pub ThereIsATaking : Type 0
ThereIsATaking = (grounds : Grounds) (view : View) (own : PubKey) (floor : Vector) (holding h : Holding) (known : List Record)
    (brought : Refresh)
    → IsCollisionFree grounds.met → IsView view → Knows view floor holding known → IsGoneOn holding brought.basis h
    → MayTurn grounds view own known brought
    → is_behind view own floor h brought ≡ false → is_below_tide own floor h brought ≡ false
    → (new : List Record) × TakesNew view own floor h brought new

-- ---- what is held, in place of the set

-- Where all of a set is held, its front is what is held's.
abbrev pub FrontIsJoined : Type 0
FrontIsJoined = (view : View) (s : List Record) (h : Holding) → HoldsAll view s h → (front s ≡ joined h)

-- The own log of such a set ends where the agent's floor does: a turn goes on with its own log from there.
abbrev pub OwnLogEndsAtFloor : Type 0
OwnLogEndsAtFloor = (grounds : Grounds) (view : View) (own : PubKey) (floor : Vector) (holding h : Holding) (known : List Record)
    (batch : Batch) (basis : Option Basis) (edges : Key → Option Edge) (new : List Record)
    → IsCollisionFree grounds.met → IsView view → Knows view floor holding known → IsGoneOn holding basis h
    → MayTurn grounds view own known (refresh_with batch basis)
    → AreUnder view edges batch → TakesNew view own floor h (refresh_with batch basis) new
    → Contains view.members own → stamp_at (joined (with_new h new)) (head_key_of own) ≡ stamp_at floor (head_key_of own)

-- ---- room for posts

-- What the agent has to publish, with a record of each number and a head, is less than a word counts.
abbrev pub HasRoom : {S : Type 0} → Agent S → Type 0
HasRoom a = length a.pending + most_records < 2 ^ 32
