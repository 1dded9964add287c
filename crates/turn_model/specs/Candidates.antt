-- The candidates of a turn: of each member's log the chain that the first good head names, or else what is known of it.
use Rattle.std.specs.Prelude.{◌≡◌, ◌⊎◌, ℕ, ◌<◌, List, [], ◌∷◌, ◌++◌, map, Contains, Option, Some, None, IsTrue}
use Rattle.std.specs.List.{AllByRecursion}
use Rattle.std.specs.Ordering.{is_lt}
use Rattle.ivy_base.specs.declared.key.Key.{Key}
use Rattle.ivy_base.specs.declared.key.PubKey.{PubKey}
use Rattle.ivy_base.specs.Naming.{head_key_of, key_cmp}
use Rattle.log_model.specs.View.{View}
use Rattle.log_model.specs.Vector.{Stamp, Vector, stamp_at, seq_of}
use Rattle.log_model.specs.Record.{Record}
use Rattle.log_model.specs.Chain.{IsChain}
use Rattle.log_model.specs.Closed.{log_of}
use Rattle.log_model.specs.Standing.{Stand}
use Rattle.turn_model.specs.Turn.{Candidate, BringNothing}
use Rattle.turn_model.specs.Known.{EndsAt}

-- the greater number is tried first, and of equal ones the least name
abbrev pub IsTriedBefore : Stamp → Stamp → Type 0
IsTriedBefore s t = (t.seq < s.seq) ⊎ ((s.seq ≡ t.seq) × IsTrue (is_lt (key_cmp s.name t.name)))

-- the chain has the record of the stamp, where there is a stamp
abbrev pub PassesThrough : Option Stamp → List Record → Type 0
PassesThrough None chain = Unit {0}
PassesThrough (Some t) chain = (front : List Record) × (rest : List Record) × (chain ≡ front ++ rest) × EndsAt (Some t) front

-- What a chain is read from: the blocks, under a view, beyond a floor.
pub record Reading : Type 0 where
  pub blocks : List (List ℕ)
  pub view : View
  pub floor : Vector

-- records among the blocks that make the chain to the head, through the floor's record
pub record MakeChain (reading : Reading) (owner : PubKey) (head : Stamp) (chain : List Record) : Type 0 where
  pub chain_of_log : IsChain reading.view owner chain
  pub stand : Stand reading.blocks chain
  pub ends : EndsAt (Some head) chain
  pub passes : PassesThrough (stamp_at reading.floor (head_key_of owner)) chain

-- the records of the head make no chain
abbrev pub IsPassedOver : Reading → PubKey → Stamp → Type 0
IsPassedOver reading owner head = (chain : List Record) → MakeChain reading owner head chain → ⊥

-- the head was received, and goes further than the floor
abbrev pub IsTried : (Key → List Stamp) → Vector → Key → Stamp → Type 0
IsTried heads floor log t = Contains (heads log) t × (seq_of floor log < t.seq)

-- What candidates are told by: the heads of each log, the blocks and the view, and of the agent its own key, its floor and what it knows.
pub record Evidence : Type 0 where
  pub heads : Key → List Stamp
  pub blocks : List (List ℕ)
  pub view : View
  pub own : PubKey
  pub floor : Vector
  pub known : List Record

-- what its chains are read from
abbrev pub reading : Evidence → Reading
reading e = record { blocks = e.blocks; view = e.view; floor = e.floor }

-- The candidate of an owner's log: of the agent's own log, what is known of it; of another, the chain of the first head whose records make
-- one, and what is known of it where no head's do
pub data IsCandidate (e : Evidence) (owner : PubKey) : List Record → Type 0 where
  own_log : owner ≡ e.own → IsCandidate e owner (log_of owner e.known)
  newest : (head : Stamp) (chain : List Record) → (owner ≡ e.own → ⊥) → IsTried e.heads e.floor (head_key_of owner) head
      → MakeChain (reading e) owner head chain
      → ((other : Stamp) → IsTried e.heads e.floor (head_key_of owner) other → IsTriedBefore other head
      → IsPassedOver (reading e) owner other)
      → IsCandidate e owner chain
  as_known : (owner ≡ e.own → ⊥) → ((head : Stamp) → IsTried e.heads e.floor (head_key_of owner) head → IsPassedOver (reading e) owner head)
      → IsCandidate e owner (log_of owner e.known)

-- one candidate of each member, in the members' order
pub record AreCandidates (e : Evidence) (candidates : List Candidate) : Type 0 where
  pub of_members : map (λ c. c.owner) candidates ≡ e.view.members
  pub each : AllByRecursion (λ c. IsCandidate e c.owner c.chain) candidates

-- Where the agent is its view's only member, its candidates bring nothing.
abbrev pub OnlyMemberHasNothingNew : Type 0
OnlyMemberHasNothingNew = (e : Evidence) (candidates : List Candidate) → e.view.members ≡ e.own ∷ [] → AreCandidates e candidates
    → BringNothing e.known candidates
