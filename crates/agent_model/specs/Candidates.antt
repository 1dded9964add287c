-- The candidates of a turn by the standing of its session, and what a refresh has to bring of them. One reading is settled here: fetching a
-- log from a record whose vector isn't known may take records that don't know all that this record does.
use Rattle.std.specs.Prelude.{◌≡◌, ℕ, nat_lt, List, filter, map, Contains, IfSome, Some, None}
use Rattle.std.specs.List.{AllByRecursion}
use Rattle.ivy_base.specs.declared.key.Key.{Key}
use Rattle.ivy_base.specs.declared.key.PubKey.{PubKey}
use Rattle.ivy_base.specs.Naming.{head_key_of}
use Rattle.log_model.specs.View.{View}
use Rattle.log_model.specs.Vector.{Stamp, Vector, stamp_at, seq_of}
use Rattle.log_model.specs.Record.{Record}
use Rattle.log_model.specs.Closed.{log_of}
use Rattle.turn_model.specs.Candidates.{Evidence, IsCandidate, IsPassedOver, IsTried, IsTriedBefore, Reading}
use Rattle.log_model.specs.Standing.{Stand}
use Rattle.log_model.specs.Fetched.{IsOnward, IsSound}
use Rattle.turn_model.specs.Basis.{Basis, StandsFor}
use Rattle.turn_model.specs.Known.{IsKnown}
use Rattle.turn_model.specs.Turn.{Candidate}
use Rattle.agent_model.specs.Standing.{Standing, Chain, Refresh, edge_at}

-- ---- candidates

-- What a turn's candidates are told by: the heads of each log and the blocks that were met, the standing with which the session began, and
-- what the agent knew then.
pub record Grounds : Type 0 where
  pub heads : Key → List Stamp
  pub met : List (List ℕ)
  pub standing : Standing
  pub knew : List Record

-- what chains are read from, in that view
abbrev pub reading_in : Grounds → View → Reading
reading_in g view = record { blocks = g.met; view = view; floor = g.standing.floor }

-- and what candidates are determined by where nothing misleads
abbrev pub evidence_in : Grounds → View → Evidence
evidence_in g view = record { heads = g.heads; blocks = g.met; view = view; own = g.standing.own; floor = g.standing.floor; known = g.knew }

-- the owner's records among the blocks that a refresh takes under the head, where it doesn't know the vector of the record from which it
-- starts
pub record AreTaken (reading : Reading) (owner : PubKey) (started : Vector) (head : Stamp) (records : List Record) : Type 0 where
  pub owned : AllByRecursion (λ r. r.owner ≡ owner) records
  pub sound : IsSound reading.view started None head records
  pub onward : IsOnward started reading.floor records
  pub stand : Stand reading.blocks records

-- The refresh starts from a record of that log whose vector isn't known; and of the heads tried the first one under which it takes records
-- has no chain.
pub record IsMisled (g : Grounds) (view : View) (started : Vector) (owner : PubKey) (records : List Record) : Type 0 where
  pub of_other : owner ≡ g.standing.own → ⊥
  pub from : Stamp
  pub starts : stamp_at started (head_key_of owner) ≡ Some from
  pub no_edge : edge_at g.standing (head_key_of owner) ≡ None
  pub head : Stamp
  pub tried : IsTried g.heads g.standing.floor (head_key_of owner) head
  pub taken : AreTaken (reading_in g view) owner started head records
  pub first : (other : Stamp) → IsTried g.heads g.standing.floor (head_key_of owner) other → IsTriedBefore other head
      → (others : List Record)
      → AreTaken (reading_in g view) owner started other others → ⊥
  pub no_chain : IsPassedOver (reading_in g view) owner head

-- such a log's candidate is what was known of it
pub data IsCandidateOf (g : Grounds) (view : View) (started : Vector) (owner : PubKey) : List Record → Type 0 where
  misled : (records : List Record) → IsMisled g view started owner records → IsCandidateOf g view started owner (log_of owner g.knew)
  by_heads : (chain : List Record) → ((records : List Record) → IsMisled g view started owner records → ⊥)
      → IsCandidate (evidence_in g view) owner chain → IsCandidateOf g view started owner chain

-- One candidate of each member of the view, in the members' order, where the refresh started from that vector.
pub record AreCandidatesOf (g : Grounds) (view : View) (started : Vector) (candidates : List Candidate) : Type 0 where
  pub of_members : map (λ c. c.owner) candidates ≡ view.members
  pub each : AllByRecursion (λ c. IsCandidateOf g view started c.owner c.chain) candidates

-- ---- what a refresh has to bring

-- the log's records above what the refresh started from
abbrev pub records_above : Vector → PubKey → List Record → List Record
records_above started owner chain = filter (λ r. nat_lt (seq_of started (head_key_of owner)) r.seq) chain

-- of a member's log: the candidate's records above; or the records that mislead; or nothing, where the candidate is what is known
pub data BringsOf (g : Grounds) (view : View) (brought : Refresh) (owner : PubKey) : Type 0 where
  candidate : (c : Chain) (chain : List Record) → Contains brought.chains c → c.owner ≡ owner
      → IsCandidateOf g view brought.started owner chain
      → c.records ≡ records_above brought.started owner chain → BringsOf g view brought owner
  misleading : (c : Chain) → Contains brought.chains c → c.owner ≡ owner → IsMisled g view brought.started owner c.records
      → BringsOf g view brought owner
  nothing : ((c : Chain) → Contains brought.chains c → c.owner ≡ owner → ⊥)
      → IsCandidateOf g view brought.started owner (log_of owner g.knew) → BringsOf g view brought owner

-- What was brought is tied to the heads and the blocks: a turn is held to the definitions where it is.
pub record Brings (g : Grounds) (view : View) (brought : Refresh) : Type 0 where
  pub members : AllByRecursion (λ c. Contains view.members c.owner) brought.chains
  pub once : (c d : Chain) → Contains brought.chains c → Contains brought.chains d → c.owner ≡ d.owner → c ≡ d
  pub each : AllByRecursion (BringsOf g view brought) view.members

-- the basis stands for a closed set of what is known
abbrev pub StandsWithin : View → List Record → Basis → Type 0
StandsWithin view known b = (below : List Record) × StandsFor view b below × ((r : Record) → Contains below r → Contains known r)

-- A turn is held to the definitions where the standing is the agent's own, and its floor names what the agent knew when the session began;
-- what it knows now stands among the blocks met and has all of that; the refresh brings what these heads name; and a basis that it loaded
-- stands for a part of what is known.
pub record MayTurn (g : Grounds) (view : View) (own : PubKey) (known : List Record) (brought : Refresh) : Type 0 where
  pub same_own : g.standing.own ≡ own
  pub by_floor : IsKnown view g.standing.floor g.knew
  pub stand : Stand g.met known
  pub knew_before : (r : Record) → Contains g.knew r → Contains known r
  pub brings : Brings g view brought
  pub loaded : IfSome brought.basis (StandsWithin view known)
