-- Closed sets over a front: what is at or under it in a log counts as known, and each log goes on from there. Over the
-- empty front these are the closed sets of `log_model`.
use Rattle.std.specs.Prelude.{◌≡◌, ◌+◌, ◌<◌, ◌⊎◌, IsTrue, List, [], ◌∷◌, Contains, Option, Some, None}
use Rattle.std.specs.List.{AllByRecursion}
use Rattle.ivy_base.specs.declared.key.PubKey.{PubKey}
use Rattle.ivy_base.specs.Naming.{head_key_of}
use Rattle.log_model.specs.View.{View, is_member}
use Rattle.log_model.specs.Vector.{Stamp, Entry, Vector, stamp_at, seq_of}
use Rattle.log_model.specs.Record.{Record}
use Rattle.log_model.specs.Chain.{IsGood, GoesOn, IsChain}
use Rattle.log_model.specs.Closed.{log_of, IsAscending, IsCause}

-- the entry is below the front, by its number, or it is the front's own, by number and name
abbrev pub IsUnder : Vector → Entry → Type 0
IsUnder front e = (e.1.seq < seq_of front e.0) ⊎ (stamp_at front e.0 ≡ Some e.1)

-- the record that r cites by the entry, where that is one of a member's log, is at or under the front, or in the set
abbrev pub IsMet : View → Vector → List Record → Record → Entry → Type 0
IsMet view front s r e = IsTrue (is_member view e.0) → IsUnder front e ⊎ ((c : Record) × Contains s c × IsCause c e r)

-- all that r cites is
abbrev pub HasCauses : View → Vector → List Record → Record → Type 0
HasCauses view front s r = AllByRecursion (IsMet view front s r) r.vector

-- the owner's record that is numbered next after the stamp, and names it
pub record ComesNext (view : View) (owner : PubKey) (s : Stamp) (r : Record) : Type 0 where
  pub good : IsGood view owner r
  pub seq : r.seq ≡ s.seq + 1
  pub prev : r.prev ≡ s.name

-- the owner's records after that stamp, or from the first one on
abbrev pub GoesOnFrom : View → PubKey → Option Stamp → List Record → Type 0
GoesOnFrom view owner None rs = IsChain view owner rs
GoesOnFrom view owner (Some s) [] = Unit {0}
GoesOnFrom view owner (Some s) (r ∷ rs) = ComesNext view owner s r × GoesOn view owner r rs

-- the owner's log, after the front
abbrev pub IsChainOver : View → Vector → PubKey → List Record → Type 0
IsChainOver view front owner rs = GoesOnFrom view owner (stamp_at front (head_key_of owner)) rs

-- a set of records, in ascending order: of each member's log the beginning after the front, and with each record its causes
pub record IsClosed (view : View) (front : Vector) (s : List Record) : Type 0 where
  pub ascending : IsAscending s
  pub members : AllByRecursion (λ r. Contains view.members r.owner) s
  pub chains : (owner : PubKey) → IsChainOver view front owner (log_of owner s)
  pub causes : AllByRecursion (HasCauses view front s) s

-- the largest closed part of what is available: each closed part of it is in this one
pub record IsClosedPart (view : View) (front : Vector) (Available : Record → Type 0) (s : List Record) : Type 0 where
  pub part : (r : Record) → Contains s r → Available r
  pub closed : IsClosed view front s
  pub largest : (t : List Record) → ((r : Record) → Contains t r → Available r) → IsClosed view front t → (r : Record) → Contains t r
      → Contains s r
