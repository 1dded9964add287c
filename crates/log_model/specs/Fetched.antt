-- Chains that were fetched, each from what is held up to a judged head, and why one isn't taken.
use Rattle.std.specs.Prelude.{◌≡◌, ℕ, ◌+◌, ◌<◌, List, [], ◌∷◌, ◌++◌, Contains, Option, Some, None}
use Rattle.ivy_base.specs.declared.key.PubKey.{PubKey}
use Rattle.ivy_base.specs.Naming.{head_key_of}
use Rattle.log_model.specs.View.{View}
use Rattle.log_model.specs.Vector.{Stamp, Vector, stamp_at, reach, Dominates, with_entry}
use Rattle.log_model.specs.Record.{Record}
use Rattle.log_model.specs.Rank.{own_entry, full_vector}
use Rattle.log_model.specs.Chain.{IsGood, IsFirst, GoesOn}
use Rattle.log_model.specs.declared.chain_fault.ChainFault.{ChainFault}
use Rattle.log_model.specs.declared.chain_fault.ChainFault.TheVariants.{Bad, Fork, Memory}

-- whose log the records are of: the first one's owner's
abbrev pub owner_of : List Record → PubKey
owner_of [] = record { 0 = [] }
owner_of (r ∷ rs) = r.owner

-- the vector's stamp of their log
abbrev pub stamp_in : Vector → List Record → Option Stamp
stamp_in v chain = stamp_at v (head_key_of (owner_of chain))

-- ---- the rules of a chain, from a held record on

-- what is known of the newest held record of a log, beside its stamp: its vector, which knows nothing of its own log
pub record Edge : Type 0 where
  pub vector : Vector

-- what is known of that record, once it is held
abbrev pub as_edge : Record → Edge
as_edge r = record { vector = r.vector }

-- the record may be the next after that of the stamp, by its number; where there is none, it opens its log
abbrev pub MayBeNext : Option Stamp → Record → Type 0
MayBeNext None r = IsFirst r
MayBeNext (Some t) r = r.seq ≡ t.seq + 1

-- it knows all that the stamp's record does, where that one's edge is known. Where there is no such record, an edge says nothing
abbrev pub KnowsEdge : Option Stamp → Option Edge → Record → Type 0
KnowsEdge (Some t) (Some edge) r = Dominates (full_vector r) (with_entry edge.vector (head_key_of r.owner, t))
KnowsEdge held edge r = Unit {0}

-- under the view, the records go on from the stamp's record, but for naming it
abbrev pub GoesOnFrom : View → Option Stamp → Option Edge → List Record → Type 0
GoesOnFrom view held edge [] = Unit {0}
GoesOnFrom view held edge (r ∷ rs) = IsGood view r.owner r × MayBeNext held r × KnowsEdge held edge r × GoesOn view r.owner r rs

-- the newest record is the stamp's
abbrev pub EndsAtStamp : Stamp → List Record → Type 0
EndsAtStamp t chain = (before : List Record) × (last : Record) × (chain ≡ before ++ last ∷ []) × ((own_entry last).1 ≡ t)

-- the records keep the rules, up to the head's record
pub record IsSound (view : View) (held : Vector) (edge : Option Edge) (head : Stamp) (chain : List Record) : Type 0 where
  pub goes_on : GoesOnFrom view (stamp_in held chain) edge chain
  pub ends : EndsAtStamp head chain

-- ---- of which history of its log a chain is

-- the record names the stamp's as the one before it, where there is one
abbrev pub NamesPrevious : Option Stamp → Record → Type 0
NamesPrevious None r = Unit {0}
NamesPrevious (Some t) r = r.prev ≡ t.name

-- the oldest record does, where there are some
abbrev pub OldestNames : Option Stamp → List Record → Type 0
OldestNames held [] = Unit {0}
OldestNames held (r ∷ rs) = NamesPrevious held r

-- the stamp's record is one of them
abbrev pub HasRecord : Stamp → List Record → Type 0
HasRecord t chain = (r : Record) × Contains chain r × ((own_entry r).1 ≡ t)

-- where the floor is above that number, its record is one of them
abbrev pub PassesFloor : Option Stamp → ℕ → List Record → Type 0
PassesFloor None reached chain = Unit {0}
PassesFloor (Some f) reached chain = reached < f.seq → HasRecord f chain

-- the records go on from the held record itself, through the floor's
pub record IsOnward (held floor : Vector) (chain : List Record) : Type 0 where
  pub names : OldestNames (stamp_in held chain) chain
  pub passes : PassesFloor (stamp_in floor chain) (reach (stamp_in held chain)) chain

-- why a chain isn't taken. Running out of memory isn't tied to a cause
abbrev pub ChainFails : View → Vector → Vector → Stamp → Option Edge → List Record → ChainFault → Type 0
ChainFails view held floor head edge chain Bad = IsSound view held edge head chain → ⊥
ChainFails view held floor head edge chain Fork = IsSound view held edge head chain × (IsOnward held floor chain → ⊥)
ChainFails view held floor head edge chain Memory = Unit {0}
