-- What an agent knows: by its floor, and by which heads.
use Rattle.std.specs.Prelude.{◌≡◌, ◌⊎◌, ℕ, ◌≤◌, List, [], ◌∷◌, ◌++◌, Option, Some, None, Contains}
use Rattle.std.specs.List.{AllByRecursion}
use Rattle.ivy_base.specs.declared.key.PubKey.{PubKey}
use Rattle.ivy_base.specs.Naming.{head_key_of}
use Rattle.log_model.specs.View.{View}
use Rattle.log_model.specs.Vector.{Stamp, Entry, Vector, stamp_at, seq_of}
use Rattle.log_model.specs.Record.{Record}
use Rattle.log_model.specs.Spelling.{no_name}
use Rattle.log_model.specs.Rank.{own_entry}
use Rattle.log_model.specs.Chain.{IsChain, LinkedFrom}
use Rattle.log_model.specs.Closed.{log_of, IsAscending}
use Rattle.log_model.specs.Standing.{Stand}

-- the log ends at the record that the stamp names, or is empty where there is none
abbrev pub EndsAt : Option Stamp → List Record → Type 0
EndsAt None log = log ≡ []
EndsAt (Some t) log = (before : List Record) × (last : Record) × (log ≡ before ++ last ∷ []) × ((own_entry last).1 ≡ t)

-- all records that the floor names for the view's members, with those before them
pub record IsKnown (view : View) (floor : Vector) (known : List Record) : Type 0 where
  pub ascending : IsAscending known
  pub members : AllByRecursion (λ r. Contains view.members r.owner) known
  pub chains : (owner : PubKey) → IsChain view owner (log_of owner known)
  pub ends : (owner : PubKey) → Contains view.members owner → EndsAt (stamp_at floor (head_key_of owner)) (log_of owner known)

-- Among the blocks, the record stands at or below the record that one of the heads names. A head is given as the entry that it says: a log,
-- and its newest record
pub record IsUnderHead (blocks : List (List ℕ)) (heads : List Entry) (r : Record) : Type 0 where
  pub head : Entry
  pub received : Contains heads head
  pub log : List Record
  pub linked : LinkedFrom r.owner 1 no_name log
  pub stand : Stand blocks log
  pub of_log : head.0 ≡ head_key_of r.owner
  pub ends : EndsAt (Some head.1) log
  pub below : Contains log r

-- an own record stands within the floor, and another's under a verified head that was received
abbrev pub IsBacked : List (List ℕ) → PubKey → Vector → List Entry → Record → Type 0
IsBacked blocks own floor heads r =
    ((r.owner ≡ own) × (r.seq ≤ seq_of floor (head_key_of own))) ⊎ ((r.owner ≡ own → ⊥) × IsUnderHead blocks heads r)

-- the set is verified for the agent: of each log the beginning of a chain, and each record is backed
pub record IsVerified (blocks : List (List ℕ)) (view : View) (own : PubKey) (floor : Vector) (heads : List Entry)
    (s : List Record) : Type 0 where
  pub chains : (owner : PubKey) → IsChain view owner (log_of owner s)
  pub backed : AllByRecursion (IsBacked blocks own floor heads) s
