-- Batches: chains that were fetched, each from what is held up to a judged head.
use Rattle.std.specs.Prelude.{◌≡◌, ◌≢◌, ◌+◌, List, [], ◌∷◌, map, Contains, Option, Some, None}
use Rattle.std.specs.List.{AllByRecursion}
use Rattle.ivy_base.specs.declared.key.Key.{Key}
use Rattle.ivy_base.specs.declared.key.PubKey.{PubKey}
use Rattle.ivy_base.specs.Naming.{head_key_of}
use Rattle.log_model.specs.View.{View}
use Rattle.log_model.specs.Vector.{Stamp, Vector, reach}
use Rattle.log_model.specs.Record.{Record}
use Rattle.log_model.specs.Spelling.{no_name}
use Rattle.log_model.specs.Chain.{LinkedFrom}
use Rattle.log_model.specs.Fetched.{Edge, owner_of, stamp_in, GoesOnFrom, EndsAtStamp, PassesFloor}

-- some records, all of one owner
pub record AreOfOneOwner (chain : List Record) : Type 0 where
  pub some : chain ≢ []
  pub owned : AllByRecursion (λ r. r.owner ≡ owner_of chain) chain

-- ---- batches

-- the chains over what is held, each with the stamp that its judged head says, in the order in which they were added
pub record Batch : Type 0 where
  pub held : Vector
  pub floor : Vector
  pub chains : List (Stamp × List Record)

abbrev pub owners_in : List (Stamp × List Record) → List PubKey
owners_in chains = map (λ c. owner_of c.1) chains

abbrev pub name_or_none : Option Stamp → Key
name_or_none None = no_name
name_or_none (Some t) = t.name

-- whatever the view, the chain is linked from the held record, or from the log's beginning, through the floor's up to the head's
pub record Extends (held floor : Vector) (head : Stamp) (chain : List Record) : Type 0 where
  pub linked : LinkedFrom (owner_of chain) (reach (stamp_in held chain) + 1) (name_or_none (stamp_in held chain)) chain
  pub ends : EndsAtStamp head chain
  pub passes : PassesFloor (stamp_in floor chain) (reach (stamp_in held chain)) chain

-- each owner once
abbrev pub AreApart : List PubKey → Type 0
AreApart [] = Unit {0}
AreApart (o ∷ os) = (Contains os o → ⊥) × AreApart os

-- what each batch is: chains of different logs that extend what is held
pub record IsBatch (b : Batch) : Type 0 where
  pub extend : AllByRecursion (λ c. Extends b.held b.floor c.0 c.1) b.chains
  pub apart : AreApart (owners_in b.chains)

-- all its chains were added under that view, with these edges of the logs where they are known
abbrev pub AreUnder : View → (Key → Option Edge) → Batch → Type 0
AreUnder view edges b = AllByRecursion (λ c. GoesOnFrom view (stamp_in b.held c.1) (edges (head_key_of (owner_of c.1))) c.1) b.chains
