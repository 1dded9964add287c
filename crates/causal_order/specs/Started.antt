-- How a pass starts: what is held of each member's log, and which fetched chains go on from it.
use Rattle.std.specs.Prelude.{◌≡◌, ℕ, ◌<◌, List, [], ◌∷◌, ◌++◌, length, slice_index_or, slice_set, Option, Some, None, Contains}
use Rattle.std.specs.List.{AllByRecursion}
use Rattle.ivy_base.specs.declared.key.PubKey.{PubKey}
use Rattle.log_model.specs.View.{View}
use Rattle.log_model.specs.Vector.{Stamp, Vector, Dominates}
use Rattle.log_model.specs.Record.{Record}
use Rattle.log_model.specs.Rank.{full_vector}
use Rattle.log_model.specs.Closed.{log_of}
use Rattle.log_model.specs.Fetched.{owner_of}
use Rattle.log_records.specs.Records.{records_of}
use Rattle.causal_order.specs.Over.{IsChainOver}
use Rattle.causal_order.specs.Available.{news, Extends}
use Rattle.causal_order.specs.declared.log.Log.{Log}
use Rattle.causal_order.specs.Kept.{IsKept}

-- the record names the stamp's, where there is one
abbrev pub Names : Option Stamp → Record → Type 0
Names None r = Unit {0}
Names (Some s) r = r.prev ≡ s.name

-- the record names the last of these, and where there are none the stamp's
abbrev pub NamesNewest : Option Stamp → List Record → Record → Type 0
NamesNewest s [] r = Names s r
NamesNewest s (p ∷ []) r = r.prev ≡ p.name
NamesNewest s (p ∷ q ∷ rs) r = NamesNewest s (q ∷ rs) r

-- the record knows all that the last of these does
abbrev pub KnowsNewest : List Record → Record → Type 0
KnowsNewest [] r = Unit {0}
KnowsNewest (p ∷ []) r = Dominates (full_vector r) (full_vector p)
KnowsNewest (p ∷ q ∷ rs) r = KnowsNewest (q ∷ rs) r

-- the record goes on from these, or from the stamp's
abbrev pub Joins : Option Stamp → List Record → Record → Type 0
Joins s rs r = NamesNewest s rs r × KnowsNewest rs r

-- no two chains have one owner
abbrev pub HaveOwnOwners : List (List Record) → Type 0
HaveOwnOwners [] = Unit {0}
HaveOwnOwners (c ∷ cs) = AllByRecursion (λ d. owner_of c ≡ owner_of d → ⊥) cs × HaveOwnOwners cs

-- the owner's log, with nothing that is still to be seen
pub record IsHeldLog (front : Vector) (held : List Record) (owner : PubKey) (l : Log) : Type 0 where
  pub owned : l.owner ≡ owner
  pub kept : IsKept front held l
  pub empty : l.queue.items ≡ []

-- of these chains, the log has the news of the one that extends it still to be seen, and no more
pub record HasQueued (view : View) (front : Vector) (held : List Record) (chains : List (List Record)) (l : Log) : Type 0 where
  pub kept : IsKept front held l
  pub going : IsChainOver view front l.owner (log_of l.owner held ++ records_of l.queue.items)
  pub hand : (q : Record) → Contains (records_of l.queue.items) q
      → (chain : List Record) × Contains chains chain × Extends view front held l.owner chain × Contains (news front held l.owner chain) q
  pub all : (chain : List Record) → Contains chains chain → Extends view front held l.owner chain → (q : Record)
      → Contains (news front held l.owner chain) q → Contains (records_of l.queue.items) q

-- one log, of the chain's owner, has what it has of that chain still to be seen; the others are as they were
pub record TakesIn (view : View) (front : Vector) (held chain : List Record) (old new : List Log) : Type 0 where
  pub place : ℕ
  pub log : Log
  pub within : place < length old
  pub owned : log.owner ≡ owner_of chain
  pub was : (slice_index_or old place log).owner ≡ owner_of chain
  pub queued : HasQueued view front held (chain ∷ []) log
  pub set : new ≡ slice_set old place log
