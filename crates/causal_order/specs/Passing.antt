-- Taking records one after the other, the least first: what was taken, and what is still to be seen.
use Rattle.std.specs.Prelude.{◌≡◌, ◌⊎◌, IsTrue, List, [], ◌∷◌, ◌++◌, Contains}
use Rattle.std.specs.List.{AllByRecursion}
use Rattle.std.specs.Ordering.{is_lt}
use Rattle.ivy_base.specs.declared.key.PubKey.{PubKey}
use Rattle.log_model.specs.View.{View}
use Rattle.log_model.specs.Vector.{Vector}
use Rattle.log_model.specs.Record.{Record}
use Rattle.log_model.specs.Rank.{record_cmp}
use Rattle.log_model.specs.Closed.{log_of, IsAscending}
use Rattle.causal_order.specs.Over.{HasCauses, IsChainOver, IsClosed}

abbrev pub IsBefore : Record → Record → Type 0
IsBefore r q = IsTrue (is_lt (record_cmp r q))

-- what is left of an owner's chain
pub record Queue : Type 0 where
  pub owner : PubKey
  pub left : List Record

-- no two queues have one owner
abbrev pub AreApart : List Queue → Type 0
AreApart [] = Unit {0}
AreApart (k ∷ ks) = AllByRecursion (λ l. k.owner ≡ l.owner → ⊥) ks × AreApart ks

-- the record stands in one of the queues
pub record IsLeft (queues : List Queue) (r : Record) : Type 0 where
  pub queue : Queue
  pub stands : Contains queues queue
  pub left : Contains queue.left r

-- r is the least record left, and stands at the front of its queue
pub record IsLeast (queues : List Queue) (k : Queue) (r : Record) (rest : List Record) : Type 0 where
  pub stands : Contains queues k
  pub first : k.left ≡ r ∷ rest
  pub least : (q : Record) → IsLeft queues q → (r ≡ q) ⊎ IsBefore r q

-- the set's records were taken, or are still to be seen
abbrev pub IsSeen : List Record → List Queue → List Record → Type 0
IsSeen known queues t = (q : Record) → Contains t q → Contains known q ⊎ IsLeft queues q

-- what stands in the queues goes on from what was taken, which has its causes
pub record IsPassed (view : View) (front : Vector) (known : List Record) (queues : List Queue) : Type 0 where
  pub logs : (owner : PubKey) → IsChainOver view front owner (log_of owner known)
  pub going : (k : Queue) → Contains queues k → IsChainOver view front k.owner (log_of k.owner known ++ k.left)
  pub apart : AreApart queues
  pub owners : AllByRecursion (λ k. Contains view.members k.owner) queues
  pub members : AllByRecursion (λ r. Contains view.members r.owner) known
  pub causes : AllByRecursion (HasCauses view front known) known

-- what was taken, of it the new records, what is left, and that no available closed set has anything else
pub record IsTaken (view : View) (front : Vector) (Available : Record → Type 0) (known out : List Record)
    (queues : List Queue) : Type 0 where
  pub passed : IsPassed view front known queues
  pub hand : (q : Record) → Contains known q → Available q
  pub left_hand : (q : Record) → IsLeft queues q → Available q
  pub seen : (t : List Record) → IsClosed view front t → ((q : Record) → Contains t q → Available q) → IsSeen known queues t
  pub ascending : IsAscending out
  pub below : (q x : Record) → Contains out q → IsLeft queues x → IsBefore q x

-- which queues stand there after one was shortened
pub record IsShortened (queues after : List Queue) (k : Queue) (rest : List Record) : Type 0 where
  pub first : List Queue
  pub last : List Queue
  pub old : queues ≡ first ++ k ∷ last
  pub new : after ≡ first ++ record { owner = k.owner; left = rest } ∷ last
