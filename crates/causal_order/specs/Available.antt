-- What a closed part is taken of: the records that are held, and those of the chains that go on from them.
use Rattle.std.specs.Prelude.{◌≡◌, ℕ, ◌+◌, ◌≤◌, ◌⊎◌, nat_lt, List, [], ◌∷◌, ◌++◌, length, filter, Contains}
use Rattle.std.specs.List.{AllByRecursion}
use Rattle.ivy_base.specs.declared.key.PubKey.{PubKey}
use Rattle.ivy_base.specs.Naming.{head_key_of}
use Rattle.log_model.specs.View.{View}
use Rattle.log_model.specs.Vector.{Vector, seq_of}
use Rattle.log_model.specs.Record.{Record}
use Rattle.log_model.specs.Chain.{IsGood, IsFirst, GoesOn}
use Rattle.log_model.specs.Closed.{log_of, IsAscending}
use Rattle.log_model.specs.Replay.{in_order}
use Rattle.log_model.specs.Fetched.{owner_of}
use Rattle.causal_order.specs.Over.{IsChainOver, IsClosedPart}

-- the number of the newest record that is held of the owner's log; 0 where there is none
abbrev pub held_to : Vector → List Record → PubKey → ℕ
held_to front held owner = seq_of front (head_key_of owner) + length (log_of owner held)

-- the records of a greater number
abbrev pub above : ℕ → List Record → List Record
above n chain = filter (λ r. nat_lt n r.seq) chain

-- the chain's records after those that are held
abbrev pub news : Vector → List Record → PubKey → List Record → List Record
news front held owner chain = above (held_to front held owner) chain

-- the owner's log, as it is held, goes on with the chain's news
abbrev pub Extends : View → Vector → List Record → PubKey → List Record → Type 0
Extends view front held owner chain = IsChainOver view front owner (log_of owner held ++ news front held owner chain)

-- the record is held, or it is news of a chain of its log that extends what is held
abbrev pub IsAvailable : View → Vector → List Record → List (List Record) → Record → Type 0
IsAvailable view front held chains r =
    Contains held r ⊎ ((chain : List Record) × Contains chains chain × Extends view front held r.owner chain
    × Contains (news front held r.owner chain) r)

-- some records of one log: each goes on from the one before it, and a first one opens the log
abbrev pub IsLinked : View → List Record → Type 0
IsLinked view [] = ⊥
IsLinked view (r ∷ rs) = IsGood view r.owner r × (r.seq ≡ 1 → IsFirst r) × GoesOn view r.owner r rs

-- they begin next after that number, or before
abbrev pub BeginsBy : ℕ → List Record → Type 0
BeginsBy n [] = Unit {0}
BeginsBy n (r ∷ rs) = r.seq ≤ n + 1

-- a chain of a member's log that begins next after what is held, or before
pub record IsFetched (view : View) (front : Vector) (held chain : List Record) : Type 0 where
  pub member : Contains view.members (owner_of chain)
  pub linked : IsLinked view chain
  pub near : BeginsBy (held_to front held (owner_of chain)) chain

-- these are the new records of the largest closed part: with what is held they are it
pub record IsNewPart (view : View) (front : Vector) (held : List Record) (chains : List (List Record)) (new : List Record) : Type 0 where
  pub ascending : IsAscending new
  pub fresh : AllByRecursion (λ r. Contains held r → ⊥) new
  -- each of them is in the part: none has the rank of a held record, which would stand there in its place
  pub within : AllByRecursion (λ r. Contains (in_order (held ++ new)) r) new
  pub largest : IsClosedPart view front (IsAvailable view front held chains) (in_order (held ++ new))
