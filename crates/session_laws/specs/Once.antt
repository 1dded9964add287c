-- What was brought tells how a refresh stands.
use Rattle.std.specs.Prelude.{◌≡◌, ℕ, List}
use Rattle.ivy_base.specs.declared.key.PubKey.{PubKey}
use Rattle.log_model.specs.Vector.{Vector}
use Rattle.agent_model.specs.Standing.{Standing, Chain, Refresh}
use Rattle.session_model.specs.Brought.{Brought}
use Rattle.session_model.specs.Refreshing.{Note, RefreshEnd, FetchesAll, Refreshes}

-- A refresh is deterministic: what it was brought determines what is noted, what it gives and how it stands. By the bytes alone: names may
-- collide.
abbrev pub RefreshIsDeterministic : Type 0
RefreshIsDeterministic = (s : Standing) (brought : List Brought) (notes others : List Note) (given also : Refresh) (end stand : RefreshEnd)
    → Refreshes s brought notes given end → Refreshes s brought others also stand → (notes ≡ others) × (given ≡ also) × (end ≡ stand)

-- So has the fetch that is its part: what was brought of these logs tells what is noted, which chains there are and how the fetch stands.
abbrev pub FetchIsDeterministic : Type 0
FetchIsDeterministic = (s : Standing) (start : Vector) (owners : List PubKey) (brought : List Brought) (notes others : List Note)
    (chains also : List Chain) (end stand : RefreshEnd)
    → FetchesAll (record { standing = s; start = start }) owners brought notes chains end
    → FetchesAll (record { standing = s; start = start }) owners brought others also stand
    → (notes ≡ others) × (chains ≡ also) × (end ≡ stand)
