-- What is left of a refresh falls.
use Rattle.std.proofs.Common.{◌≡◌, ℕ, ◌+◌, ◌-◌, ◌*◌, ◌<◌, ◌≤◌, List, [], ◌∷◌, Some, arith}
use Rattle.ivy_base.specs.declared.key.Key.{Key}
use Rattle.snapshot_model.specs.Reading.{Root}
use Rattle.snapshot_loading.specs.Loading.{Loading, first_key, load_left, most_in, most_of, wanted_of}
use Rattle.snapshot_loading.specs.Roles.{part_of, parts_of}
use Rattle.snapshot_loading.specs.declared.role.Wanted.{Wanted}
use Rattle.snapshot_loading.proofs.Left.{some_of}
use Rattle.log_fetch.specs.Fetching.{most_asks, most_left}
use Rattle.log_fetch.proofs.Falling.{begins as get_begins, fewer as fewer_still, fewer_gets, some_asks}
use Rattle.view_refresh.specs.States.{most_refresh}

-- a block is still to be read where one is wanted
some_in : (todo : List Wanted) (key : Key) → first_key todo ≡ Some key → 0 < most_in (parts_of todo)
some_in [] key e = cc e
some_in (w ∷ todo) key e = let some = some_of (part_of w.role) in omega (arith, some)

pub some_to_load : (l : Loading) (key : Key) → wanted_of l ≡ Some key → 0 < load_left l
some_to_load l key e = some_in l.todo key e

module _ (rest : ℕ) where
  -- a get of a block of the snapshot begins
  pub begins : (gets left : ℕ) → 0 < left → gets < most_asks → rest + gets + most_asks * (left - 1) ≤ rest + most_asks * left
  begins gets left some less = let b = get_begins most_asks left gets some less in omega (arith, b)

  -- goes on
  pub goes_on : (gets before others : ℕ) → gets < before → rest + gets + others < rest + before + others
  goes_on gets before others less = omega (arith, less)

  -- is over
  pub is_over : (gets then_left others : ℕ) → then_left ≤ rest + others → 0 < gets → then_left < rest + gets + others
  is_over gets then_left others less some = omega (arith, less, some)

  -- or was none, since the block was available
  pub is_given : (then_left left : ℕ) → then_left ≤ rest + most_asks * (left - 1) → 0 < left → then_left < rest + most_asks * left
  is_given then_left left less some = let f = fewer_gets most_asks (left - 1) left some_asks (omega (arith, some)) in omega (arith, less, f)

  -- then fewer are to be read
  pub fewer : (left before : ℕ) → left < before → rest + most_asks * left ≤ rest + most_asks * (before - 1)
  fewer left before less = let f = fewer_still most_asks left before less in omega (arith, f)

pub less_or_same : (a b : ℕ) → a < b → a ≤ b
less_or_same a b less = omega (arith, less)

pub fits : (a b c : ℕ) → a ≤ b → b ≤ c → a ≤ c
fits a b c f g = omega (arith, f, g)

pub more : (a b : ℕ) → a ≤ a + b
more a b = omega arith

-- a refresh that begins
pub first_left : (left : ℕ) → left ≤ most_left + most_asks * most_of Root → left < most_refresh
unfolding most_refresh
first_left left less = omega (arith, less)
