-- A refresh in code: what it waits for, what it wants, and how much is left of it.
use Rattle.std.specs.Prelude.{◌≡◌, ℕ, ◌+◌, ◌-◌, ◌*◌, Bool, true, false, List, Option, Some, None}
use Rattle.std.specs.List.{AllByRecursion}
use Rattle.ivy_base.specs.declared.key.Key.{Key}
use Rattle.dht_ids.specs.declared.ask.Ask.{Ask}
use Rattle.dht_ids.specs.declared.ask.Heard.{Heard}
use Rattle.dht_ids.specs.declared.peer.Peer.{Peer}
use Rattle.dht_ids.specs.declared.post.Post.{Post}
use Rattle.dhash_client.specs.GetBlock.{BlockIsAfter}
use Rattle.agent_model.specs.SavedBytes.{HasItsName}
use Rattle.snapshot_model.specs.Reading.{Root}
use Rattle.session_model.specs.Refreshing.{LoadWants}
use Rattle.snapshot_loading.specs.Loading.{ComesTo, load_left, most_of, wanted_of}
use Rattle.log_fetch.specs.declared.get.Get.{Get}
use Rattle.log_fetch.specs.declared.get.Get.TheVariants as get
use Rattle.log_fetch.specs.declared.get.Waiting.{Waiting}
use Rattle.log_fetch.specs.Fetching.{fetch_awaited, fetch_left, fetch_wanted, is_failed, most_asks, most_left}
use Rattle.log_fetch.specs.Gets.{IsKept, get_awaited, gets_left}
use Rattle.view_refresh.specs.declared.refresh.Loading.{Loading}
use Rattle.view_refresh.specs.declared.refresh.State.{State}
use Rattle.view_refresh.specs.declared.refresh.State.TheVariants as state

-- by which judge, from how many owners and from which nodes on it gets, which posts are available, and how far it is
pub record Refreshing (J : Type 0) : Type 0 where
  pub judge : J
  pub replicas : ℕ
  pub entries : List Peer
  pub pending : List Post
  pub state : State J

abbrev pub IsSameRefresh : {J : Type 0} → Refreshing J → Refreshing J → Type 0
IsSameRefresh old new = (new.judge ≡ old.judge) × (new.replicas ≡ old.replicas) × (new.entries ≡ old.entries) × (new.pending ≡ old.pending)

-- ---- what it waits for and wants

abbrev pub awaited_in : {J : Type 0} → State J → Option (Peer × Ask)
awaited_in (state.Loading l) = None
awaited_in (state.Asking l x) = get_awaited x.get
awaited_in (state.Fetching basis f) = fetch_awaited f
awaited_in state.Over = None

-- the node to be heard, and what it is asked
abbrev pub refresh_awaited : {J : Type 0} → Refreshing J → Option (Peer × Ask)
refresh_awaited r = awaited_in r.state

abbrev pub wanted_in : {J : Type 0} → State J → Option Key
wanted_in (state.Loading l) = wanted_of l.load
wanted_in (state.Asking l x) = None
wanted_in (state.Fetching basis f) = fetch_wanted f
wanted_in state.Over = None

-- the block that is to be got next, where no get is on its way
abbrev pub refresh_wanted : {J : Type 0} → Refreshing J → Option Key
refresh_wanted r = wanted_in r.state

abbrev pub loads_in : {J : Type 0} → State J → Bool
loads_in (state.Loading l) = true
loads_in (state.Asking l x) = true
loads_in (state.Fetching basis f) = false
loads_in state.Over = false

-- a snapshot is on its way
abbrev pub is_loading : {J : Type 0} → Refreshing J → Bool
is_loading r = loads_in r.state

abbrev pub failed_in : {J : Type 0} → State J → Bool
failed_in (state.Loading l) = false
failed_in (state.Asking l x) = false
failed_in (state.Fetching basis f) = is_failed f
failed_in state.Over = false

-- something that is needed couldn't be had, and the result waits to be told
abbrev pub has_failed : {J : Type 0} → Refreshing J → Bool
has_failed r = failed_in r.state

-- ---- how much is left

abbrev pub left_in : {J : Type 0} → State J → ℕ
left_in (state.Loading l) = most_left + most_asks * load_left l.load
left_in (state.Asking l x) = most_left + gets_left x.get + most_asks * (load_left l.load - 1)
left_in (state.Fetching basis f) = fetch_left f
left_in state.Over = 0

-- counted from above, how many asks the refresh may still make
abbrev pub refresh_left : {J : Type 0} → Refreshing J → ℕ
refresh_left r = left_in r.state

-- more than a refresh that begins may make
unfoldable pub most_refresh : ℕ
most_refresh = most_left + most_asks * most_of Root + 1

-- ---- what always holds

-- a get of that block, from so many owners, that has made some asks from these nodes on
abbrev pub IsGetOf : {J : Type 0} → ℕ → List Peer → Key → Get J → Type 0
IsGetOf replicas entries key (get.Heads owner s) = ⊥
IsGetOf replicas entries key (get.Block s) =
    (s.execution.look.key ≡ key) × (s.execution.replicas ≡ replicas) × (trail : List Heard) × BlockIsAfter entries trail s

-- the snapshot wants that block next, by what was brought of it
pub record IsInProgress (l : Loading) : Type 0 where
  pub key : Key
  pub wanted : wanted_of l.load ≡ Some key
  pub comes : ComesTo l.load (LoadWants key)

-- the get is of the block that the snapshot wants, and its ask is kept
pub record IsForLoad {J : Type 0} (replicas : ℕ) (entries : List Peer) (l : Loading) (x : Waiting J) : Type 0 where
  pub wants : IsInProgress l
  pub is_get : IsGetOf replicas entries wants.key x.get
  pub kept : IsKept x

abbrev pub IsSound : {J : Type 0} → J → ℕ → List Peer → State J → Type 0
IsSound judge replicas entries (state.Loading l) = IsInProgress l
IsSound judge replicas entries (state.Asking l x) = IsForLoad replicas entries l x
IsSound judge replicas entries (state.Fetching basis f) = (f.judge ≡ judge) × (f.replicas ≡ replicas) × (f.entries ≡ entries)
IsSound judge replicas entries state.Over = Unit {0}

-- what is for the parts of the refresh; while a snapshot is loaded, each block among the posts has its name
pub record HoldsAlways {J : Type 0} (r : Refreshing J) : Type 0 where
  pub sound : IsSound r.judge r.replicas r.entries r.state
  pub named : loads_in r.state ≡ true → AllByRecursion HasItsName r.pending
