-- The refresh from one state to the next, and what its parts do.
use Rattle.std.specs.Prelude.{◌≡◌, ℕ, ◌+◌, ◌-◌, ◌*◌, ◌<◌, ◌≤◌, Bool, true, false, List, [], ◌∷◌, ◌++◌, Option, Some, None, Result, Ok, Err}
use Rattle.std.specs.List.{AllByRecursion}
use Rattle.ivy_base.specs.declared.key.Key.{Key}
use Rattle.log_model.specs.Vector.{Vector}
use Rattle.dht_ids.specs.declared.ask.Answer.{Answer}
use Rattle.dht_ids.specs.declared.ask.Heard.{Heard}
use Rattle.dht_ids.specs.declared.ask.Want.{Want as Next}
use Rattle.dht_ids.specs.declared.peer.Peer.{Peer}
use Rattle.dht_ids.specs.declared.post.Post.{Post}
use Rattle.dhash_model.specs.declared.miss.Miss.{Miss}
use Rattle.dhash_client.specs.GetHead.{Judges}
use Rattle.turn_model.specs.Basis.{Basis}
use Rattle.fs_tree.specs.declared.basis.Basis.{Basis as Kept}
use Rattle.log_records.specs.Batches.{Batch}
use Rattle.agent_model.specs.SavedBytes.{HasItsName}
use Rattle.agent_model.specs.Standing as agent
use Rattle.session_model.specs.Brought.{BlockOf, Part, brought_in}
use Rattle.session_model.specs.Refreshing.{Loaded, LoadsFor}
use Rattle.session_model.specs.Sessions.{pending_block}
use Rattle.snapshot_loading.specs.Loading.{load_left, wanted_of}
use Rattle.log_fetch.specs.declared.fetch.Fetched.{Fetched}
use Rattle.log_fetch.specs.declared.get.Progress.{Progress}
use Rattle.log_fetch.specs.declared.get.Progress.TheVariants as progress
use Rattle.log_fetch.specs.declared.refresh.Refresh.{Refresh}
use Rattle.log_fetch.specs.declared.standing.Standing.{Standing}
use Rattle.log_fetch.specs.Fetching.{Fetching, FetchIsAfter, block_in, fetch_awaited, fetch_left, most_asks, most_left}
use Rattle.log_fetch.specs.Gets.{GetIsAfter, IsKept, gets_left}
use Rattle.log_fetch.specs.Standings.{standing_of}
use Rattle.log_fetch.specs.Stepping.{BroughtNothing}
use Rattle.view_refresh.specs.declared.refresh.Loading.{Loading}
use Rattle.view_refresh.specs.declared.refresh.Refreshed.{Refreshed}
use Rattle.view_refresh.specs.declared.refresh.State.{State}
use Rattle.view_refresh.specs.declared.refresh.State.TheVariants as state
use Rattle.view_refresh.specs.States.{Refreshing, IsGetOf, IsSound, awaited_in, failed_in, left_in, loads_in, wanted_in}
use Rattle.view_refresh.specs.Behind.{IsAt, IsLoadingFor}
use Rattle.view_refresh.specs.Steps.{RefreshHasHeard, RefreshIsWanted, RefreshWasGiven}

-- ---- it comes to a state

-- In that state it waits for no node and hasn't failed, at most so much is left of it, and it may be after such parts.
pub record IsFree {J : Type 0} (judges : Judges J) (judge : J) (replicas : ℕ) (entries : List Peer) (most : ℕ)
    (AreBehind : agent.Standing → List Part → Type 0) (st : State J) : Type 0 where
  pub sound : IsSound judge replicas entries st
  pub free : awaited_in st ≡ None
  pub unfailed : failed_in st ≡ false
  pub left : left_in st ≤ most
  pub at : (s : agent.Standing) (parts : List Part) → AreBehind s parts → IsAt judges entries s parts [] st

-- that much of the standing is kept where what is pending is kept beside it
abbrev pub IsStandingOf : Standing → agent.Standing → Type 0
IsStandingOf k s = standing_of k ≡ record s { to_load = None; pending = [] }

-- none yet, where that is the snapshot to load
abbrev pub AreFirst : Standing → Option Key → agent.Standing → List Part → Type 0
AreFirst k root s parts = IsStandingOf k s × (s.to_load ≡ root) × (parts ≡ [])

-- those that the snapshot was brought so far
abbrev pub AreOfLoad : Loading → agent.Standing → List Part → Type 0
AreOfLoad l s parts = IsLoadingFor s parts l

-- those, and what came of the block that it wanted then
abbrev pub AreOfOneMore : Loading → Result (List ℕ) Miss → agent.Standing → List Part → Type 0
AreOfOneMore l came s all =
    (parts : List Part) × (asks : List Heard) × (key : Key) × (wanted_of l.load ≡ Some key) × IsLoadingFor s parts l
    × (all ≡ parts ++ record { brought = BlockOf key came; asks = asks } ∷ [])

-- those by which the snapshot came to that
abbrev pub AreLoaded : Standing → Option Basis → agent.Standing → List Part → Type 0
AreLoaded k whole s parts = IsStandingOf k s × LoadsFor s.to_load (brought_in parts) (Loaded whole)

-- ---- the fetch starts

-- the front of that basis, where there is one
abbrev pub held_over : Vector → Option Kept → Vector
held_over held None = held
held_over held (Some b) = b.front

-- the fetch of all logs over what that standing holds, which was brought nothing
pub record IsStarted {J : Type 0} (judges : Judges J) (judge : J) (replicas : ℕ) (entries : List Peer) (k : Standing) (basis : Option Kept)
    (st : State J) : Type 0 where
  pub fetch : Fetching J
  pub state_is : st ≡ state.Fetching basis fetch
  pub judge_is : fetch.judge ≡ judge
  pub replicas_are : fetch.replicas ≡ replicas
  pub entries_are : fetch.entries ≡ entries
  pub started : FetchIsAfter judges (standing_of k) k.held [] [] fetch
  pub free : fetch_awaited fetch ≡ None
  pub left : fetch_left fetch < most_left

-- ---- a get of a block of the snapshot

-- it waits for its first ask to be heard; or it is over with none, since nobody is known
abbrev pub BeginsGet : {J : Type 0} → Judges J → ℕ → List Peer → Key → Progress J → Type 0
BeginsGet judges replicas entries key (progress.Waits x) =
    IsGetOf replicas entries key x.get × GetIsAfter judges entries [] x.get × IsKept x × (gets_left x.get < most_asks)
BeginsGet judges replicas entries key (progress.Comes given) = BroughtNothing given × (entries ≡ [])

-- of the block that is wanted
abbrev pub BeginsWanted : {J : Type 0} → Judges J → ℕ → List Peer → Loading → Progress J → Type 0
BeginsWanted judges replicas entries l p = (key : Key) → wanted_of l.load ≡ Some key → BeginsGet judges replicas entries key p

-- something couldn't be had
abbrev pub GivesMiss : Refreshed → Type 0
GivesMiss given = (miss : Miss) × (given.result ≡ Err miss)

-- ---- its result

abbrev pub result_over : Option Kept → Result Batch Miss → Result Refresh Miss
result_over basis (Ok batch) = Ok (record { batch = batch; basis = basis })
result_over basis (Err miss) = Err miss

-- what was fetched, over that basis
abbrev pub refreshed_over : Option Kept → Fetched → Refreshed
refreshed_over basis fetched = record { result = result_over basis fetched.result; notes = fetched.notes }

-- ---- from one state to the next

-- the refresh in that state
abbrev pub in_state : {J : Type 0} → Refreshing J → State J → Refreshing J
in_state r st = record r { state = st }

-- what always holds does, and no snapshot is then on its way where none was
abbrev pub KeepsSound : {J : Type 0} → Refreshing J → State J → State J → Type 0
KeepsSound r old new = IsSound r.judge r.replicas r.entries new × (loads_in new ≡ true → loads_in old ≡ true)

-- what it wants then
abbrev pub WantsNext : {J : Type 0} → Judges J → Refreshing J → State J → State J × Next Refreshed → Type 0
WantsNext judges r old given = RefreshIsWanted judges (in_state r old) (in_state r given.0) given.1 × KeepsSound r old given.0
    × (left_in given.0 ≤ left_in old)

-- it heard this, and a block is handed out
abbrev pub HearsNext : {J : Type 0} → Judges J → Refreshing J → State J → Answer → State J × Option (Key × List ℕ) → Type 0
HearsNext judges r old answer given =
    RefreshHasHeard judges (in_state r old) (in_state r given.0) answer given.1 × KeepsSound r old given.0 × (left_in given.0 < left_in old)

-- it was given the block that it wanted
abbrev pub GivesNext : {J : Type 0} → Judges J → Refreshing J → State J → List ℕ → State J → Type 0
GivesNext judges r old bytes new =
    RefreshWasGiven judges (in_state r old) (in_state r new) bytes × KeepsSound r old new × (left_in new < left_in old)

-- it was given that of the posts, where it is among them
abbrev pub TakesNext : {J : Type 0} → Judges J → Refreshing J → State J → State J × Bool → Type 0
TakesNext judges r old (new, true) =
    (key : Key) × (bytes : List ℕ) × (wanted_in old ≡ Some key) × (pending_block key r.pending ≡ Some bytes)
    × GivesNext judges r old bytes new
TakesNext judges r old (new, false) = (new ≡ old) × ((key : Key) → wanted_in old ≡ Some key → pending_block key r.pending ≡ None)

-- each block among the posts has its name, while a snapshot is loaded
abbrev pub AreNamed : {J : Type 0} → State J → List Post → Type 0
AreNamed st posts = loads_in st ≡ true → AllByRecursion HasItsName posts

-- the same for whatever refresh has that state: of a fetch alone, which knows nothing of the refresh
abbrev pub FetchWantsNext : {J : Type 0} → Judges J → Option Kept → Fetching J → State J × Next Refreshed → Type 0
FetchWantsNext {J} judges basis f given =
    (r : Refreshing J) → IsSound r.judge r.replicas r.entries (state.Fetching basis f) → WantsNext judges r (state.Fetching basis f) given

abbrev pub FetchHearsNext : {J : Type 0} → Judges J → Option Kept → Fetching J → Answer → State J × Option (Key × List ℕ) → Type 0
FetchHearsNext {J} judges basis f answer given =
    (r : Refreshing J) → IsSound r.judge r.replicas r.entries (state.Fetching basis f)
    → HearsNext judges r (state.Fetching basis f) answer given

abbrev pub FetchGivesNext : {J : Type 0} → Judges J → Option Kept → Fetching J → List ℕ → State J → Type 0
FetchGivesNext {J} judges basis f bytes new =
    (r : Refreshing J) → IsSound r.judge r.replicas r.entries (state.Fetching basis f)
    → GivesNext judges r (state.Fetching basis f) bytes new

-- what came of the block that the snapshot wanted was taken, and a block is handed out
abbrev pub LoadTakesNext : {J : Type 0} → Judges J → Refreshing J → Loading → Result (List ℕ) Miss → State J × Option (Key × List ℕ)
    → Type 0
LoadTakesNext judges r l came given =
    IsFree judges r.judge r.replicas r.entries (most_left + most_asks * (load_left l.load - 1)) (AreOfOneMore l came) given.0
    × ((key : Key) → wanted_of l.load ≡ Some key → given.1 ≡ block_in (BlockOf key came))
