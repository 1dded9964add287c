-- What a get brought, and what comes of it.
use Rattle.std.specs.Prelude.{◌≡◌, ◌≢◌, ℕ, ◌-◌, ◌*◌, ◌<◌, ◌≤◌, List, [], ◌∷◌, ◌++◌, Option, Some, None, Result, Ok, Err}
use Rattle.ivy_base.specs.declared.key.Key.{Key}
use Rattle.ivy_base.specs.declared.key.PubKey.{PubKey}
use Rattle.log_model.specs.Vector.{Vector}
use Rattle.dht_ids.specs.declared.ask.Answer.{Answer}
use Rattle.dht_ids.specs.declared.ask.Want.{Want as Next}
use Rattle.dht_ids.specs.declared.peer.Peer.{Peer}
use Rattle.dhash_model.specs.declared.miss.Miss.{Miss}
use Rattle.dhash_client.specs.GetHead.{Judges}
use Rattle.session_model.specs.Brought.{Brought, HeadsOf, BlockOf}
use Rattle.session_model.specs.Refreshing.{FailsBy, Done}
use Rattle.log_fetch.specs.declared.fetch.Fetched.{Fetched}
use Rattle.log_fetch.specs.declared.fetch.State.{State}
use Rattle.log_fetch.specs.declared.fetch.State.TheVariants as state
use Rattle.log_fetch.specs.declared.fetch.Step.{Step}
use Rattle.log_fetch.specs.declared.fetch.Step.TheVariants as step
use Rattle.log_fetch.specs.declared.gather.Stage.{Stage}
use Rattle.log_fetch.specs.declared.gather.Stage.TheVariants as stage
use Rattle.log_fetch.specs.declared.get.Came.{Came}
use Rattle.log_fetch.specs.declared.get.Came.TheVariants as came
use Rattle.log_fetch.specs.declared.get.Get.{Get}
use Rattle.log_fetch.specs.declared.get.Progress.{Progress}
use Rattle.log_fetch.specs.declared.get.Progress.TheVariants as progress
use Rattle.log_fetch.specs.Fetching.{Fetching, FetchHasHeard, FetchIsWanted, IsFor, IsSound, EndsAs, block_in, left_in, most_asks}
use Rattle.log_fetch.specs.Fetching.{with_next}
use Rattle.log_fetch.specs.Gathering.{Gathering, Gathers, heads_wanted, block_wanted, gets_in, noted_at, seen}
use Rattle.log_fetch.specs.Gets.{GetIsAfter, HasCame, IsKept, gets_left}
use Rattle.log_fetch.specs.Standings.{note_of_miss}

-- it is of the kind that is wanted
abbrev pub IsWantedKind : Stage → Came → Type 0
IsWantedKind at (came.Heads given) = heads_wanted at ≢ None
IsWantedKind at (came.Block given) = block_wanted at ≢ None

-- it is this, of what is wanted
abbrev pub CameAs : Stage → Came → Brought → Type 0
CameAs at (came.Heads given) brought = (owner : PubKey) × (heads_wanted at ≡ Some owner) × (brought ≡ HeadsOf owner given)
CameAs at (came.Block given) brought = (key : Key) × (block_wanted at ≡ Some key) × (brought ≡ BlockOf key given)

-- it couldn't be had, for this reason
abbrev pub IsMiss : Came → Miss → Type 0
IsMiss (came.Heads given) miss = given ≡ Err miss
IsMiss (came.Block given) miss = given ≡ Err miss

abbrev pub HasNothing : {T : Type 0} → Result T Miss → Type 0
HasNothing (Ok given) = ⊥
HasNothing (Err miss) = Unit {0}

abbrev pub BroughtNothing : Came → Type 0
BroughtNothing (came.Heads given) = HasNothing given
BroughtNothing (came.Block given) = HasNothing given

-- what is brought next was gathered
abbrev pub GathersMore : Gathering → Came → Gathering → Option (Key × List ℕ) → Type 0
GathersMore old given new back =
    (new.known ≡ old.known)
    × ((start : Vector) (brought : List Brought) (what : Brought) → CameAs old.stage given what → Gathers start brought old
    → Gathers start (brought ++ what ∷ []) new × (back ≡ block_in what))

-- it was gathered, and a block is handed out; or it couldn't be had
abbrev pub Takes : Gathering → Came → Gathering → Step → Type 0
Takes old given new (step.Takes back) = (gets_in new < gets_in old) × GathersMore old given new back
Takes old given new (step.Fails miss) = (new ≡ old) × IsMiss given miss

-- the fetch is over by that miss
abbrev pub FailsWith : Gathering → Miss → Fetched → Type 0
FailsWith g miss given = (given.result ≡ Err miss) × (given.notes ≡ (g.passed.notes ++ noted_at g.stage) ++ note_of_miss miss ∷ [])

-- after what is brought next the fetch goes on, or is over
abbrev pub StandsBehind : {J : Type 0} → Gathering → Came → State J × Option (Key × List ℕ) → Type 0
StandsBehind g given (state.Free after, back) = GathersMore g given after back
StandsBehind g given (state.Asking after x, back) = ⊥
StandsBehind g given (state.Ended fetched, back) =
    (start : Vector) (brought : List Brought) (what : Brought) → CameAs g.stage given what → Gathers start brought g
    → (miss : Miss) × EndsAs (seen g.known) start (brought ++ what ∷ []) fetched (FailsBy miss) × (back ≡ block_in what)
StandsBehind g given (state.Over, back) = ⊥

-- at most what all further gets may ask
abbrev pub LeavesNoMore : {J : Type 0} → Gathering → State J → Type 0
LeavesNoMore g st = left_in st ≤ most_asks * (gets_in g - 1)

-- the get of what is wanted, that has asked nothing yet; none where all members are through
abbrev pub GetsFor : {J : Type 0} → Judges J → J → ℕ → List Peer → Stage → Option (Get J) → Type 0
GetsFor judges judge replicas entries at (Some get) =
    IsFor judge replicas at get × GetIsAfter judges entries [] get × (gets_left get < most_asks)
GetsFor judges judge replicas entries at None = at ≡ stage.Through

-- it waits for its first ask to be heard, or is over with none
abbrev pub BeginsFor : {J : Type 0} → Judges J → J → ℕ → List Peer → Stage → Option (Progress J) → Type 0
BeginsFor {J} judges judge replicas entries at (Some (progress.Waits x)) =
    IsFor judge replicas at x.get × GetIsAfter judges entries [] x.get × IsKept x × (gets_left x.get < most_asks)
BeginsFor {J} judges judge replicas entries at (Some (progress.Comes given)) =
    BroughtNothing given × (get : Get J) × IsFor judge replicas at get × HasCame judges entries [] get given
BeginsFor {J} judges judge replicas entries at None = at ≡ stage.Through

-- all members are through
abbrev pub Finishes : Gathering → Fetched → Type 0
Finishes g given = (start : Vector) (brought : List Brought) → Gathers start brought g → EndsAs (seen g.known) start brought given Done

-- ---- the fetch from one state to the next

-- what it wants then
abbrev pub WantsNext : {J : Type 0} → Judges J → Fetching J → State J → State J × Next Fetched → Type 0
WantsNext judges f old given =
    FetchIsWanted judges (record f { state = old }) (record f { state = given.0; gets = with_next f.gets old }) given.1
    × IsSound f.judge f.replicas given.0 × (left_in given.0 ≤ left_in old)

-- it heard this, and a block is handed out
abbrev pub HearsNext : {J : Type 0} → Judges J → Fetching J → State J → Answer → State J × Option (Key × List ℕ) → Type 0
HearsNext judges f old answer given =
    FetchHasHeard judges (record f { state = old }) (record f { state = given.0 }) answer given.1 × IsSound f.judge f.replicas given.0
    × (left_in given.0 < left_in old)
