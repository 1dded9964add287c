-- One get of what a refresh wants, on its way.
use Rattle.std.specs.Prelude.{◌≡◌, ℕ, ◌<◌, ◌≤◌, List, ◌++◌, Option, Some}
use Rattle.ivy_base.specs.declared.key.Key.{Key}
use Rattle.ivy_base.specs.Naming.{head_key_of}
use Rattle.dht_ids.specs.Asked.{told}
use Rattle.dht_ids.specs.declared.ask.Answer.{Answer}
use Rattle.dht_ids.specs.declared.ask.Ask.{Ask}
use Rattle.dht_ids.specs.declared.ask.Ask.TheVariants as ask
use Rattle.dht_ids.specs.declared.ask.Heard.{Heard}
use Rattle.dht_ids.specs.declared.ask.Want.{Want}
use Rattle.dht_ids.specs.declared.ask.Want.TheVariants as want
use Rattle.dht_ids.specs.declared.judge.Judged.{Judged}
use Rattle.dht_ids.specs.declared.peer.Peer.{Peer}
use Rattle.dhash_client.specs.Execution.{asks_left, IsSameExecution}
use Rattle.dhash_client.specs.GetBlock.{BlockIsAfter, block_awaited}
use Rattle.dhash_client.specs.GetHead.{Judges, HeadIsAfter, IsSameHead, head_awaited}
use Rattle.session_model.specs.Brought.{HeadsOf, BlockOf, Heads, Content}
use Rattle.session_model.specs.Sessions.{Gets}
use Rattle.log_fetch.specs.declared.get.Get.{Get}
use Rattle.log_fetch.specs.declared.get.Get.TheVariants as get
use Rattle.log_fetch.specs.declared.get.Came.{Came}
use Rattle.log_fetch.specs.declared.get.Came.TheVariants as came
use Rattle.log_fetch.specs.declared.get.Progress.{Progress}
use Rattle.log_fetch.specs.declared.get.Progress.TheVariants as progress
use Rattle.log_fetch.specs.declared.get.Waiting.{Waiting}

-- how many asks it may still make
abbrev pub gets_left : {J : Type 0} → Get J → ℕ
gets_left (get.Heads owner s) = asks_left s.execution
gets_left (get.Block s) = asks_left s.execution

-- the node to be heard, and what it is asked
abbrev pub get_awaited : {J : Type 0} → Get J → Option (Peer × Ask)
get_awaited (get.Heads owner s) = head_awaited s
get_awaited (get.Block s) = block_awaited s

-- what gets ask
abbrev pub IsOfGet : Ask → Type 0
IsOfGet (ask.Route key) = Unit {0}
IsOfGet ask.Near = ⊥
IsOfGet (ask.Notify peer) = ⊥
IsOfGet (ask.Get key) = Unit {0}
IsOfGet (ask.PutBlock key bytes) = ⊥
IsOfGet (ask.PutHead key bytes) = ⊥

-- it may be in this state after this trail
abbrev pub GetIsAfter : {J : Type 0} → Judges J → List Peer → List Heard → Get J → Type 0
GetIsAfter judges entries trail (get.Heads owner s) = HeadIsAfter judges entries trail s × (s.execution.look.key ≡ head_key_of owner)
GetIsAfter judges entries trail (get.Block s) = BlockIsAfter entries trail s

-- what is got, from how many owners, and by which judge is the same
abbrev pub IsSameGet : {J : Type 0} → Get J → Get J → Type 0
IsSameGet (get.Heads owner s) (get.Heads other t) = (other ≡ owner) × IsSameHead s t
IsSameGet (get.Block s) (get.Block t) = IsSameExecution s.execution t.execution
IsSameGet _ _ = ⊥

-- its trail is a whole get, which brings this
abbrev pub HasCame : {J : Type 0} → Judges J → List Peer → List Heard → Get J → Came → Type 0
HasCame judges entries trail (get.Heads owner s) (came.Heads heads) =
    Gets (judges s.judge) s.execution.replicas entries (Heads owner) trail (HeadsOf owner heads)
HasCame judges entries trail (get.Block s) (came.Block block) =
    (judged : Key → List ℕ → Option Judged)
    → Gets judged s.execution.replicas entries (Content s.execution.look.key) trail (BlockOf s.execution.look.key block)
HasCame judges entries trail _ _ = ⊥

-- what it wants: to ask a node, which is then to be heard, or nothing more, since its trail is a whole get
abbrev pub GetIsWanted : {J : Type 0} → Judges J → Get J → Get J → Want Came → Type 0
GetIsWanted judges old new (want.Ask node question) =
    IsSameGet old new × (get_awaited new ≡ Some (node, question))
    × ((entries : List Peer) (trail : List Heard) → GetIsAfter judges entries trail old → GetIsAfter judges entries trail new)
GetIsWanted judges old new (want.Done given) =
    (entries : List Peer) (trail : List Heard) → GetIsAfter judges entries trail old → HasCame judges entries trail old given

-- the node that was to be heard was heard: its ask and answer are the next of the trail
abbrev pub GetHasHeard : {J : Type 0} → Judges J → Get J → Get J → Answer → Type 0
GetHasHeard judges old new given =
    IsSameGet old new
    × ((entries : List Peer) (trail : List Heard) (node : Peer) (question : Ask) → get_awaited old ≡ Some (node, question)
    → GetIsAfter judges entries trail old → GetIsAfter judges entries (trail ++ told node question given) new)

-- it brings what it is a get of: heads or a block
abbrev pub IsOfKind : {J : Type 0} → Get J → Want Came → Type 0
IsOfKind (get.Heads owner s) (want.Done (came.Block block)) = ⊥
IsOfKind (get.Block s) (want.Done (came.Heads heads)) = ⊥
IsOfKind _ _ = Unit {0}

-- ---- from one ask to the next

-- the ask that is to be heard is kept
abbrev pub IsKept : {J : Type 0} → Waiting J → Type 0
IsKept x = get_awaited x.get ≡ Some (x.node, x.question)

-- it waits for its next ask to be heard, or is over
abbrev pub GoesTo : {J : Type 0} → Judges J → Get J → Progress J → Type 0
GoesTo judges old (progress.Waits x) =
    IsSameGet old x.get × IsKept x × (gets_left x.get ≤ gets_left old)
    × ((entries : List Peer) (trail : List Heard) → GetIsAfter judges entries trail old → GetIsAfter judges entries trail x.get)
GoesTo judges old (progress.Comes given) =
    IsOfKind old (want.Done given)
    × ((entries : List Peer) (trail : List Heard) → GetIsAfter judges entries trail old → HasCame judges entries trail old given)

-- the ask was heard: it is the next of the trail
abbrev pub HearsTo : {J : Type 0} → Judges J → Get J → Answer → Progress J → Type 0
HearsTo judges old answer (progress.Waits x) = GetHasHeard judges old x.get answer × IsKept x × (gets_left x.get < gets_left old)
HearsTo judges old answer (progress.Comes given) =
    IsOfKind old (want.Done given) × (0 < gets_left old)
    × ((entries : List Peer) (trail : List Heard) (node : Peer) (question : Ask) → get_awaited old ≡ Some (node, question)
    → GetIsAfter judges entries trail old → HasCame judges entries (trail ++ told node question answer) old given)
