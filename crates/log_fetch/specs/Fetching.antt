-- The fetch of all members with its gets: how far it has come.
use Rattle.std.specs.Prelude.{◌≡◌, ◌≢◌, ◌⊎◌, ℕ, ◌+◌, ◌-◌, ◌*◌, ◌^◌, ◌≤◌, min, Bool, true, false, List, [], ◌∷◌, ◌++◌, map, Contains, Option}
use Rattle.std.specs.Prelude.{Some, None, Ok, Err, if◌then◌else◌}
use Rattle.ivy_base.specs.declared.key.Key.{Key}
use Rattle.ivy_base.specs.declared.key.PubKey.{PubKey}
use Rattle.log_model.specs.Vector.{Vector}
use Rattle.log_model.specs.View.{most_members}
use Rattle.dht_ids.specs.Asked.{told}
use Rattle.dht_ids.specs.declared.ask.Answer.{Answer}
use Rattle.dht_ids.specs.declared.ask.Ask.{Ask}
use Rattle.dht_ids.specs.declared.ask.Heard.{Heard}
use Rattle.dht_ids.specs.declared.ask.Want.{Want as Next}
use Rattle.dht_ids.specs.declared.ask.Want.TheVariants as next
use Rattle.dht_ids.specs.declared.judge.Judged.{Judged}
use Rattle.dht_ids.specs.declared.peer.Peer.{Peer}
use Rattle.dhash_model.specs.declared.miss.Miss.{Miss}
use Rattle.dhash_client.specs.GetHead.{Judges}
use Rattle.log_records.specs.Batches.{Batch, AreUnder, owners_in}
use Rattle.agent_model.specs.Standing as agent
use Rattle.agent_model.specs.Standing.{chain_of}
use Rattle.session_model.specs.Brought.{Brought, HeadsOf, BlockOf, Part, WantedOfRing, Heads, Content, brought_in}
use Rattle.session_model.specs.Refreshing as session
use Rattle.session_model.specs.Refreshing.{RefreshEnd, Needs, FailsBy, Done, FetchesAll}
use Rattle.session_model.specs.Sessions.{Gets}
use Rattle.log_fetch.specs.declared.fetch.Fetched.{Fetched}
use Rattle.log_fetch.specs.declared.fetch.State.{State}
use Rattle.log_fetch.specs.declared.fetch.State.TheVariants as state
use Rattle.log_fetch.specs.declared.gather.Known.{Known}
use Rattle.log_fetch.specs.declared.gather.Stage.{Stage}
use Rattle.log_fetch.specs.declared.get.Get.{Get}
use Rattle.log_fetch.specs.declared.get.Get.TheVariants as get
use Rattle.log_fetch.specs.Counting.{gets_of, most_gets}
use Rattle.log_fetch.specs.Edges.{edge_in}
use Rattle.log_fetch.specs.Gathering.{Gathers, heads_wanted, block_wanted, gets_in, is_wanting, seen}
use Rattle.log_fetch.specs.Gets.{GetIsAfter, get_awaited, gets_left}
use Rattle.log_fetch.specs.Standings.{notes_of}

-- ---- the state

-- by which judge, from how many owners and from which nodes on it gets, how far it is, and how many heads and records it began to get
pub record Fetching (J : Type 0) : Type 0 where
  pub judge : J
  pub replicas : ℕ
  pub entries : List Peer
  pub state : State J
  pub gets : ℕ

abbrev pub IsSameFetch : {J : Type 0} → Fetching J → Fetching J → Type 0
IsSameFetch old new = (new.judge ≡ old.judge) × (new.replicas ≡ old.replicas) × (new.entries ≡ old.entries)

abbrev pub awaited_in : {J : Type 0} → State J → Option (Peer × Ask)
awaited_in (state.Free g) = None
awaited_in (state.Asking g x) = get_awaited x.get
awaited_in (state.Ended fetched) = None
awaited_in state.Over = None

-- the node to be heard, and what it is asked
abbrev pub fetch_awaited : {J : Type 0} → Fetching J → Option (Peer × Ask)
fetch_awaited f = awaited_in f.state

abbrev pub free_block : {J : Type 0} → State J → Option Key
free_block (state.Free g) = block_wanted g.stage
free_block (state.Asking g x) = None
free_block (state.Ended fetched) = None
free_block state.Over = None

-- the block that is to be got next, where no get is on its way
abbrev pub fetch_wanted : {J : Type 0} → Fetching J → Option Key
fetch_wanted f = free_block f.state

-- what a get is for
abbrev pub aim : {J : Type 0} → Get J → WantedOfRing
aim (get.Heads owner s) = Heads owner
aim (get.Block s) = Content s.execution.look.key

abbrev pub aim_in : {J : Type 0} → State J → Option WantedOfRing
aim_in (state.Free g) = None
aim_in (state.Asking g x) = Some (aim x.get)
aim_in (state.Ended fetched) = None
aim_in state.Over = None

-- what the get on its way is for
abbrev pub fetch_aim : {J : Type 0} → Fetching J → Option WantedOfRing
fetch_aim f = aim_in f.state

abbrev pub failed_in : {J : Type 0} → State J → Bool
failed_in (state.Free g) = false
failed_in (state.Asking g x) = false
failed_in (state.Ended fetched) = true
failed_in state.Over = false

-- something couldn't be had, and the result waits to be told
abbrev pub is_failed : {J : Type 0} → Fetching J → Bool
is_failed f = failed_in f.state

-- the get on its way, as a count
abbrev pub in_progress : {J : Type 0} → State J → ℕ
in_progress (state.Free g) = 0
in_progress (state.Asking g x) = 1
in_progress (state.Ended fetched) = 0
in_progress state.Over = 0

-- a get begins next: no other is on its way, and something is wanted
abbrev pub begins_in : {J : Type 0} → State J → Bool
begins_in (state.Free g) = is_wanting g.stage
begins_in (state.Asking g x) = false
begins_in (state.Ended fetched) = false
begins_in state.Over = false

-- a count of gets stays at the greatest number of 64 bits
abbrev pub counted : ℕ → ℕ
counted gets = min gets (2 ^ 64 - 1)

-- so many gets were begun, with the one that begins next
abbrev pub with_next : {J : Type 0} → ℕ → State J → ℕ
with_next gets old = if begins_in old then counted (gets + 1) else gets

-- It began to get these parts, but for those that were given, and the get on its way.
abbrev pub HasBegun : {J : Type 0} → Fetching J → List Part → Type 0
HasBegun f parts = f.gets ≡ counted (gets_of parts + in_progress f.state)

-- more asks than a get that begins may make
unfoldable pub most_asks : ℕ
most_asks = 2 ^ 64 + 513

abbrev pub left_in : {J : Type 0} → State J → ℕ
left_in (state.Free g) = most_asks * gets_in g
left_in (state.Asking g x) = gets_left x.get + most_asks * (gets_in g - 1)
left_in (state.Ended fetched) = 0
left_in state.Over = 0

-- counted from above, how many asks the fetch may still make
abbrev pub fetch_left : {J : Type 0} → Fetching J → ℕ
fetch_left f = left_in f.state

-- more than a fetch that begins may make: a view has few members
unfoldable pub most_left : ℕ
most_left = most_asks * ((most_members + 1) * (2 + 2 ^ 96))

-- ---- what always holds

-- the get is for what is wanted, by that judge and from so many owners
abbrev pub IsFor : {J : Type 0} → J → ℕ → Stage → Get J → Type 0
IsFor judge replicas at (get.Heads owner s) = (heads_wanted at ≡ Some owner) × (s.judge ≡ judge) × (s.execution.replicas ≡ replicas)
IsFor judge replicas at (get.Block s) = (block_wanted at ≡ Some s.execution.look.key) × (s.execution.replicas ≡ replicas)

abbrev pub IsSound : {J : Type 0} → J → ℕ → State J → Type 0
IsSound judge replicas (state.Free g) = Unit {0}
IsSound judge replicas (state.Asking g x) = IsFor judge replicas g.stage x.get × (get_awaited x.get ≡ Some (x.node, x.question))
IsSound judge replicas (state.Ended fetched) = Unit {0}
IsSound judge replicas state.Over = Unit {0}

-- ---- after what was brought

module _ (judged : Key → List ℕ → Option Judged) (replicas : ℕ) (entries : List Peer) (s : agent.Standing) (start : Vector) where
  -- this is wanted next
  abbrev pub IsNeeded : List Part → WantedOfRing → Type 0
  IsNeeded parts want = (notes : List session.Note) × (chains : List agent.Chain)
      × FetchesAll (record { standing = s; start = start }) s.view.members (brought_in parts) notes chains (Needs want)

  -- each part came of what was wanted then: by the asks of a whole get, or by none, where it is a block that was available
  pub data AreParts : List Part → Type 0 where
    no_parts : AreParts []
    was_got : (parts : List Part) (want : WantedOfRing) (asks : List Heard) (brought : Brought) → AreParts parts → IsNeeded parts want
        → Gets judged replicas entries want asks brought
        → AreParts (parts ++ record { brought = brought; asks = asks } ∷ [])
    was_given : (parts : List Part) (key : Key) (bytes : List ℕ) → AreParts parts → IsNeeded parts (Content key)
        → AreParts (parts ++ record { brought = BlockOf key (Ok bytes); asks = [] } ∷ [])

-- as far as the fetch knows it, it is this standing
abbrev pub IsSeen : agent.Standing → Known → Type 0
IsSeen s k = seen k ≡ record s { held = []; to_load = None; pending = [] }

-- what is given at the end
abbrev pub IsGiven : agent.Standing → Vector → Fetched → List session.Note → List agent.Chain → RefreshEnd → Type 0
IsGiven s start given notes chains (Needs want) = ⊥
IsGiven s start given notes chains (FailsBy miss) = (given.result ≡ Err miss) × (given.notes ≡ notes_of notes (Some miss))
IsGiven s start given notes chains Done =
    (batch : Batch) × (given.result ≡ Ok batch) × (batch.held ≡ start) × (batch.floor ≡ s.floor) × (map chain_of batch.chains ≡ chains)
    × AreUnder s.view (edge_in s.edges) batch
    × ((owner : PubKey) → Contains (owners_in batch.chains) owner → Contains s.view.members owner) × (given.notes ≡ notes_of notes None)

-- what was brought came to this end, by which this is given
abbrev pub EndsAs : agent.Standing → Vector → List Brought → Fetched → RefreshEnd → Type 0
EndsAs s start brought given end =
    (notes : List session.Note) × (chains : List agent.Chain)
    × FetchesAll (record { standing = s; start = start }) s.view.members brought notes chains end × IsGiven s start given notes chains end

-- after these asks of the get on its way, or none without one
abbrev pub IsAsking : {J : Type 0} → Judges J → List Peer → agent.Standing → Vector → List Brought → List Heard → State J → Type 0
IsAsking judges entries s start brought current (state.Free g) = IsSeen s g.known × Gathers start brought g × (current ≡ [])
IsAsking judges entries s start brought current (state.Asking g x) =
    IsSeen s g.known × Gathers start brought g × GetIsAfter judges entries current x.get
IsAsking judges entries s start brought current (state.Ended fetched) =
    (current ≡ []) × (miss : Miss) × EndsAs s start brought fetched (FailsBy miss)
IsAsking judges entries s start brought current state.Over = ⊥

-- It may be in this state, of a fetch for that standing over that start, after these parts and the asks of the get on its way.
pub record FetchIsAfter {J : Type 0} (judges : Judges J) (s : agent.Standing) (start : Vector) (parts : List Part) (current : List Heard)
    (f : Fetching J) : Type 0 where
  pub whole : AreParts (judges f.judge) f.replicas f.entries s start parts
  pub asking : IsAsking judges f.entries s start (brought_in parts) current f.state
  pub sound : IsSound f.judge f.replicas f.state
  pub begun : HasBegun f parts

-- ---- what it wants

-- a get goes on or begins, for exactly what is wanted next; the parts and the asks stay
abbrev pub Leads : {J : Type 0} → Judges J → Fetching J → Fetching J → Type 0
Leads judges old new =
    (s : agent.Standing) (start : Vector) (parts : List Part) (current : List Heard) → FetchIsAfter judges s start parts current old
    → FetchIsAfter judges s start parts current new × (want : WantedOfRing) × (fetch_aim new ≡ Some want)
    × IsNeeded (judges new.judge) new.replicas new.entries s start parts want

-- these are all parts: where nobody may be asked, one comes last that took no ask
abbrev pub AreAll : (Key → List ℕ → Option Judged) → ℕ → List Peer → agent.Standing → Vector → List Part → List Part → Type 0
AreAll judged replicas entries s start parts all =
    (all ≡ parts) ⊎ ((entries ≡ []) × (want : WantedOfRing) × IsNeeded judged replicas entries s start parts want × (brought : Brought)
    × Gets judged replicas entries want [] brought
    × (all ≡ parts ++ record { brought = brought; asks = [] } ∷ []))

-- all that was wanted was brought, or something couldn't be had; and so many gets it began
abbrev pub Ends : {J : Type 0} → Judges J → Fetching J → Fetching J → Fetched → Type 0
Ends judges old new given =
    (s : agent.Standing) (start : Vector) (parts : List Part) (current : List Heard) → FetchIsAfter judges s start parts current old
    → (current ≡ []) × (all : List Part) × AreAll (judges old.judge) old.replicas old.entries s start parts all
    × AreParts (judges old.judge) old.replicas old.entries s start all
    × (end : RefreshEnd) × EndsAs s start (brought_in all) given end × HasBegun new all

-- what it wants: to ask a node, which is then to be heard, or nothing more
abbrev pub FetchIsWanted : {J : Type 0} → Judges J → Fetching J → Fetching J → Next Fetched → Type 0
FetchIsWanted judges old new (next.Ask node question) =
    IsSameFetch old new × (fetch_awaited new ≡ Some (node, question)) × Leads judges old new
FetchIsWanted judges old new (next.Done given) = Ends judges old new given

-- ---- it hears

-- the content block that was brought
abbrev pub block_in : Brought → Option (Key × List ℕ)
block_in (HeadsOf owner came) = None
block_in (BlockOf key (Ok bytes)) = Some (key, bytes)
block_in (BlockOf key (Err miss)) = None

-- the get goes on, after these asks
abbrev pub GetGoesOn : {J : Type 0} → Judges J → agent.Standing → Vector → List Part → List Heard → WantedOfRing → Fetching J
    → Option (Key × List ℕ) → Type 0
GetGoesOn judges s start parts asks want new given =
    (fetch_aim new ≡ Some want) × (fetch_awaited new ≢ None) × FetchIsAfter judges s start parts asks new × (given ≡ None)

-- these asks are a whole get, which is the next part; the block that it brought is given back
abbrev pub GetIsOver : {J : Type 0} → Judges J → agent.Standing → Vector → List Part → List Heard → WantedOfRing → Fetching J → Fetching J
    → Option (Key × List ℕ) → Type 0
GetIsOver judges s start parts asks want old new given =
    (brought : Brought) × Gets (judges old.judge) old.replicas old.entries want asks brought × (fetch_awaited new ≡ None)
    × FetchIsAfter judges s start (parts ++ record { brought = brought; asks = asks } ∷ []) [] new × (given ≡ block_in brought)

-- the node that was to be heard was heard: its ask and answer are the next of the get on its way, which goes on or is over
abbrev pub FetchHasHeard : {J : Type 0} → Judges J → Fetching J → Fetching J → Answer → Option (Key × List ℕ) → Type 0
FetchHasHeard judges old new answer given =
    IsSameFetch old new
    × ((s : agent.Standing) (start : Vector) (parts : List Part) (current : List Heard) (node : Peer) (question : Ask)
    → fetch_awaited old ≡ Some (node, question) → FetchIsAfter judges s start parts current old
    → (want : WantedOfRing) × (fetch_aim old ≡ Some want) × IsNeeded (judges old.judge) old.replicas old.entries s start parts want
    × (GetGoesOn judges s start parts (current ++ told node question answer) want new given
    ⊎ GetIsOver judges s start parts (current ++ told node question answer) want old new given))

-- the block that was wanted is a part, which took no ask
abbrev pub FetchWasGiven : {J : Type 0} → Judges J → Fetching J → Fetching J → List ℕ → Type 0
FetchWasGiven judges old new bytes =
    IsSameFetch old new
    × ((s : agent.Standing) (start : Vector) (parts : List Part) (current : List Heard) (key : Key) → fetch_wanted old ≡ Some key
    → FetchIsAfter judges s start parts current old
    → (current ≡ []) × IsNeeded (judges old.judge) old.replicas old.entries s start parts (Content key)
    × FetchIsAfter judges s start (parts ++ record { brought = BlockOf key (Ok bytes); asks = [] } ∷ []) [] new)

-- ---- it fails

abbrev pub is_miss : RefreshEnd → Bool
is_miss (Needs want) = false
is_miss (FailsBy miss) = true
is_miss Done = false

-- without a node to be heard, what was brought came to a miss exactly where it failed, and else to what is wanted next, or to its end
abbrev pub HasFailed : {J : Type 0} → Judges J → Fetching J → Bool → Type 0
HasFailed judges f failed =
    (s : agent.Standing) (start : Vector) (parts : List Part) (current : List Heard) → FetchIsAfter judges s start parts current f
    → fetch_awaited f ≡ None
    → (current ≡ []) × (notes : List session.Note) × (chains : List agent.Chain) × (end : RefreshEnd)
    × FetchesAll (record { standing = s; start = start }) s.view.members (brought_in parts) notes chains end × (is_miss end ≡ failed)

-- ---- how many gets it began

-- While a get is on its way, the end is that what it is for is wanted; so it is for whatever fetch this is (`FetchStands`).
abbrev pub HasFewGets : {J : Type 0} → Fetching J → ℕ → Type 0
HasFewGets f gets =
    (s : agent.Standing) (start : Vector) (parts : List Part) → HasBegun f parts
    → (notes : List session.Note) (chains : List agent.Chain) (end : RefreshEnd)
    (fetches : FetchesAll (record { standing = s; start = start }) s.view.members (brought_in parts) notes chains end)
    → ((want : WantedOfRing) → fetch_aim f ≡ Some want → end ≡ Needs want)
    → gets ≤ most_gets (record { standing = s; start = start }) s.view.members fetches

-- ---- a law

-- what was brought came to some end; while a get is on its way, to that what it is for is wanted
abbrev pub FetchStands : {J : Type 0} → Judges J → Type 0
FetchStands {J} judges =
    (f : Fetching J) (s : agent.Standing) (start : Vector) (parts : List Part) (current : List Heard)
    → FetchIsAfter judges s start parts current f
    → (notes : List session.Note) × (chains : List agent.Chain) × (end : RefreshEnd)
    × FetchesAll (record { standing = s; start = start }) s.view.members (brought_in parts) notes chains end
    × ((want : WantedOfRing) → fetch_aim f ≡ Some want → end ≡ Needs want)
