-- What a refresh wants, hears and is given, by the definitions of a refresh.
use Rattle.std.specs.Prelude.{◌≡◌, ◌≢◌, ◌⊎◌, ℕ, Bool, true, false, List, [], ◌∷◌, ◌++◌, Contains, Option, Some, None, Ok, Err, IfSome}
use Rattle.ivy_base.specs.declared.key.Key.{Key}
use Rattle.ivy_base.specs.declared.key.PubKey.{PubKey}
use Rattle.dht_ids.specs.Asked.{told}
use Rattle.dht_ids.specs.declared.ask.Answer.{Answer}
use Rattle.dht_ids.specs.declared.ask.Ask.{Ask}
use Rattle.dht_ids.specs.declared.ask.Ask.TheVariants as ask
use Rattle.dht_ids.specs.declared.ask.Heard.{Heard}
use Rattle.dht_ids.specs.declared.ask.Want.{Want as Next}
use Rattle.dht_ids.specs.declared.ask.Want.TheVariants as next
use Rattle.dht_ids.specs.declared.judge.Judged.{Judged}
use Rattle.dht_ids.specs.declared.peer.Peer.{Peer}
use Rattle.dhash_model.specs.declared.miss.Miss.{Miss}
use Rattle.dhash_client.specs.GetHead.{Judges}
use Rattle.log_records.specs.Batches.{Batch, AreUnder, owners_in}
use Rattle.agent_model.specs.Standing as agent
use Rattle.session_model.specs.Asking.{AsksNext}
use Rattle.session_model.specs.Brought.{Brought, BlockOf, Part, WantedOfRing, Content, brought_in}
use Rattle.session_model.specs.Refreshing.{Note, RefreshEnd, Needs, FailsBy, Done, Refreshes}
use Rattle.session_model.specs.Sessions.{Gets, IsGet, pending_block, wanted_key}
use Rattle.log_fetch.specs.declared.refresh.Refresh.{Refresh}
use Rattle.log_fetch.specs.Edges.{edge_in}
use Rattle.log_fetch.specs.Fetching.{block_in, is_miss}
use Rattle.log_fetch.specs.Standings.{notes_of, refresh_of}
use Rattle.view_refresh.specs.declared.refresh.Refreshed.{Refreshed}
use Rattle.view_refresh.specs.States.{Refreshing, IsSameRefresh, has_failed, refresh_awaited, refresh_wanted}
use Rattle.view_refresh.specs.Behind.{RefreshIsAfter}

-- ---- how it stands

-- what was brought came to this
pub record Stands (s : agent.Standing) (parts : List Part) (end : RefreshEnd) : Type 0 where
  pub notes : List Note
  pub given : agent.Refresh
  pub refreshes : Refreshes s (brought_in parts) notes given end

-- The refresh asks that node next, for what is wanted.
pub record AsksFor (judged : Key → List ℕ → Option Judged) (replicas : ℕ) (entries : List Peer) (s : agent.Standing) (parts : List Part)
    (current : List Heard) (node : Peer) (question : Ask) : Type 0 where
  pub want : WantedOfRing
  pub needed : Stands s parts (Needs want)
  pub next : AsksNext (wanted_key want) (ask.Get (wanted_key want)) (IsGet judged replicas entries want) current node question

-- ---- what it wants

-- the batch is with the floor, of members' logs, and each chain was tested under the view
pub record IsBatchFor (s : agent.Standing) (b : Batch) : Type 0 where
  pub floor : b.floor ≡ s.floor
  pub under : AreUnder s.view (edge_in s.edges) b
  pub members : (owner : PubKey) → Contains (owners_in b.chains) owner → Contains s.view.members owner

-- all was brought, and this is given
pub record Brings (s : agent.Standing) (parts : List Part) (given : Refreshed) : Type 0 where
  pub notes : List Note
  pub refresh : Refresh
  pub refreshes : Refreshes s (brought_in parts) notes (refresh_of refresh) Done
  pub result : given.result ≡ Ok refresh
  pub noted : given.notes ≡ notes_of notes None
  pub batch : IsBatchFor s refresh.batch

-- something needed couldn't be had
pub record Fails (s : agent.Standing) (parts : List Part) (given : Refreshed) : Type 0 where
  pub miss : Miss
  pub notes : List Note
  pub refresh : agent.Refresh
  pub refreshes : Refreshes s (brought_in parts) notes refresh (FailsBy miss)
  pub result : given.result ≡ Err miss
  pub noted : given.notes ≡ notes_of notes (Some miss)

-- nobody is known to ask for what is wanted
pub record HasNoRoute (entries : List Peer) (s : agent.Standing) (parts : List Part) (given : Refreshed) : Type 0 where
  pub none : entries ≡ []
  pub want : WantedOfRing
  pub needed : Stands s parts (Needs want)
  pub miss : Miss
  pub missed : given.result ≡ Err miss

-- how it is over: it has failed, or it hasn't
abbrev pub Ends : Bool → List Peer → agent.Standing → List Part → Refreshed → Type 0
Ends true entries s parts given = Fails s parts given
Ends false entries s parts given = Brings s parts given ⊎ HasNoRoute entries s parts given

-- what it wants: to ask a node, which is then to be heard, or nothing more
abbrev pub RefreshIsWanted : {J : Type 0} → Judges J → Refreshing J → Refreshing J → Next Refreshed → Type 0
RefreshIsWanted judges old new (next.Ask node question) =
    IsSameRefresh old new × (refresh_awaited new ≡ Some (node, question)) × (has_failed new ≡ false)
    × ((s : agent.Standing) (parts : List Part) (current : List Heard) → RefreshIsAfter judges s parts current old
    → RefreshIsAfter judges s parts current new × AsksFor (judges old.judge) old.replicas old.entries s parts current node question)
RefreshIsWanted judges old new (next.Done given) =
    (s : agent.Standing) (parts : List Part) (current : List Heard) → RefreshIsAfter judges s parts current old
    → (refresh_awaited old ≡ None) × (current ≡ []) × Ends (has_failed old) old.entries s parts given

-- ---- it hears

-- the get goes on, after these asks, which are no whole one
pub record GoesOn {J : Type 0} (judges : Judges J) (s : agent.Standing) (parts : List Part) (asks : List Heard) (want : WantedOfRing)
    (new : Refreshing J) (given : Option (Key × List ℕ)) : Type 0 where
  pub waits : refresh_awaited new ≢ None
  pub unfailed : has_failed new ≡ false
  pub after : RefreshIsAfter judges s parts asks new
  pub not_whole : IsGet (judges new.judge) new.replicas new.entries want asks → ⊥
  pub none : given ≡ None

-- these asks are a whole get, which is the next part; a block that it brought is given back
pub record IsOver {J : Type 0} (judges : Judges J) (s : agent.Standing) (parts : List Part) (asks : List Heard) (want : WantedOfRing)
    (new : Refreshing J) (given : Option (Key × List ℕ)) : Type 0 where
  pub brought : Brought
  pub gets : Gets (judges new.judge) new.replicas new.entries want asks brought
  pub waits : refresh_awaited new ≡ None
  pub after : RefreshIsAfter judges s (parts ++ record { brought = brought; asks = asks } ∷ []) [] new
  pub block : given ≡ block_in brought

-- the node that was to be heard was heard: its ask and answer are the next of the get on its way, which goes on or is over
abbrev pub RefreshHasHeard : {J : Type 0} → Judges J → Refreshing J → Refreshing J → Answer → Option (Key × List ℕ) → Type 0
RefreshHasHeard judges old new answer given =
    IsSameRefresh old new
    × ((s : agent.Standing) (parts : List Part) (current : List Heard) (node : Peer) (question : Ask)
    → refresh_awaited old ≡ Some (node, question) → RefreshIsAfter judges s parts current old
    → (asks : AsksFor (judges old.judge) old.replicas old.entries s parts current node question)
    × (GoesOn judges s parts (current ++ told node question answer) asks.want new given
    ⊎ IsOver judges s parts (current ++ told node question answer) asks.want new given))

-- the block that was wanted is a part, which took no ask
abbrev pub RefreshWasGiven : {J : Type 0} → Judges J → Refreshing J → Refreshing J → List ℕ → Type 0
RefreshWasGiven judges old new bytes =
    IsSameRefresh old new × (refresh_awaited new ≡ None) × (has_failed new ≡ false)
    × ((s : agent.Standing) (parts : List Part) (current : List Heard) (key : Key) → refresh_wanted old ≡ Some key
    → RefreshIsAfter judges s parts current old
    → (current ≡ []) × Stands s parts (Needs (Content key))
    × RefreshIsAfter judges s (parts ++ record { brought = BlockOf key (Ok bytes); asks = [] } ∷ []) [] new)

-- a block that is pending was wanted, and was taken; or none that is wanted is pending, and it is the same
abbrev pub TakesPending : {J : Type 0} → Judges J → Refreshing J → Refreshing J → Bool → Type 0
TakesPending judges old new true =
    (key : Key) × (bytes : List ℕ) × (refresh_wanted old ≡ Some key) × (pending_block key old.pending ≡ Some bytes)
    × RefreshWasGiven judges old new bytes
TakesPending judges old new false = (new ≡ old) × IfSome (refresh_wanted old) (λ key. pending_block key old.pending ≡ None)

-- ---- laws

-- what was brought came to a miss exactly where it failed
abbrev pub RefreshStands : {J : Type 0} → Judges J → Type 0
RefreshStands {J} judges =
    (r : Refreshing J) (s : agent.Standing) (parts : List Part) (current : List Heard) → RefreshIsAfter judges s parts current r
    → (end : RefreshEnd) × Stands s parts end × (is_miss end ≡ has_failed r)

-- where no node is to be heard, a block that is wanted by what was brought is the one that is to be got next
abbrev pub RefreshWants : {J : Type 0} → Judges J → Type 0
RefreshWants {J} judges =
    (r : Refreshing J) (s : agent.Standing) (parts : List Part) (current : List Heard) (key : Key) → RefreshIsAfter judges s parts current r
    → refresh_awaited r ≡ None → has_failed r ≡ false
    → Stands s parts (Needs (Content key)) → refresh_wanted r ≡ Some key
