-- How many heads and records a fetch began to get, and how many these are at most.
use Rattle.std.specs.Prelude.{◌≡◌, ℕ, ◌+◌, ◌-◌, ◌≤◌, Bool, true, false, not, List, [], ◌∷◌, length, take, sum_by, Ok, Err}
use Rattle.std.specs.List.{count_by}
use Rattle.std.specs.Str.{bytes_eq}
use Rattle.ivy_base.specs.declared.key.PubKey.{PubKey}
use Rattle.ivy_base.specs.Naming.{head_key_of}
use Rattle.log_model.specs.Vector.{Stamp, seq_of}
use Rattle.log_model.specs.declared.chain_fault.ChainFault.{ChainFault}
use Rattle.dht_ids.specs.declared.ask.Heard.{Heard}
use Rattle.agent_model.specs.Standing as agent
use Rattle.session_model.specs.Brought.{Brought, HeadsOf, BlockOf, Part, brought_in}
use Rattle.session_model.specs.Refreshing as session
use Rattle.session_model.specs.Refreshing.{FetchBase, Fetches, FetchesAll, RefreshEnd, Needs, FailsBy, Done}
use Rattle.session_model.specs.Refreshing.Fetches.{wants_heads, no_heads, of_heads, of_own}
use Rattle.session_model.specs.Refreshing.FetchesAll.{all, stays, goes_on}
use Rattle.session_model.specs.Walks.{LogEnd, Lacks, Stops, Gives, GivesNone}

-- ---- what was got

-- It came of a get. A block that was brought by no ask was available.
abbrev pub came_of_get : Brought → List Heard → Bool
came_of_get (HeadsOf owner came) asks = true
came_of_get (BlockOf key (Err miss)) asks = true
came_of_get (BlockOf key (Ok bytes)) [] = false
came_of_get (BlockOf key (Ok bytes)) (heard ∷ asks) = true

-- how many of the parts were got
abbrev pub gets_of : List Part → ℕ
gets_of parts = count_by (λ p. came_of_get p.brought p.asks) parts

-- ---- the bound

-- how many members have another key than the own one
abbrev pub other_members : PubKey → List PubKey → ℕ
other_members own members = count_by (λ m. not (bytes_eq m.0 own.0)) members

-- how many of a log's heads were tried: those that were passed over, and one more unless none was left
abbrev pub tries : List ChainFault → LogEnd → ℕ
tries faults (Lacks want) = length faults + 1
tries faults (Stops miss) = length faults + 1
tries faults (Gives records) = length faults + 1
tries faults GivesNone = length faults

-- added up over these heads, each one's number less the one held
abbrev pub above_held : ℕ → List Stamp → ℕ
above_held held heads = sum_by (λ t. t.seq - held) heads

module _ (over : FetchBase) where
  -- how far a log is held
  abbrev pub held_of : PubKey → ℕ
  held_of owner = seq_of over.start (head_key_of owner)

  -- the floor's number of a log less the one held
  abbrev pub floor_above : PubKey → ℕ
  floor_above owner = seq_of over.standing.floor (head_key_of owner) - held_of owner

  -- Of one log: over its heads that were tried, each one's number less the one held. The floor's own record, tried after them, is no head.
  abbrev pub tried_above : (owner : PubKey) {brought : List Brought} {notes : List session.Note} {log : LogEnd}
      → Fetches over owner brought notes log → ℕ
  tried_above owner (wants_heads other) = 0
  tried_above owner (no_heads miss other) = 0
  tried_above owner (of_heads heads tried brought faults log other are tries_are) =
      above_held (held_of owner) (take (tries faults log) tried)
  tried_above owner (of_own brought faults log own tries_are) = 0

  -- of all logs that were come to
  abbrev pub all_tried_above : {owners : List PubKey} {brought : List Brought} {notes : List session.Note} {chains : List agent.Chain}
      {end : RefreshEnd} → FetchesAll over owners brought notes chains end → ℕ
  all_tried_above all = 0
  all_tried_above (stays {owner = owner} log is) = tried_above owner log
  all_tried_above (goes_on {owner = owner} log is rest) = tried_above owner log + all_tried_above rest

  -- No more heads and records than these are got: the members other than the own log; over all members, the floor's number less the one
  -- held; and over the heads that were tried, each head's number less the one held.
  abbrev pub most_gets : (owners : List PubKey) {brought : List Brought} {notes : List session.Note} {chains : List agent.Chain}
      {end : RefreshEnd} → FetchesAll over owners brought notes chains end → ℕ
  most_gets owners fetches = other_members over.standing.own owners + sum_by floor_above owners + all_tried_above fetches

-- one get more is to come where something is wanted
abbrev pub to_come : RefreshEnd → ℕ
to_come (Needs want) = 1
to_come (FailsBy miss) = 0
to_come Done = 0

-- Whatever the parts were brought by, what was got of them is within the bound, with the get that is to come.
abbrev pub GetsAreFew : Type 0
GetsAreFew =
    (over : FetchBase) (owners : List PubKey) (parts : List Part) (notes : List session.Note) (chains : List agent.Chain) (end : RefreshEnd)
    (fetches : FetchesAll over owners (brought_in parts) notes chains end)
    → gets_of parts + to_come end ≤ most_gets over owners fetches
