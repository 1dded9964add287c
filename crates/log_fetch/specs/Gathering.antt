-- How far the fetch of all members has come.
use Rattle.std.specs.Prelude.{◌≡◌, ◌≢◌, ℕ, ◌+◌, ◌-◌, ◌*◌, ◌^◌, ◌<◌, ◌≤◌, Bool, true, false, List, [], ◌∷◌, ◌++◌, length, map, take, drop}
use Rattle.std.specs.Prelude.{Contains, Option, Some, None, Ok}
use Rattle.ivy_base.specs.declared.key.Key.{Key}
use Rattle.ivy_base.specs.declared.key.PubKey.{PubKey}
use Rattle.ivy_base.specs.Naming.{head_key_of}
use Rattle.log_model.specs.Vector.{Stamp, Vector, stamp_at, seq_of}
use Rattle.log_model.specs.View.{IsView}
use Rattle.dht_ids.specs.declared.judge.Judged.{Judged}
use Rattle.log_model.specs.declared.chain_fault.ChainFault.TheVariants as fault
use Rattle.log_model.specs.declared.chain_fault.ChainFault.{ChainFault}
use Rattle.log_records.specs.Batches.{Batch, AreUnder, owners_in}
use Rattle.agent_model.specs.Standing as agent
use Rattle.agent_model.specs.Standing.{chain_of}
use Rattle.session_model.specs.Brought.{Brought, HeadsOf, BlockOf, stamp_of}
use Rattle.session_model.specs.Refreshing as session
use Rattle.session_model.specs.Refreshing.{RefreshEnd, FetchesAll}
use Rattle.session_model.specs.Walks.{Tries, LogEnd}
use Rattle.log_fetch.specs.declared.trial.Settled.{Settled}
use Rattle.log_fetch.specs.declared.trial.Settled.TheVariants as settled
use Rattle.log_fetch.specs.Order.{AreToTry}
use Rattle.log_fetch.specs.Walking.{wanted_of}
use Rattle.log_fetch.specs.Trying.{Trying, HasTried, GivesTo, trial_left}
use Rattle.log_fetch.specs.declared.gather.Known.{Known}
use Rattle.log_fetch.specs.declared.gather.Passed.{Passed}
use Rattle.log_fetch.specs.declared.gather.Stage.{Stage}
use Rattle.log_fetch.specs.declared.gather.Stage.TheVariants as stage
use Rattle.log_fetch.specs.declared.note.Note.{Note}
use Rattle.log_fetch.specs.declared.note.Note.TheVariants as note
use Rattle.log_fetch.specs.declared.standing.Standing.{Standing}
use Rattle.log_fetch.specs.Edges.{edge_in}
use Rattle.log_fetch.specs.Standings.{note_of}

-- ---- the state

-- what a fetch goes by, of a standing
abbrev pub known_of : Standing → Known
known_of s = record { view = s.view; own = s.own; floor = s.floor; edges = s.edges }

-- a standing of which that much is known
abbrev pub seen : Known → agent.Standing
seen k = record { view = k.view; own = k.own; floor = k.floor; held = []; edges = k.edges; to_load = None; pending = [] }

pub record Gathering : Type 0 where
  pub known : Known
  pub passed : Passed
  pub stage : Stage

-- of this, with so many members through, at that stage
abbrev pub gathering_of : Known → Passed → Stage → Gathering
gathering_of k p at = record { known = k; passed = p; stage = at }

-- with no member through
abbrev pub none_passed : Vector → Vector → Passed
none_passed held floor = record { batch = record { held = held; floor = floor; chains = [] }; notes = []; at = 0 }

-- whose heads are wanted
abbrev pub heads_wanted : Stage → Option PubKey
heads_wanted (stage.Heads owner) = Some owner
heads_wanted (stage.Log t) = None
heads_wanted stage.Through = None

-- the block that is wanted
abbrev pub block_wanted : Stage → Option Key
block_wanted (stage.Heads owner) = None
block_wanted (stage.Log t) = wanted_of t.walk
block_wanted stage.Through = None

-- something is wanted
abbrev pub is_wanting : Stage → Bool
is_wanting (stage.Heads owner) = true
is_wanting (stage.Log t) = true
is_wanting stage.Through = false

-- ---- how much may still be wanted

-- of the member in progress: its heads, and fewer than `2 ^ 96` blocks
abbrev pub stage_left : Stage → ℕ
stage_left (stage.Heads owner) = 1 + 2 ^ 96
stage_left (stage.Log t) = trial_left t
stage_left stage.Through = 0

-- no more heads and blocks than these may still be wanted: of the member in progress, and of those after it
abbrev pub gets_in : Gathering → ℕ
gets_in g = stage_left g.stage + (2 + 2 ^ 96) * (length g.known.view.members - (g.passed.at + 1))

-- of a log that waits for a block, or is through
abbrev pub waits_left : Option Trying → ℕ
waits_left None = 0
waits_left (Some t) = trial_left t

-- ---- after what was brought

-- the heads of the member that were brought, where it isn't the own one, and what there is to try by them
pub data HeadsCame (s : agent.Standing) (start : Vector) (owner : PubKey) : List Brought → List Stamp → Type 0 where
  of_own : (all : List Stamp) → owner ≡ s.own → AreToTry [] (stamp_at s.floor (head_key_of owner)) (seq_of start (head_key_of owner)) all
      → HeadsCame s start owner [] all
  of_other : (heads : List Judged) (all : List Stamp) → owner ≢ s.own
      → AreToTry (map stamp_of heads) (stamp_at s.floor (head_key_of owner)) (seq_of start (head_key_of owner)) all
      → HeadsCame s start owner (HeadsOf owner (Ok heads) ∷ []) all

-- how the member in progress stands, after this was brought for it, of the members that are left
pub data StandsSo (s : agent.Standing) (start : Vector) : List PubKey → List Brought → Stage → Type 0 where
  wants_heads : (owner : PubKey) (owners : List PubKey) → owner ≢ s.own → StandsSo s start (owner ∷ owners) [] (stage.Heads owner)
  wants_block : (owner : PubKey) (owners : List PubKey) (came walked : List Brought) (all : List Stamp) (t : Trying)
      → HeadsCame s start owner came all → t.walk.left ≢ 0 → t.walk.owner ≡ owner
      → HasTried s.view owner start s.floor (edge_in s.edges (head_key_of owner)) all walked t
      → StandsSo s start (owner ∷ owners) (came ++ walked) (stage.Log t)
  all_through : StandsSo s start [] [] stage.Through

-- So many of the members are through, with these chains and notes: whatever becomes of those that are left, it becomes of all after what
-- was brought for the ones before.
pub record HasPassed (k : Known) (start : Vector) (brought : List Brought) (p : Passed) : Type 0 where
  pub started : p.batch.held ≡ start
  pub noted : List session.Note
  pub notes_are : p.notes ≡ map note_of noted
  pub goes_on : {more : List Brought} {others : List session.Note} {chains : List agent.Chain} {end : RefreshEnd}
      → FetchesAll (record { standing = seen k; start = start }) (drop p.at k.view.members) more others chains end
      → FetchesAll (record { standing = seen k; start = start }) k.view.members (brought ++ more) (noted ++ others)
      (map chain_of p.batch.chains ++ chains) end

-- the fetch has come this far, over that start, with what was brought
pub record Gathers (start : Vector) (brought : List Brought) (g : Gathering) : Type 0 where
  pub before : List Brought
  pub now : List Brought
  pub brought_is : brought ≡ before ++ now
  pub passed : HasPassed g.known start before g.passed
  pub stands : StandsSo (seen g.known) start (drop g.passed.at g.known.view.members) now g.stage

-- ---- what always holds

-- the chains are those of members that are through, added under the view, with the floor and the edges
pub record IsPassing (k : Known) (p : Passed) : Type 0 where
  pub floor_is : p.batch.floor ≡ k.floor
  pub of_passed : (o : PubKey) → Contains (owners_in p.batch.chains) o → Contains (take p.at k.view.members) o
  pub under : AreUnder k.view (edge_in k.edges) p.batch

-- the owner is the next member
pub record IsNext (k : Known) (p : Passed) (owner : PubKey) : Type 0 where
  pub is_view : IsView k.view
  pub owner_is : drop p.at k.view.members ≡ owner ∷ drop (p.at + 1) k.view.members

pub record IsGathering (g : Gathering) : Type 0 where
  pub is_view : IsView g.known.view
  pub passing : IsPassing g.known g.passed
  pub now : List Brought
  pub stands : StandsSo (seen g.known) g.passed.batch.held (drop g.passed.at g.known.view.members) now g.stage

-- ---- steps

-- what is noted of a log, by why the first of its heads was passed over
abbrev pub noted_for : Key → Option ChainFault → List Note
noted_for log None = []
noted_for log (Some fault.Bad) = note.Bad log ∷ []
noted_for log (Some fault.Fork) = note.Fork log ∷ []
noted_for log (Some fault.Memory) = []

-- a member is through, of whose log that is noted
abbrev pub one_more : Passed → Batch → List Note → Passed
one_more p batch notes = record { batch = batch; notes = p.notes ++ notes; at = p.at + 1 }

abbrev pub PassesAs : Passed → Passed → PubKey → Settled → Option Trying → Type 0
PassesAs old new owner (settled.Waits t) waits = (waits ≡ Some t) × (new ≡ old)
PassesAs old new owner (settled.Over fault) waits = (waits ≡ None) × (new ≡ one_more old old.batch (noted_for (head_key_of owner) fault))

-- how many members are then through
abbrev pub at_behind : ℕ → Settled → ℕ
at_behind at (settled.Waits t) = at
at_behind at (settled.Over fault) = at + 1

-- of these heads of the owner's log, after this was brought for them, a block is wanted, or the log is through
abbrev pub StandsWith : Known → Passed → Passed → PubKey → List Stamp → List Brought → Option Trying → Type 0
StandsWith k old new owner all brought (Some t) =
    (new ≡ old) × (t.walk.left ≢ 0) × (t.walk.owner ≡ owner)
    × HasTried k.view owner old.batch.held k.floor (edge_in k.edges (head_key_of owner)) all brought t
StandsWith k old new owner all brought None =
    (faults : List ChainFault) × (end : LogEnd)
    × Tries (record {
      view = k.view;
      owner = owner;
      start = old.batch.held;
      floor = k.floor;
      edge = edge_in k.edges (head_key_of owner);
    }) all brought faults end
    × GivesTo old.batch new.batch end × (new ≡ one_more old new.batch (map note_of (session.note_of (head_key_of owner) faults)))

abbrev pub BeginsLog : Known → Passed → Passed → PubKey → List Stamp → Option Trying → Type 0
BeginsLog k old new owner heads waits =
    (all : List Stamp) × AreToTry heads (stamp_at k.floor (head_key_of owner)) (seq_of old.batch.held (head_key_of owner)) all
    × StandsWith k old new owner all [] waits

abbrev pub GoesOnLog : Known → Passed → Passed → PubKey → Trying → List ℕ → Option Trying → Type 0
GoesOnLog k old new owner t bytes waits =
    (all : List Stamp) (brought : List Brought)
    → HasTried k.view owner old.batch.held k.floor (edge_in k.edges (head_key_of owner)) all brought t
    → StandsWith k old new owner all (brought ++ BlockOf t.walk.next (Ok bytes) ∷ []) waits

-- from the members that are through it went to the next one of which something is wanted
abbrev pub GathersFrom : Known → Passed → Gathering → Type 0
GathersFrom k p g = (start : Vector) (brought : List Brought) → HasPassed k start brought p → Gathers start brought g

-- the heads that were wanted were brought
abbrev pub HeadsGathered : Gathering → PubKey → List Judged → Gathering → Type 0
HeadsGathered old owner heads new =
    (start : Vector) (brought : List Brought) → Gathers start brought old → Gathers start (brought ++ HeadsOf owner (Ok heads) ∷ []) new

-- the block that was wanted was brought
abbrev pub BlockGathered : Gathering → List ℕ → Gathering → Type 0
BlockGathered old bytes new =
    (start : Vector) (brought : List Brought) (key : Key) → block_wanted old.stage ≡ Some key → Gathers start brought old
    → Gathers start (brought ++ BlockOf key (Ok bytes) ∷ []) new

-- it went on so from the members that are through
pub record Advances (k : Known) (old new : Passed) (at : Stage) : Type 0 where
  pub legal : IsGathering (gathering_of k new at)
  pub from : GathersFrom k old (gathering_of k new at)
  pub left : gets_in (gathering_of k new at) ≤ (2 + 2 ^ 96) * (length k.view.members - old.at)

-- from a member whose heads were wanted
pub record HeadsTaken (k : Known) (old new : Passed) (owner : PubKey) (heads : List Judged) (at : Stage) : Type 0 where
  pub legal : IsGathering (gathering_of k new at)
  pub gathered : HeadsGathered (gathering_of k old (stage.Heads owner)) owner heads (gathering_of k new at)
  pub left : gets_in (gathering_of k new at) < gets_in (gathering_of k old (stage.Heads owner))

-- from one of whose log a block was wanted
pub record BlockTaken (k : Known) (old new : Passed) (t : Trying) (bytes : List ℕ) (at : Stage) : Type 0 where
  pub legal : IsGathering (gathering_of k new at)
  pub gathered : BlockGathered (gathering_of k old (stage.Log t)) bytes (gathering_of k new at)
  pub left : gets_in (gathering_of k new at) < gets_in (gathering_of k old (stage.Log t))

-- what is noted of the log in progress
abbrev pub noted_at : Stage → List Note
noted_at (stage.Heads owner) = []
noted_at (stage.Log t) = noted_for (head_key_of t.walk.owner) t.fault
noted_at stage.Through = []

abbrev pub GivesBack : Gathering → Batch × List Note → Type 0
GivesBack g given = (given.0 ≡ g.passed.batch) × (given.1 ≡ g.passed.notes ++ noted_at g.stage)
