-- The heads of one log on their way: which is tried now, which come after it, and how far its walk has come.
use Rattle.std.specs.Prelude.{◌≡◌, ◌≢◌, ℕ, ◌+◌, ◌-◌, ◌*◌, ◌^◌, List, [], ◌∷◌, ◌++◌, length, Option, Some, None, Ok}
use Rattle.ivy_base.specs.declared.key.PubKey.{PubKey}
use Rattle.ivy_base.specs.Naming.{head_key_of}
use Rattle.log_model.specs.View.{View}
use Rattle.log_model.specs.Vector.{Stamp, Vector, seq_of}
use Rattle.log_model.specs.Record.{Record}
use Rattle.log_model.specs.Fetched.{Edge, ChainFails, IsOnward, IsSound}
use Rattle.log_model.specs.declared.chain_fault.ChainFault.{ChainFault}
use Rattle.log_model.specs.declared.chain_fault.ChainFault.TheVariants.{Bad, Memory}
use Rattle.log_records.specs.Batches.{Batch}
use Rattle.session_model.specs.Brought.{Brought, BlockOf}
use Rattle.session_model.specs.Walks.{Tries, LogEnd, Gives, GivesNone, Lacks, Stops}
use Rattle.log_fetch.specs.Walking.{Walking, IsAfter, begun}

-- The head that is tried and its walk, the heads after it in the order in which they are tried, how far the log is held, and why the first
-- head was passed over, where one was.
pub record Trying : Type 0 where
  pub head : Stamp
  pub walk : Walking
  pub rest : List Stamp
  pub held : ℕ
  pub fault : Option ChainFault

-- no more blocks than these may still be wanted: the present walk's, and fewer than `2 ^ 32` for each head after it
abbrev pub trial_left : Trying → ℕ
trial_left t = t.walk.left + 2 ^ 32 * length t.rest

-- the first of the heads that were passed over
abbrev pub first_of : List ChainFault → Option ChainFault
first_of [] = None
first_of (fault ∷ others) = Some fault

-- with one more after them
abbrev pub or_fault : Option ChainFault → ChainFault → Option ChainFault
or_fault None fault = Some fault
or_fault (Some before) fault = Some before

-- Of these heads of the owner's log the first ones were passed over, and the present one's walk is on its way: whatever becomes of the
-- heads that are left, it becomes of all of them after what was brought for the ones before.
pub record HasTried (view : View) (owner : PubKey) (start floor : Vector) (edge : Option Edge) (all : List Stamp) (brought : List Brought)
    (t : Trying) : Type 0 where
  pub passed : List Brought
  pub walked : List Brought
  pub faults : List ChainFault
  pub brought_is : brought ≡ passed ++ walked
  pub goes_on : {more : List Brought} {others : List ChainFault} {end : LogEnd}
      → Tries (record { view = view; owner = owner; start = start; floor = floor; edge = edge }) (t.head ∷ t.rest) more others end
      → Tries (record { view = view; owner = owner; start = start; floor = floor; edge = edge }) all (passed ++ more) (faults ++ others) end
  pub fault_is : t.fault ≡ first_of faults
  pub owner_is : t.walk.owner ≡ owner
  pub held_is : t.held ≡ seq_of start (head_key_of owner)
  pub walk_is : IsAfter (t.head.seq - seq_of start (head_key_of owner)) t.head.name walked t.walk

-- the walk of a head that begins
abbrev pub IsBegunAt : PubKey → ℕ → List Stamp → Option ChainFault → Trying → Type 0
IsBegunAt owner held heads fault t =
    (t.head ∷ t.rest ≡ heads) × (t.walk ≡ begun owner (t.head.seq - held) t.head.name) × (t.held ≡ held) × (t.fault ≡ fault)

-- whether a chain was taken: into the batch, or why it was not. Where none was kept, one of its records is in no chain
abbrev pub FailsFor : View → Batch → Stamp → Option Edge → Option (List Record) → ChainFault → Type 0
FailsFor view b head edge None fault = fault ≡ Bad
FailsFor view b head edge (Some chain) fault = ChainFails view b.held b.floor head edge chain fault

abbrev pub IsTakenAs : View → Batch → Batch → Stamp → Option Edge → Option (List Record) → Option ChainFault → Type 0
IsTakenAs view old new head edge chain None =
    (records : List Record) × (chain ≡ Some records) × IsSound view old.held edge head records × IsOnward old.held old.floor records
    × (new ≡ record old { chains = old.chains ++ (head, records) ∷ [] })
IsTakenAs view old new head edge chain (Some fault) = (new ≡ old) × (fault ≢ Memory) × FailsFor view old head edge chain fault

-- what the batch has of the log's end
abbrev pub GivesTo : Batch → Batch → LogEnd → Type 0
GivesTo old new (Gives records) = (head : Stamp) × (new ≡ record old { chains = old.chains ++ (head, records) ∷ [] })
GivesTo old new GivesNone = new ≡ old
GivesTo old new (Lacks want) = ⊥
GivesTo old new (Stops miss) = ⊥

-- the log is through: with this fault of the first head that was passed over, whatever heads there were and whatever was brought
abbrev pub EndsWith : View → Option Edge → Trying → Batch → Batch → Option ChainFault → Type 0
EndsWith view edge t old new fault =
    (owner : PubKey) (all : List Stamp) (brought : List Brought) → HasTried view owner old.held old.floor edge all brought t
    → (faults : List ChainFault) × (end : LogEnd)
    × Tries (record { view = view; owner = owner; start = old.held; floor = old.floor; edge = edge }) all brought faults end
    × (fault ≡ first_of faults) × GivesTo old new end

-- the next head is tried, and nothing was brought for it yet
abbrev pub GoesOnWith : View → Option Edge → Trying → Batch → Trying → Type 0
GoesOnWith view edge t b next =
    (owner : PubKey) (all : List Stamp) (brought : List Brought) → HasTried view owner b.held b.floor edge all brought t
    → HasTried view owner b.held b.floor edge all brought next

-- the block that was wanted was brought
abbrev pub HasBeenTold : Trying → Trying → List ℕ → Type 0
HasBeenTold old new bytes =
    (view : View) (owner : PubKey) (start floor : Vector) (edge : Option Edge) (all : List Stamp) (brought : List Brought)
    → HasTried view owner start floor edge all brought old
    → HasTried view owner start floor edge all (brought ++ BlockOf old.walk.next (Ok bytes) ∷ []) new
