-- Fetching the records of one log: back by their names from a head, so many; and what is found of them.
use Rattle.std.specs.Prelude.{◌≢◌, ℕ, zero, suc, ◌-◌, ◌<◌, ◌↔◌, List, [], ◌∷◌, ◌++◌, Contains, reverse, Option, Ok, Err}
use Rattle.std.specs.List.{AllByRecursion}
use Rattle.ivy_base.specs.declared.key.Key.{Key}
use Rattle.ivy_base.specs.declared.key.PubKey.{PubKey}
use Rattle.ivy_base.specs.Naming.{head_key_of}
use Rattle.log_model.specs.View.{View}
use Rattle.log_model.specs.Vector.{Stamp, Vector, seq_of}
use Rattle.log_model.specs.Record.{Record}
use Rattle.log_model.specs.Spelling.{IsRecordOf}
use Rattle.log_model.specs.Fetched.{ChainFails, IsOnward, IsSound, Edge}
use Rattle.log_model.specs.declared.chain_fault.ChainFault.{ChainFault}
use Rattle.log_model.specs.declared.chain_fault.ChainFault.TheVariants.{Bad, Memory}
use Rattle.turn_model.specs.Candidates.{IsTriedBefore}
use Rattle.dhash_model.specs.declared.miss.Miss.{Miss}
use Rattle.session_model.specs.Brought.{Brought, BlockOf, WantedOfRing, Content}

-- ---- back by names

-- how the walk stands: a block is wanted, or couldn't be had, or isn't of the grammar, or all have come
pub data WalkEnd : Type 0 where
  Wants : (key : Key) → WalkEnd
  Misses : (miss : Miss) → WalkEnd
  Garbled : WalkEnd
  Came : WalkEnd

-- From a name so many records back: what was brought, the records that were read, the newest first, and how the walk stands.
pub data Walks (owner : PubKey) : ℕ → Key → List Brought → List Record → WalkEnd → Type 0 where
  came : {key : Key} → Walks owner zero key [] [] Came
  wants : {n : ℕ} {key : Key} → Walks owner (suc n) key [] [] (Wants key)
  misses : {n : ℕ} {key : Key} (miss : Miss) → Walks owner (suc n) key (BlockOf key (Err miss) ∷ []) [] (Misses miss)
  garbled : {n : ℕ} {key : Key} (bytes : List ℕ) → ((r : Record) → IsRecordOf owner bytes r → ⊥)
      → Walks owner (suc n) key (BlockOf key (Ok bytes) ∷ []) [] Garbled
  back : {n : ℕ} {key : Key} {more : List Brought} {records : List Record} {end : WalkEnd} (bytes : List ℕ) (r : Record)
      → IsRecordOf owner bytes r
      → Walks owner n r.prev more records end → Walks owner (suc n) key (BlockOf key (Ok bytes) ∷ more) (r ∷ records) end

-- ---- the heads of one log, one after the other

-- each is tried before those after it
abbrev pub InTryingOrder : List Stamp → Type 0
InTryingOrder [] = Unit {0}
InTryingOrder (t ∷ ts) = AllByRecursion (IsTriedBefore t) ts × InTryingOrder ts

-- these are the heads that go further than the floor, each once, in the order in which they are tried
pub record AreTried (floor : ℕ) (heads tried : List Stamp) : Type 0 where
  pub each : (t : Stamp) → Contains tried t ↔ (Contains heads t × (floor < t.seq))
  pub order : InTryingOrder tried

-- how the fetch of one log stands: something is wanted, or couldn't be had; or a head's records are taken, or none's are
pub data LogEnd : Type 0 where
  Lacks : (want : WantedOfRing) → LogEnd
  Stops : (miss : Miss) → LogEnd
  Gives : (records : List Record) → LogEnd
  GivesNone : LogEnd

-- By what a log's heads are tried: the log's owner in the view, what the refresh started from, the agent's floor, and what is known of
-- the newest held record, where anything is.
pub record Trial : Type 0 where
  pub view : View
  pub owner : PubKey
  pub start : Vector
  pub floor : Vector
  pub edge : Option Edge

-- the walk from a head back to what the refresh started from
abbrev pub WalksFrom : Trial → Stamp → List Brought → List Record → WalkEnd → Type 0
WalksFrom trial t brought records end =
    Walks trial.owner (t.seq - seq_of trial.start (head_key_of trial.owner)) t.name brought records end

-- The heads tried in order: what was brought, why the heads before were passed over, and how the fetch stands. Records are taken where
-- they are sound and onward, by `log_model`.
pub data Tries (trial : Trial) : List Stamp → List Brought → List ChainFault → LogEnd → Type 0 where
  none : Tries trial [] [] [] GivesNone
  wants : {t : Stamp} {ts : List Stamp} {brought : List Brought} {records : List Record} {key : Key}
      → WalksFrom trial t brought records (Wants key) → Tries trial (t ∷ ts) brought [] (Lacks (Content key))
  misses : {t : Stamp} {ts : List Stamp} {brought : List Brought} {records : List Record} {miss : Miss}
      → WalksFrom trial t brought records (Misses miss) → Tries trial (t ∷ ts) brought [] (Stops miss)
  gives : {t : Stamp} {ts : List Stamp} {brought : List Brought} {records : List Record} → WalksFrom trial t brought records Came
      → IsSound trial.view trial.start trial.edge t (reverse records) → IsOnward trial.start trial.floor (reverse records)
      → Tries trial (t ∷ ts) brought [] (Gives (reverse records))
  passes : {t : Stamp} {ts : List Stamp} {brought more : List Brought} {records : List Record} {fault : ChainFault}
      {others : List ChainFault} {end : LogEnd} → WalksFrom trial t brought records Came → fault ≢ Memory
      → ChainFails trial.view trial.start trial.floor t trial.edge (reverse records) fault
      → Tries trial ts more others end → Tries trial (t ∷ ts) (brought ++ more) (fault ∷ others) end
  garbled : {t : Stamp} {ts : List Stamp} {brought more : List Brought} {records : List Record} {others : List ChainFault} {end : LogEnd}
      → WalksFrom trial t brought records Garbled
      → Tries trial ts more others end → Tries trial (t ∷ ts) (brought ++ more) (Bad ∷ others) end
