-- A walk along one log on its way: how far one that was begun so has come after it was brought this.
use Rattle.std.specs.Prelude.{◌≡◌, ◌≢◌, ℕ, zero, suc, ◌-◌, List, [], ◌∷◌, ◌++◌, length, Contains, reverse, Option, Some, None, Ok, IfSome}
use Rattle.std.specs.List.{AllByRecursion}
use Rattle.std.specs.Option.{option_map}
use Rattle.std.specs.declared.vec.Vec.{Vec}
use Rattle.ivy_base.specs.declared.key.Key.{Key}
use Rattle.ivy_base.specs.declared.key.PubKey.{PubKey}
use Rattle.log_model.specs.Record.{Record}
use Rattle.log_model.specs.Chain.{HasMadeNumber}
use Rattle.log_records.specs.declared.record.Record as kept
use Rattle.log_records.specs.Records.{records_of}
use Rattle.session_model.specs.Brought.{Brought, BlockOf}
use Rattle.session_model.specs.Walks.{Walks, Wants, Garbled, Came}

-- A walk along the owner's log: how many records may still come, under which name the next one stands, and those that came, the newest
-- first; or none, where one of them can be in no chain.
pub record Walking : Type 0 where
  pub owner : PubKey
  pub left : ℕ
  pub next : Key
  pub found : Option (List Record)

-- one that begins, from that name so many records back
abbrev pub begun : PubKey → ℕ → Key → Walking
begun owner count newest = record { owner = owner; left = count; next = newest; found = Some [] }

-- the name of the block that is wanted, while records may still come
abbrev pub wanted_at : ℕ → Key → Option Key
wanted_at zero next = None
wanted_at (suc left) next = Some next

abbrev pub wanted_of : Walking → Option Key
wanted_of w = wanted_at w.left w.next

-- these records were kept, or one of them makes an inode of another number than a record of its place may make
abbrev pub Keeps : List Record → Option (List Record) → Type 0
Keeps records (Some found) = found ≡ records
Keeps records None = (r : Record) × Contains records r × (HasMadeNumber r.owner r.seq r.op → ⊥)

-- The walk from that name, so many records back, was brought this: it wants the next block; or a block wasn't of the grammar; or all
-- records have come.
pub data HasCome (owner : PubKey) (count : ℕ) (newest : Key) (brought : List Brought) : ℕ → Key → Option (List Record) → Type 0 where
  wants : {records : List Record} {left : ℕ} {next : Key} {found : Option (List Record)}
      → Walks owner count newest brought records (Wants next) → left ≢ 0 → left ≡ count - length records → Keeps records found
      → HasCome owner count newest brought left next found
  garbled : {records : List Record} {next : Key} → Walks owner count newest brought records Garbled
      → HasCome owner count newest brought 0 next None
  came : {records : List Record} {next : Key} {found : Option (List Record)} → Walks owner count newest brought records Came
      → Keeps records found → HasCome owner count newest brought 0 next found

abbrev pub IsAfter : ℕ → Key → List Brought → Walking → Type 0
IsAfter count newest brought w = HasCome w.owner count newest brought w.left w.next w.found

-- the block that was wanted was brought: whatever walk came as far as the old state, with it has come to the new one
abbrev pub HasBeenGiven : Walking → Walking → List ℕ → Type 0
HasBeenGiven old new bytes = (new.owner ≡ old.owner)
    × ((count : ℕ) (newest : Key) (brought : List Brought) → IsAfter count newest brought old
    → IsAfter count newest (brought ++ BlockOf old.next (Ok bytes) ∷ []) new)

-- ---- the records that a walk keeps

abbrev pub kept_of : {A : Type 0} → Option (Vec kept.Record A) → Option (List Record)
kept_of found = option_map (λ f. records_of f.items) found

-- with one more after them
abbrev pub kept_with : Option (List Record) → Record → Option (List Record)
kept_with found r = option_map (λ f. f ++ r ∷ []) found

-- the oldest first
abbrev pub oldest_first : Option (List Record) → Option (List Record)
oldest_first found = option_map reverse found

-- all are the owner's
abbrev pub AreOwned : PubKey → Option (List Record) → Type 0
AreOwned owner found = IfSome found (AllByRecursion (λ r. r.owner ≡ owner))
