-- What the tables are by which conflicts are found: the logs of the records, and the records under the numbers of their marks.
use Rattle.std.specs.Prelude.{◌≡◌, ℕ, ◌<◌, ◌≤◌, ◌^◌, Bool, true, false, List, length, Contains, slice_index, slice_index_or}
use Rattle.std.specs.List.{All}
use Rattle.ivy_base.specs.declared.key.Key.{Key}
use Rattle.ivy_base.specs.Naming.{head_key_of}
use Rattle.log_model.specs.Rank.{full_vector}
use Rattle.log_model.specs.Record.{Record}
use Rattle.log_model.specs.Vector.{seq_of}
use Rattle.log_records.specs.declared.record.Record as kept
use Rattle.log_records.specs.Records.{record_of}
use Rattle.conflict_list.specs.declared.logs.Log.{Log}
use Rattle.conflict_list.specs.declared.marked.Marked.{Marked}
use Rattle.log_model.specs.Conflicts.{knows, in_conflict}
use Rattle.conflict_list.specs.Numbers.{numbers_of}
use Rattle.conflict_list.specs.Order.{marked}

abbrev pub At : {X : Type 0} → List X → ℕ → X → Type 0
At xs i x = (i < length xs) × (x ≡ slice_index_or xs i x)

-- ---- logs

-- the second record knows all that the first one knows
abbrev pub Grows : kept.Record → kept.Record → Type 0
Grows r s = (x : Record) → knows (record_of r) x ≡ true → knows (record_of s) x ≡ true

abbrev pub GrowsAt : List kept.Record → ℕ → ℕ → Type 0
GrowsAt rs i j = (r s : kept.Record) → At rs i r → At rs j s → Grows r s

-- of each two of the first n records of one log, the later one knows all that the other knows
abbrev pub Grow : List kept.Record → List ℕ → ℕ → Type 0
Grow rs of n = (i j : ℕ) → i ≤ j → j < n → slice_index of i ≡ slice_index of j → GrowsAt rs i j

abbrev pub HasItsKey : Log → Type 0
HasItsKey log = log.key ≡ head_key_of log.owner

-- the log at that place in the list has that head key
pub record HasKey (logs : List Log) (lane : ℕ) (key : Key) : Type 0 where
  pub log : Log
  pub stands : At logs lane log
  pub is : log.key ≡ key

-- of each of the first n records, its log's place in the list
pub record AreLogs (rs : List kept.Record) (n : ℕ) (logs : List Log) (of : List ℕ) : Type 0 where
  pub long : length of ≡ n
  pub few : length logs ≤ n
  pub keys : All HasItsKey logs
  pub keyed : (j : ℕ) (r : kept.Record) → j < n → At rs j r → HasKey logs (slice_index of j) (head_key_of r.owner)

-- ---- late records

-- the records at these places are in conflict
abbrev pub Clashing : List kept.Record → ℕ → ℕ → Type 0
Clashing rs i j = (r s : kept.Record) → At rs i r → At rs j s → in_conflict (record_of r) (record_of s) ≡ true

-- the record goes as far in each of the logs as these numbers
abbrev pub Reaches : kept.Record → List Log → List ℕ → Type 0
Reaches r logs newest = (lane : ℕ) (log : Log) → At logs lane log
    → slice_index newest lane ≤ seq_of (full_vector (record_of r)) log.key

-- of each log a number that none of its first n records exceeds
abbrev pub AreNewest : List kept.Record → List ℕ → ℕ → List ℕ → Type 0
AreNewest rs of n newest = (i : ℕ) (r : kept.Record) → i < n → At rs i r → r.seq ≤ slice_index newest (slice_index of i)

-- of the first n records each that is in conflict with an earlier one is late
abbrev pub AreLate : List kept.Record → ℕ → List Bool → Type 0
AreLate rs n late = (i j : ℕ) → i < j → j < n → Clashing rs i j → slice_index_or late j false ≡ true

-- ---- marks

-- it is of one of the first n records, and of its log
abbrev pub IsMarkOf : ℕ → List ℕ → Marked → Type 0
IsMarkOf n of m = (m.place < n) × (m.log ≡ slice_index of m.place) × (m.log < 2 ^ 32)

-- of the first n records, each that is in conflict with an earlier one, under each of its numbers; of others maybe some
pub record AreMarked (rs : List kept.Record) (of : List ℕ) (n : ℕ) (ms : List Marked) : Type 0 where
  pub each : (i j : ℕ) (r : kept.Record) (k : ℕ) → i < j → j < n → Clashing rs i j → At rs j r → Contains (numbers_of r.op) k
      → Contains ms (marked (slice_index of j) j k)
  pub only : All (IsMarkOf n of) ms

-- they are of one log, ascending by place
abbrev pub IsRun : List Marked → Type 0
IsRun ms = (a b : ℕ) (m n : Marked) → a ≤ b → At ms a m → At ms b n → (m.log ≡ n.log) × (m.place ≤ n.place)

-- ---- a record's partners

abbrev pub KnowsAt : List kept.Record → ℕ → ℕ → Bool → Type 0
KnowsAt rs i j answer = (r s : kept.Record) → At rs i r → At rs j s → answer ≡ knows (record_of r) (record_of s)

abbrev pub Stays : List ℕ → List ℕ → Type 0
Stays found more = (j : ℕ) → Contains found j → Contains more j

-- the places of the records that are marked so, and in conflict with the one at i, are found
abbrev pub AreFound : List kept.Record → ℕ → (Marked → Type 0) → List ℕ → Type 0
AreFound rs i P found = (m : Marked) → P m → m.place < length rs → Clashing rs i m.place → Contains found m.place

-- the places of all later records in conflict with the one at i are found
abbrev pub AllAreFound : List kept.Record → ℕ → List ℕ → Type 0
AllAreFound rs i found = (j : ℕ) → i < j → j < length rs → Clashing rs i j → Contains found j
