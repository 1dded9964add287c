-- What is kept of each member's log while records are taken.
use Rattle.std.specs.Prelude.{◌≡◌, ◌⊎◌, ◌↔◌, IsTrue, Bool, ℕ, ◌+◌, ◌<◌, List, [], ◌∷◌, ◌++◌, map, length, slice_index_or, slice_set}
use Rattle.std.specs.Prelude.{if◌then◌else◌, Option, Some, None, option_map, IfSome}
use Rattle.std.specs.List.{All}
use Rattle.std.specs.Prelude.{false}
use Rattle.std.specs.Ordering.{is_lt}
use Rattle.ivy_base.specs.declared.key.Key.{Key}
use Rattle.ivy_base.specs.Naming.{head_key_of}
use Rattle.log_model.specs.View.{View}
use Rattle.log_model.specs.Vector.{Stamp, Vector, stamp_at, seq_of}
use Rattle.log_model.specs.Record.{Record}
use Rattle.log_model.specs.Rank.{Rank, rank, rank_cmp}
use Rattle.log_model.specs.Closed.{log_of}
use Rattle.version_vectors.specs.declared.rank.Rank as kept_rank
use Rattle.version_vectors.specs.Ranks.{rank_of}
use Rattle.log_records.specs.Records.{records_of}
use Rattle.log_records.specs.declared.record.Record as kept
use Rattle.causal_order.specs.declared.base.Base.{Base}
use Rattle.causal_order.specs.declared.log.Log.{Log}
use Rattle.log_records.specs.Records.{record_of}
use Rattle.causal_order.specs.Over.{HasCauses}
use Rattle.causal_order.specs.Passing.{Queue, IsPassed, IsTaken}

-- the records that are known: those that are held, and those that were taken
abbrev pub known_of : Base → List kept.Record → List Record
known_of base taken = records_of base.held.now ++ records_of taken

-- the record stands at that place
pub record IsAt (known : List Record) (place : ℕ) (r : Record) : Type 0 where
  pub within : place < length known
  pub is : slice_index_or known place r ≡ r

-- the records stand at these places
abbrev pub AreAt : List Record → List ℕ → List Record → Type 0
AreAt known [] [] = Unit {0}
AreAt known [] (r ∷ rs) = ⊥
AreAt known (i ∷ places) [] = ⊥
AreAt known (i ∷ places) (r ∷ rs) = IsAt known i r × AreAt known places rs

-- the name of the newest of the records, and where there are none that of the stamp
abbrev pub newest_name : Option Stamp → List Record → Option Key
newest_name s [] = option_map (λ t. t.name) s
newest_name s (r ∷ []) = Some r.name
newest_name s (r ∷ q ∷ rs) = newest_name s (q ∷ rs)

abbrev pub first_rank : List Record → Option Rank
first_rank [] = None
first_rank (r ∷ rs) = Some (rank r)

-- where its records are, the newest one's name, and what the next one's rank is
pub record IsKept (front : Vector) (known : List Record) (l : Log) : Type 0 where
  pub key : l.key ≡ head_key_of l.owner
  pub base : l.base ≡ seq_of front l.key
  pub places : AreAt known l.places.items (log_of l.owner known)
  pub tip : l.tip ≡ newest_name (stamp_at front l.key) (log_of l.owner known)
  pub last : IfSome (newest_name None (records_of l.queue.items)) (λ name. name ≡ l.last)
  pub next : option_map rank_of l.next ≡ first_rank (records_of l.queue.items)

abbrev pub queue_of : Log → Queue
queue_of l = record { owner = l.owner; left = records_of l.queue.items }

-- what is kept of the logs, one of each member's
pub record AreKept (view : View) (front : Vector) (known : List Record) (logs : List Log) : Type 0 where
  pub kept : All (IsKept front known) logs
  pub owners : map (λ l. l.owner) logs ≡ view.members
  pub passed : IsPassed view front known (map queue_of logs)

-- ---- one step

-- the name of the record before these: the first one says it, and where there are none it is the last one's
abbrev pub name_before : List Record → Key → Key
name_before [] last = last
name_before (r ∷ rs) last = r.prev

-- the record is the first one
abbrev pub IsInFront : kept.Record → List kept.Record → Type 0
IsInFront r queue = (rest : List kept.Record) × (queue ≡ r ∷ rest)

-- r was taken from the log's queue, and stands at that place
pub record IsAdvanced (old new : Log) (place : ℕ) (r : kept.Record) : Type 0 where
  pub owner : new.owner ≡ old.owner
  pub key : new.key ≡ old.key
  pub base : new.base ≡ old.base
  pub last : new.last ≡ old.last
  pub queue : old.queue.items ≡ r ∷ new.queue.items
  pub places : new.places.items ≡ old.places.items ++ place ∷ []
  pub tip : new.tip ≡ Some (name_before (records_of new.queue.items) new.last)
  pub next : option_map rank_of new.next ≡ first_rank (records_of new.queue.items)

-- what was left in the log's queue was dropped
pub record IsCleared (old new : Log) : Type 0 where
  pub owner : new.owner ≡ old.owner
  pub key : new.key ≡ old.key
  pub base : new.base ≡ old.base
  pub places : new.places ≡ old.places
  pub tip : new.tip ≡ old.tip
  pub queue : new.queue.items ≡ []
  pub next : new.next ≡ None

-- ---- which log is next

-- the rank isn't before that one
abbrev pub IsNotBefore : Rank → Rank → Type 0
IsNotBefore least r = is_lt (rank_cmp r least) ≡ false

-- of these logs no next record is before that rank
abbrev pub AreNotBefore : Rank → List Log → Type 0
AreNotBefore least logs = All (λ l. IfSome l.next (λ r. IsNotBefore least (rank_of r))) logs

-- the log of that index has a next record of that rank
pub record HasNext (logs : List Log) (i : ℕ) (rank : kept_rank.Rank) : Type 0 where
  pub log : Log
  pub within : i < length logs
  pub stands : slice_index_or logs i log ≡ log
  pub has : log.next ≡ Some rank

-- and of these logs none has one before it
abbrev pub IsNextOf : List Log → List Log → ℕ × kept_rank.Rank → Type 0
IsNextOf logs seen at = HasNext logs at.0 at.1 × AreNotBefore (rank_of at.1) seen

-- the log of that index has the least next record
abbrev pub IsNext : List Log → ℕ → Type 0
IsNext logs i = (rank : kept_rank.Rank) × IsNextOf logs logs (i, rank)

abbrev pub HaveNone : List Log → Type 0
HaveNone logs = All (λ l. l.next ≡ None) logs

-- the lesser of the least one so far and the next one of a log, where it has one
abbrev pub lesser : Option (ℕ × kept_rank.Rank) → ℕ → Option kept_rank.Rank → Option (ℕ × kept_rank.Rank)
lesser least i None = least
lesser None i (Some rank) = Some (i, rank)
lesser (Some old) i (Some rank) = if is_lt (rank_cmp (rank_of rank) (rank_of old.1)) then Some (i, rank) else Some old

-- whether the log's next record has its causes among what is known
abbrev pub IsDecided : Base → List kept.Record → Log → Bool → Type 0
IsDecided base taken log holds = (r : kept.Record) → IsInFront r log.queue.items
    → IsTrue holds ↔ HasCauses base.view.now base.front.now (known_of base taken) (record_of r)

-- the next record of the log of that index was taken, as it has its causes
pub record IsTakenAt (base : Base) (logs : List Log) (taken : List kept.Record) (after : List Log) (more : List kept.Record)
    (i : ℕ) : Type 0 where
  pub old : Log
  pub stands : slice_index_or logs i old ≡ old
  pub new : Log
  pub set : after ≡ slice_set logs i new
  pub next : kept.Record
  pub advanced : IsAdvanced old new (length base.held.now + length taken) next
  pub pushed : more ≡ taken ++ next ∷ []
  pub causes : HasCauses base.view.now base.front.now (known_of base taken) (record_of next)

-- or it was left out with the rest of its log, as it hasn't
pub record IsLeftAt (base : Base) (logs : List Log) (taken : List kept.Record) (after : List Log) (more : List kept.Record)
    (i : ℕ) : Type 0 where
  pub old : Log
  pub stands : slice_index_or logs i old ≡ old
  pub new : Log
  pub set : after ≡ slice_set logs i new
  pub cleared : IsCleared old new
  pub first : kept.Record
  pub queue : IsInFront first old.queue.items
  pub kept_taken : more ≡ taken
  pub missing : HasCauses base.view.now base.front.now (known_of base taken) (record_of first) → ⊥

abbrev pub IsSeenAt : Base → List Log → List kept.Record → List Log → List kept.Record → ℕ → Type 0
IsSeenAt base logs taken after more i = IsTakenAt base logs taken after more i ⊎ IsLeftAt base logs taken after more i

-- how many records are still to be seen
abbrev pub left_in : List Log → ℕ
left_in [] = 0
left_in (l ∷ logs) = length l.queue.items + left_in logs

-- the state of the pass between two steps
pub record IsGoing (base : Base) (Available : Record → Type 0) (logs : List Log) (taken : List kept.Record) : Type 0 where
  pub kept : All (IsKept base.front.now (known_of base taken)) logs
  pub owners : map (λ l. l.owner) logs ≡ base.view.now.members
  pub passing : IsTaken base.view.now base.front.now Available (known_of base taken) (records_of taken) (map queue_of logs)
