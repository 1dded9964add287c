-- What a turn writes over a front, and what follows for it.
use Rattle.std.specs.Prelude.{◌≡◌, ℕ, ◌+◌, ◌≤◌, List, [], ◌∷◌, ◌++◌, length, map, Some, IsTrue, Contains}
use Rattle.std.specs.List.{AllByRecursion}
use Rattle.std.specs.Option.{option_map_or}
use Rattle.std.specs.Ordering.{is_lt}
use Rattle.std.specs.FinMap.Entries.{is_sorted}
use Rattle.causal_order.specs.Over as over
use Rattle.ivy_base.specs.declared.key.PubKey.{PubKey}
use Rattle.ivy_base.specs.declared.format.Format.TheVariants.{One}
use Rattle.ivy_base.specs.declared.operation.Moment.{Moment}
use Rattle.ivy_base.specs.declared.operation.Op.{Op}
use Rattle.ivy_base.specs.Naming.{head_key_of, key_cmp}
use Rattle.tree_model.specs.Tree.{Tree}
use Rattle.log_model.specs.Chain.{IsGood, AllMayBeWritten}
use Rattle.log_model.specs.Closed.{IsAscending, IsClosed}
use Rattle.log_model.specs.Laws.{NumbersAreKeys}
use Rattle.log_model.specs.Rank.{front, own_entry, record_cmp}
use Rattle.log_model.specs.Record.{Heading, Record}
use Rattle.log_model.specs.Replay.{replay}
use Rattle.log_model.specs.Spelling.{HasSpelling, IsKey, IsMoment, longest_record, no_name}
use Rattle.log_model.specs.Vector.{Stamp, Vector, seq_of, stamp_at}
use Rattle.log_model.specs.View.{View, IsView, is_named}
use Rattle.nfs_model.specs.Arguments.{ArgumentsFit}
use Rattle.turn_model.specs.Basis.{Holding, HoldsAll, kept_tree}
use Rattle.turn_model.specs.Turn.{Inputs, Asked, appended, heading_over, linked}
use Rattle.version_vectors.specs.Vectors.{IsVector}
use Rattle.wire_model.specs.Rpc.{IsIdentity}
use Rattle.agent_model.specs.Agent.{joined, record_post}
use Rattle.agent_model.specs.SavedBytes.{HasItsName}
use Rattle.agent_model.specs.Turning.{AreNext, with_held}
use Rattle.ivy_agent.specs.Newest.{newest_stamp, with_newest}
use Rattle.ivy_agent.specs.Serving.{Writes, serve_on}

-- what records have in common that a turn writes
abbrev pub heading : PubKey → Vector → Moment → Heading
heading own cited now = record { owner = own; format = One; vector = cited; moment = now }

-- one record for each operation, after the own log's newest record of the front, and citing all else of it
abbrev pub written_over : PubKey → Moment → Vector → List Op → List Record
written_over own now f ops =
    linked (heading_over own One now f) (seq_of f (head_key_of own) + 1)
    (option_map_or (λ t. t.name) (stamp_at f (head_key_of own)) no_name) ops

-- ---- fronts

-- With what is appended to a set, its front has the own log's newest record.
abbrev pub AppendedFront : Type 0
AppendedFront = (own : PubKey) (now : Moment) (s : List Record) (ops : List Op)
    → front (appended own One now s ops) ≡ with_newest own (newest_stamp (written_over own now (front s) ops)) (front s)

-- So has the front of what is held.
abbrev pub HeldFront : Type 0
HeldFront = (own : PubKey) (now : Moment) (h : Holding) (ops : List Op) → IsTrue (is_sorted key_cmp (joined h))
    → joined (with_held h (written_over own now (joined h) ops))
    ≡ with_newest own (newest_stamp (written_over own now (joined h) ops)) (joined h)

-- The newest of some records is the last one.
abbrev pub NewestIsLast : Type 0
NewestIsLast = (records : List Record) (t : Stamp) → newest_stamp records ≡ Some t
    → (before : List Record) × (last : Record) × (records ≡ before ++ last ∷ []) × ((own_entry last).1 ≡ t)

-- It has the number to which the own log goes then.
abbrev pub NewestIsReached : Type 0
NewestIsReached = (own : PubKey) (now : Moment) (f : Vector) (ops : List Op) (t : Stamp)
    → newest_stamp (written_over own now f ops) ≡ Some t
    → (t.seq ≡ seq_of f (head_key_of own) + length ops) × (1 ≤ length ops)

-- ---- the records, whether or not names collide

-- What is to be written for a call on a tree may be written after that number.
abbrev pub WritesMayStand : Type 0
WritesMayStand = (a : Inputs) (t : Tree) (seq : ℕ) (asked : Asked) (now : Moment) (ops : List Op) → NumbersAreKeys t
    → IsIdentity asked.caller → ArgumentsFit asked.args → IsMoment now
    → serve_on a t seq asked now ≡ Writes ops → AllMayBeWritten a.own (seq + 1) ops

-- the front is one that a member of the view may cite
pub record MayBeCited (view : View) (f : Vector) : Type 0 where
  pub whole : IsVector f
  pub named : AllByRecursion (λ e. IsTrue (is_named view e.0)) f

-- Over such a front, in which the own log is begun, the records are good.
abbrev pub WrittenAreGood : Type 0
WrittenAreGood = (view : View) (own : PubKey) (now : Moment) (f : Vector) (ops : List Op) → IsView view → MayBeCited view f → IsMoment now
    → 1 ≤ seq_of f (head_key_of own)
    → AllMayBeWritten own (seq_of f (head_key_of own) + 1) ops → AllByRecursion (IsGood view own) (written_over own now f ops)

-- With the newest of good records the front may be cited too.
abbrev pub WithNewestMayBeCited : Type 0
WithNewestMayBeCited = (view : View) (own : PubKey) (records : List Record) (f : Vector) → Contains view.members own
    → AllByRecursion (IsGood view own) records → MayBeCited view f
    → MayBeCited view (with_newest own (newest_stamp records) f)

-- The posts of records that have a spelling are under their blocks' names, and short.
abbrev pub PostsAreNamed : Type 0
PostsAreNamed = (records : List Record) → AllByRecursion HasSpelling records
    → AllByRecursion (λ p. IsKey p.key × HasItsName p × (length p.bytes ≤ longest_record)) (map record_post records)

-- There is one for each operation, and they are numbered on.
abbrev pub WrittenAreNext : Type 0
WrittenAreNext = (own : PubKey) (now : Moment) (f : Vector) (ops : List Op)
    → AreNext (seq_of f (head_key_of own)) (written_over own now f ops) × (length (written_over own now f ops) ≡ length ops)

-- They ascend, and go after all that is held.
abbrev pub WrittenGoBehind : Type 0
WrittenGoBehind = (own : PubKey) (now : Moment) (h : Holding) (ops : List Op) → IsTrue (is_sorted key_cmp (joined h))
    → AllByRecursion HasSpelling h.held
    → IsAscending (written_over own now (joined h) ops)
    × AllByRecursion (λ r. AllByRecursion (λ q. IsTrue (is_lt (record_cmp q r))) h.held) (written_over own now (joined h) ops)

-- What is held over the basis's front is closed with them, where it is without.
abbrev pub WrittenIsClosed : Type 0
WrittenIsClosed = (view : View) (own : PubKey) (now : Moment) (h : Holding) (ops : List Op) → IsView view → Contains view.members own
    → IsTrue (is_sorted key_cmp h.basis.front)
    → MayBeCited view (joined h) → over.IsClosed view h.basis.front h.held → IsMoment now → 1 ≤ seq_of (joined h) (head_key_of own)
    → AllMayBeWritten own (seq_of (joined h) (head_key_of own) + 1) ops
    → over.IsClosed view h.basis.front (h.held ++ written_over own now (joined h) ops)

-- ---- the set, where all of it is held

-- The set with what is appended is the one with what is written over what is held, and its replay is the tree that is held then.
abbrev pub WrittenIsAppended : Type 0
WrittenIsAppended = (view : View) (own : PubKey) (now : Moment) (s : List Record) (h : Holding) (ops : List Op) → IsClosed view s
    → HoldsAll view s h → front s ≡ joined h
    → (s ++ written_over own now (joined h) ops ≡ appended own One now s ops)
    × (kept_tree (with_held h (written_over own now (joined h) ops)) ≡ replay (appended own One now s ops))
