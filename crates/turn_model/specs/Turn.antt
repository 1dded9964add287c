-- A turn: from what an agent knows and what it was given, the set that it answers on, the reply, and what it knows then.
use Rattle.std.specs.Prelude.{◌≡◌, ◌≤◌, ◌↔◌, ℕ, ◌+◌, nat_lt, Bool, false, ◌||◌, ◌&&◌, not, List, [], ◌∷◌, ◌++◌, length, Contains, None}
use Rattle.std.specs.Prelude.{◌==◌, if◌then◌else◌, ◌⊎◌}
use Rattle.std.specs.Option.{option_map_or}
use Rattle.ivy_base.specs.declared.key.Key.{Key}
use Rattle.ivy_base.specs.declared.key.PubKey.{PubKey}
use Rattle.ivy_base.specs.declared.format.Format.{Format}
use Rattle.ivy_base.specs.declared.format.Format.TheVariants.{One}
use Rattle.ivy_base.specs.declared.operation.Moment.{Moment}
use Rattle.ivy_base.specs.declared.operation.Op.{Op}
use Rattle.ivy_base.specs.Naming.{head_key_of}
use Rattle.log_model.specs.View.{View}
use Rattle.log_model.specs.Vector.{Vector, stamp_at, seq_of, without_log}
use Rattle.log_model.specs.Record.{Record, Heading}
use Rattle.log_model.specs.Spelling.{new_record, no_name, IsMoment, most_records}
use Rattle.log_model.specs.Chain.{AllMayBeWritten}
use Rattle.log_model.specs.Laws.{NumbersAreKeys}
use Rattle.tree_model.specs.Tree.{Tree}
use Rattle.log_model.specs.Rank.{front}
use Rattle.log_model.specs.Closed.{log_of, IsClosed, IsClosedPart}
use Rattle.log_model.specs.Replay.{replay}
use Rattle.wire_model.specs.Rpc.{Identity, IsIdentity}
use Rattle.nfs_model.specs.Arguments.{ArgumentsFit}
use Rattle.nfs_model.specs.declared.arguments.Args.{Args}
use Rattle.nfs_model.specs.declared.arguments.Args.TheVariants as call
use Rattle.nfs_model.specs.declared.replies.NfsStatus.TheVariants.{RoFs, ServerFault}
use Rattle.nfs_model.specs.declared.replies.Tail.{Tail}
use Rattle.nfs_model.specs.declared.replies.Tail.TheVariants as tail
use Rattle.nfs_model.specs.declared.replies.Reply.{Reply}
use Rattle.nfs_model.specs.declared.replies.Reply.TheVariants.{Refused}
use Rattle.nfs_model.specs.Objects.{no_cache_data}
use Rattle.nfs_model.specs.Reading.{answer}
use Rattle.nfs_model.specs.Changing.{is_changing, Plan, Refuse, Nothing, Operations, plan, finish}

-- ---- the set that a turn takes

-- of one log, the chain that a verified head names, or what is known of it
pub record Candidate : Type 0 where
  pub owner : PubKey
  pub chain : List Record

abbrev pub IsPrefixOf : List Record → List Record → Type 0
IsPrefixOf xs ys = (rest : List Record) × (xs ++ rest ≡ ys)

-- what is known, and the candidates that go on from what is known of their log
abbrev pub IsAvailable : List Record → List Candidate → Record → Type 0
IsAvailable known candidates r = Contains known r
    ⊎ ((c : Candidate) × Contains candidates c × IsPrefixOf (log_of c.owner known) c.chain × Contains c.chain r)

-- ---- the call

-- a call, and who makes it
pub record Asked : Type 0 where
  pub caller : Identity
  pub args : Args

-- the tail of a refusal that gives no attributes
abbrev pub bare_tail : Args → Tail
bare_tail (call.GetAttr object) = tail.Empty
bare_tail (call.Rename dir name to_dir to_name) = tail.TwoCaches no_cache_data no_cache_data
bare_tail (call.Link file dir name) = tail.AttributesAndCache None no_cache_data
bare_tail (call.MkNod dir name node) = tail.Cache no_cache_data
bare_tail (call.Commit file offset count) = tail.Cache no_cache_data
bare_tail args = if is_changing args then tail.Cache no_cache_data else tail.Attributes None

-- ---- the records that a plan appends

-- how far the own log goes, and the name of its newest record
abbrev pub own_seq : PubKey → List Record → ℕ
own_seq own s = seq_of (front s) (head_key_of own)

abbrev pub own_name : PubKey → List Record → Key
own_name own s = option_map_or (λ t. t.name) (stamp_at (front s) (head_key_of own)) no_name

-- one record for each operation under the heading, each linked to the one before
abbrev pub linked : Heading → ℕ → Key → List Op → List Record
linked h seq prev [] = []
linked h seq prev (op ∷ ops) =
    let r : Record = new_record h seq prev op in
    r ∷ linked h (seq + 1) r.name ops

-- what is written over that front cites all of it but the own log
abbrev pub heading_over : PubKey → Format → Moment → Vector → Heading
heading_over own format now f = record { owner = own; format = format; vector = without_log (head_key_of own) f; moment = now }

-- the set with the operations' records, which are written in that format over its front
abbrev pub appended : PubKey → Format → Moment → List Record → List Op → List Record
appended own format now s ops = s ++ linked (heading_over own format now (front s)) (own_seq own s + 1) (own_name own s) ops

-- ---- the turn

-- What a turn goes by beside what is known: the view, the own key, the signatures that its key has left, and whether its keeper has failed
-- since its start, this turn included
pub record Inputs : Type 0 where
  pub view : View
  pub own : PubKey
  pub leaves : ℕ
  pub has_failed : Bool

-- the reply, and what the agent knows then
pub record Turned : Type 0 where
  pub reply : Reply
  pub set : List Record

-- A plan of operations is refused where no signature or no number is left for it, or the keeper has failed; else its records are appended,
-- and the reply is of the trees before and after them
abbrev pub by_plan : Inputs → List Record → Asked → Moment → Plan → Turned
by_plan a s asked now (Refuse reply) = record { reply = reply; set = s }
by_plan a s asked now (Nothing reply) = record { reply = reply; set = s }
by_plan a s asked now (Operations ops) =
    if a.leaves == 0 || nat_lt most_records (own_seq a.own s + length ops)
    then record { reply = Refused RoFs (bare_tail asked.args); set = s }
    else if a.has_failed
    then record { reply = Refused ServerFault (bare_tail asked.args); set = s }
    else (let more = appended a.own One now s ops in record {
      reply = finish (replay s) (replay more) a.view asked.caller asked.args ops;
      set = more;
    })

-- the reply to the call on the set, and the set then: a reading call is answered, and a changing one goes by its plan
abbrev pub turn_on : Inputs → List Record → Asked → Moment → Turned
turn_on a s asked now =
    if is_changing asked.args
    then by_plan a s asked now (plan (replay s) a.view asked.caller asked.args now a.own (own_seq a.own s + 1))
    else record { reply = answer (replay s) a.view asked.caller asked.args; set = s }

-- records are planned that a signature and a number are left for, and no fault was counted before
abbrev pub may_save : Inputs → List Record → Plan → Bool
may_save a s (Refuse reply) = false
may_save a s (Nothing reply) = false
may_save a s (Operations ops) = not (a.leaves == 0 || nat_lt most_records (own_seq a.own s + length ops)) && not a.has_failed

-- whether a turn on the set tries to save
abbrev pub tries_save : Inputs → List Record → Asked → Moment → Bool
tries_save a s asked now = is_changing asked.args
    && may_save a s (plan (replay s) a.view asked.caller asked.args now a.own (own_seq a.own s + 1))

-- the turn of an agent that knows these records and has these candidates: it is on the largest closed part of what is available
pub record IsTurn (a : Inputs) (known : List Record) (candidates : List Candidate) (asked : Asked) (now : Moment)
    (turned : Turned) : Type 0 where
  pub taken : List Record
  pub largest : IsClosedPart a.view (IsAvailable known candidates) taken
  pub by_set : turned ≡ turn_on a taken asked now

-- ---- laws

-- What is planned on a tree may be written, where numbers are left for it: each operation may stand in the record that it gets.
abbrev pub PlanMayBeWritten : Type 0
PlanMayBeWritten = (t : Tree) (view : View) (who : Identity) (args : Args) (now : Moment) (own : PubKey) (seq : ℕ) (ops : List Op)
    → NumbersAreKeys t → IsIdentity who → ArgumentsFit args → IsMoment now → plan t view who args now own seq ≡ Operations ops
    → seq + length ops ≤ most_records + 1 → AllMayBeWritten own seq ops

-- From what is known, the candidates, the call and the moment there is one turn at most.
abbrev pub TurnIsUnique : Type 0
TurnIsUnique = (a : Inputs) (known : List Record) (candidates : List Candidate) (asked : Asked) (now : Moment) (one other : Turned)
    → IsTurn a known candidates asked now one → IsTurn a known candidates asked now other → one ≡ other

-- A turn's set has all that was known, where that is closed.
abbrev pub TurnKeepsKnown : Type 0
TurnKeepsKnown = (a : Inputs) (known : List Record) (candidates : List Candidate) (asked : Asked) (now : Moment) (turned : Turned)
    → IsClosed a.view known → IsTurn a known candidates asked now turned → (r : Record) → Contains known r → Contains turned.set r

-- the candidates have no record that isn't known, as where the agent is its view's only member
abbrev pub BringNothing : List Record → List Candidate → Type 0
BringNothing known candidates = (c : Candidate) → Contains candidates c → (r : Record) → Contains c.chain r → Contains known r

-- Where the candidates bring nothing, there is one turn, and it is on what is known.
abbrev pub TurnIsOnKnown : Type 0
TurnIsOnKnown = (a : Inputs) (known : List Record) (candidates : List Candidate) (asked : Asked) (now : Moment) (turned : Turned)
    → IsClosed a.view known → BringNothing known candidates
    → IsTurn a known candidates asked now turned ↔ (turned ≡ turn_on a known asked now)
