-- Which statuses the file system gives by itself.
use Rattle.std.specs.Prelude.{◌≡◌, ◌⊎◌, ℕ, ◌+◌, ◌<◌, Bool, true, false, List, length}
use Rattle.ivy_base.specs.declared.key.PubKey.{PubKey}
use Rattle.ivy_base.specs.declared.operation.Moment.{Moment}
use Rattle.ivy_base.specs.declared.operation.Op.{Op}
use Rattle.tree_model.specs.Tree.{Tree}
use Rattle.wire_model.specs.Rpc.{Identity}
use Rattle.log_model.specs.Record.{Record}
use Rattle.log_model.specs.Replay.{replay}
use Rattle.log_model.specs.Spelling.{most_records}
use Rattle.log_model.specs.View.{View}
use Rattle.nfs_model.specs.declared.arguments.Args.{Args}
use Rattle.nfs_model.specs.declared.replies.NfsStatus.{NfsStatus}
use Rattle.nfs_model.specs.declared.replies.NfsStatus.TheVariants as status
use Rattle.nfs_model.specs.declared.replies.Reply.{Reply}
use Rattle.nfs_model.specs.declared.replies.Reply.TheVariants as reply
use Rattle.nfs_model.specs.Changing.{Plan, Refuse, Nothing, Operations, finish, plan}
use Rattle.nfs_model.specs.Reading.{answer}
use Rattle.turn_model.specs.Turn.{Asked, Inputs, bare_tail, own_seq, turn_on}

-- IO (5) and JUKEBOX (10008) tell of blocks, ROFS (30) of the key and the numbers, SERVERFAULT (10006) of the keeper. All others are of the
-- tree.
abbrev pub is_of_tree : NfsStatus → Bool
is_of_tree status.Io = false
is_of_tree status.RoFs = false
is_of_tree status.ServerFault = false
is_of_tree status.Jukebox = false
is_of_tree _ = true

-- the reply is no refusal, or one by the tree
abbrev pub is_by_tree : Reply → Bool
is_by_tree (reply.Refused fault tail) = is_of_tree fault
is_by_tree _ = true

abbrev pub is_plan_by_tree : Plan → Bool
is_plan_by_tree (Refuse r) = is_by_tree r
is_plan_by_tree (Nothing r) = is_by_tree r
is_plan_by_tree (Operations ops) = true

-- So is each answer to a reading call,
abbrev pub AnswersAreByTree : Type 0
AnswersAreByTree = (t : Tree) (view : View) (who : Identity) (args : Args) → is_by_tree (answer t view who args) ≡ true

-- each plan,
abbrev pub PlansAreByTree : Type 0
PlansAreByTree = (t : Tree) (view : View) (who : Identity) (args : Args) (now : Moment) (own : PubKey) (seq : ℕ)
    → is_plan_by_tree (plan t view who args now own seq) ≡ true

-- and each reply once the records stand.
abbrev pub FinishesAreByTree : Type 0
FinishesAreByTree = (before after : Tree) (view : View) (who : Identity) (args : Args) (ops : List Op)
    → is_by_tree (finish before after view who args ops) ≡ true

-- The plan of a changing call that a turn is asked, on what it took.
abbrev pub plan_of_turn : Inputs → List Record → Asked → Moment → Plan
plan_of_turn a s asked now = plan (replay s) a.view asked.caller asked.args now a.own (own_seq a.own s + 1)

-- The key has no signature left, or the log no numbers for these operations.
abbrev pub IsSpent : Inputs → List Record → List Op → Type 0
IsSpent a s ops = (a.leaves ≡ 0) ⊎ (most_records < own_seq a.own s + length ops)

-- So a turn refuses by the tree; or by ROFS where operations are planned and the key or the numbers are spent; or by SERVERFAULT where its
-- keeper has failed since its start.
pub data TurnRefuses (a : Inputs) (s : List Record) (asked : Asked) (now : Moment) (r : Reply) : Type 0 where
  by_tree : is_by_tree r ≡ true → TurnRefuses a s asked now r
  by_key : (ops : List Op) → plan_of_turn a s asked now ≡ Operations ops → IsSpent a s ops
      → r ≡ reply.Refused status.RoFs (bare_tail asked.args) → TurnRefuses a s asked now r
  by_keeper : r ≡ reply.Refused status.ServerFault (bare_tail asked.args) → a.has_failed ≡ true → TurnRefuses a s asked now r

abbrev pub TurnsRefuseSo : Type 0
TurnsRefuseSo = (a : Inputs) (s : List Record) (asked : Asked) (now : Moment) → TurnRefuses a s asked now (turn_on a s asked now).reply
