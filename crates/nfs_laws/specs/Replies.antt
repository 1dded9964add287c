-- What a call is answered is a reply of its procedure, within its bounds (RFC 1813, sections 3.3 and 5.2).
use Rattle.std.specs.Prelude.{◌≡◌, ℕ, ◌<◌, ◌≤◌, ◌^◌, true, false, List, length, Some}
use Rattle.std.specs.List.{AllByRecursion}
use Rattle.ivy_base.specs.declared.key.Key.{Key}
use Rattle.ivy_base.specs.declared.key.PubKey.{PubKey}
use Rattle.ivy_base.specs.declared.operation.Moment.{Moment}
use Rattle.ivy_base.specs.declared.operation.Op.{Op}
use Rattle.ivy_base.specs.Naming.{IsFileName}
use Rattle.tree_model.specs.Tree.{Tree, Inode, inode_at, longest_file}
use Rattle.tree_model.specs.Apply.{empty_tree, apply_all}
use Rattle.log_model.specs.Closed.{IsClosed}
use Rattle.log_model.specs.Laws.{NumbersAreKeys}
use Rattle.log_model.specs.Record.{Record}
use Rattle.log_model.specs.Replay.{replay}
use Rattle.log_model.specs.Spelling.{IsMode, IsMoment, OperationFits}
use Rattle.log_model.specs.View.{View, IsView}
use Rattle.wire_model.specs.Rpc.{Identity}
use Rattle.nfs_model.specs.declared.arguments.Args.{Args}
use Rattle.nfs_model.specs.Arguments.{program_of, nfs_program, mount_program}
use Rattle.nfs_model.specs.Reading.{answer, mount_answer}
use Rattle.nfs_model.specs.Changing.{is_changing, Plan, Refuse, Nothing, Operations, plan, finish}
use Rattle.nfs_model.specs.Replies.{IsFittingReply}
use Rattle.nfs_laws.specs.Lengths.{NamesAreKeys}

-- ---- the trees that records make

-- the attributes are those that an operation may give, and the bytes no more than a file may have
pub record InodeFits (i : Inode) : Type 0 where
  pub mode : IsMode i.attributes.mode
  pub uid : i.attributes.uid < 2 ^ 32
  pub gid : i.attributes.gid < 2 ^ 32
  pub atime : IsMoment i.attributes.atime
  pub mtime : IsMoment i.attributes.mtime
  pub ctime : IsMoment i.attributes.ctime
  pub few : length i.body ≤ longest_file

-- numbers are keys, names are those of files and may be counted, and each inode is within its bounds
pub record TreeFits (t : Tree) : Type 0 where
  pub numbers : NumbersAreKeys t
  pub names : NamesAreKeys t
  pub file_names : AllByRecursion (λ e. IsFileName e.0.1) t.names
  pub few : length t.names < 2 ^ 63
  pub inodes : (number : Key) (i : Inode) → inode_at t number ≡ Some i → InodeFits i

-- Operations that fit make such a tree, where they are fewer than 2^63.
abbrev pub RecordsMakeTrees : Type 0
RecordsMakeTrees = (ops : List (Moment × Op)) → AllByRecursion (λ o. IsMoment o.0 × OperationFits o.1) ops → length ops < 2 ^ 63
    → TreeFits (apply_all empty_tree ops)

-- So does each closed set of a view.
abbrev pub SetsMakeTrees : Type 0
SetsMakeTrees = (view : View) (s : List Record) → IsView view → IsClosed view s → TreeFits (replay s)

-- ---- answers

-- What a reading procedure of NFS answers is a reply of its own.
abbrev pub AnswersAreReplies : Type 0
AnswersAreReplies = (t : Tree) (view : View) (who : Identity) (args : Args) → TreeFits t → program_of args ≡ nfs_program
    → is_changing args ≡ false
    → IsFittingReply args (answer t view who args)

-- So is what MOUNT answers.
abbrev pub MountsAreReplies : Type 0
MountsAreReplies = (view : View) (args : Args) → program_of args ≡ mount_program → IsFittingReply args (mount_answer view args)

-- a plan that makes no record has a reply of the procedure's
abbrev pub HasReplyTo : Args → Plan → Type 0
HasReplyTo args (Refuse reply) = IsFittingReply args reply
HasReplyTo args (Nothing reply) = IsFittingReply args reply
HasReplyTo args (Operations ops) = Unit {0}

-- So is what a changing procedure answers without a record.
abbrev pub PlansAreReplies : Type 0
PlansAreReplies = (t : Tree) (view : View) (who : Identity) (args : Args) (now : Moment) (own : PubKey) (seq : ℕ) → TreeFits t
    → is_changing args ≡ true
    → HasReplyTo args (plan t view who args now own seq)

-- So is what it answers once its records stand, whatever the tree is then.
abbrev pub FinishesAreReplies : Type 0
FinishesAreReplies = (before after : Tree) (view : View) (who : Identity) (args : Args) (now : Moment) (own : PubKey) (seq : ℕ)
    (ops : List Op)
    → TreeFits before → TreeFits after → plan before view who args now own seq ≡ Operations ops
    → IsFittingReply args (finish before after view who args ops)
