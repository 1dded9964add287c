-- How long the results are (RFC 1813, section 3.3; how a page is measured is this project's).
use Rattle.std.specs.Prelude.{◌≡◌, ℕ, ◌+◌, ◌≤◌, min, max, Bool, List, length, Some}
use Rattle.std.specs.List.{AllByRecursion}
use Rattle.ivy_base.specs.declared.key.Key.{Key}
use Rattle.ivy_base.specs.declared.key.PubKey.{PubKey}
use Rattle.ivy_base.specs.declared.operation.Kind.TheVariants.{Lnk}
use Rattle.ivy_base.specs.declared.operation.Moment.{Moment}
use Rattle.ivy_base.specs.declared.operation.Op.{Op}
use Rattle.tree_model.specs.Tree.{Tree, Inode, inode_at}
use Rattle.tree_model.specs.Apply.{empty_tree, apply_all}
use Rattle.log_model.specs.Laws.{NumbersAreKeys}
use Rattle.log_model.specs.Spelling.{IsKey, OperationFits}
use Rattle.log_model.specs.View.{View}
use Rattle.wire_model.specs.Rpc.{Identity}
use Rattle.nfs_model.specs.declared.arguments.Args.{Args}
use Rattle.nfs_model.specs.declared.arguments.Args.TheVariants as call
use Rattle.nfs_model.specs.declared.replies.Listed.{Listed}
use Rattle.nfs_model.specs.Reading.{answer, mount_answer}
use Rattle.nfs_model.specs.Changing.{Plan, Refuse, Nothing, Operations, plan, finish}
use Rattle.nfs_model.specs.Results.{result, longest_result}
use Rattle.nfs_model.specs.Pages.{longest_page}
use Rattle.nfs_laws.specs.Listings.{IsPage}

-- a call for a page in that room
pub data HasRoom (count : ℕ) : Args → Type 0 where
  plain : (handle : List ℕ) (cookie : ℕ) (verifier : List ℕ) → HasRoom count (call.ReadDir handle cookie verifier count)
  plus : (handle : List ℕ) (cookie : ℕ) (verifier : List ℕ) (dircount : ℕ)
      → HasRoom count (call.ReadDirPlus handle cookie verifier dircount count)

-- each name of the tree stands under a key, and leads to one
abbrev pub NamesAreKeys : Tree → Type 0
NamesAreKeys t = AllByRecursion (λ e. IsKey e.0.0 × IsKey e.1) t.names

-- a link's text is as short as a record's may be
abbrev pub LinksAreShort : Tree → Type 0
LinksAreShort t = (number : Key) (i : Inode) → inode_at t number ≡ Some i → i.kind ≡ Lnk → length i.body ≤ 1024

-- A page takes, after its status of 4 bytes, no more than the room that was asked for, and never more than 32,768 bytes; the empty page at
-- the end takes 104, whatever the room.
abbrev pub PagesFit : Type 0
PagesFit = (t : Tree) (view : View) (who : Identity) (args : Args) (count : ℕ) (verifier : List ℕ) (page : List Listed) (eof : Bool)
    → NamesAreKeys t → HasRoom count args → IsPage verifier page eof (answer t view who args)
    → length (result (answer t view who args)) ≤ 4 + max 104 (min count longest_page)

-- What a reading procedure answers has at most 32,772 bytes from its status on.
abbrev pub AnswersFit : Type 0
AnswersFit = (t : Tree) (view : View) (who : Identity) (args : Args) → NamesAreKeys t → LinksAreShort t
    → length (result (answer t view who args)) ≤ longest_result

-- So has what MOUNT answers.
abbrev pub MountsFit : Type 0
MountsFit = (view : View) (args : Args) → length (result (mount_answer view args)) ≤ longest_result

-- the reply of a plan that makes no record is that long at most
abbrev pub IsShortPlan : Plan → Type 0
IsShortPlan (Refuse reply) = length (result reply) ≤ longest_result
IsShortPlan (Nothing reply) = length (result reply) ≤ longest_result
IsShortPlan (Operations ops) = Unit {0}

-- So has what a changing procedure answers, without a record or once its records stand.
abbrev pub PlansFit : Type 0
PlansFit = (t : Tree) (view : View) (who : Identity) (args : Args) (now : Moment) (own : PubKey) (seq : ℕ) → NumbersAreKeys t
    → IsShortPlan (plan t view who args now own seq)

abbrev pub FinishesFit : Type 0
FinishesFit = (before after : Tree) (view : View) (who : Identity) (args : Args) (now : Moment) (own : PubKey) (seq : ℕ) (ops : List Op)
    → NumbersAreKeys before → plan before view who args now own seq ≡ Operations ops
    → length (result (finish before after view who args ops)) ≤ longest_result

-- Operations that fit make a tree whose names are so, and one of short links.
abbrev pub RecordsMakeNames : Type 0
RecordsMakeNames = (ops : List (Moment × Op)) → AllByRecursion (λ o. OperationFits o.1) ops → NamesAreKeys (apply_all empty_tree ops)

abbrev pub RecordsMakeShortLinks : Type 0
RecordsMakeShortLinks = (ops : List (Moment × Op)) → AllByRecursion (λ o. OperationFits o.1) ops → LinksAreShort (apply_all empty_tree ops)
