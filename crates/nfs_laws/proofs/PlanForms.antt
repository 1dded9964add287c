-- What changing procedures answer, without a record or once their records stand, are replies of theirs.
use Rattle.std.proofs.Common.{◌≡◌, ℕ, ◌+◌, Bool, true, false, not, ◌||◌, ◌&&◌, List, [], ◌∷◌, ◌++◌, length, Option, Some, None, Result, Ok, refl, sym, subst, arith, length-take}
use Rattle.std.specs.Prelude.{is_some, nat_lt, nat_le, ◌==◌}
use Rattle.ivy_base.specs.declared.key.Key.{Key}
use Rattle.ivy_base.specs.declared.key.PubKey.{PubKey}
use Rattle.ivy_base.specs.declared.operation.Moment.{Moment}
use Rattle.ivy_base.specs.declared.operation.Op.{Op}
use Rattle.ivy_base.specs.Naming.{inode_number}
use Rattle.ivy_base.proofs.NameLemmas.{length-digest}
use Rattle.tree_model.specs.Tree.{Tree, entry, is_directory, is_file, directory_kind, file_kind, name_count, longest_file}
use Rattle.log_model.specs.View.{View}
use Rattle.wire_model.specs.Rpc.{Identity}
use Rattle.nfs_model.specs.declared.arguments.Args.{Args}
use Rattle.nfs_model.specs.declared.arguments.Args.TheVariants as call
use Rattle.nfs_model.specs.declared.arguments.How.{How}
use Rattle.nfs_model.specs.declared.arguments.How.TheVariants.{Unchecked, Guarded, Exclusive}
use Rattle.nfs_model.specs.declared.arguments.SetWhat.{SetWhat}
use Rattle.nfs_model.specs.declared.replies.Fattr.{Fattr}
use Rattle.nfs_model.specs.declared.replies.NfsStatus.{NfsStatus}
use Rattle.nfs_model.specs.declared.replies.NfsStatus.TheVariants.{FBig, NotSupp, Inval, NoEnt, IsDir, NotDir, NotEmpty, Exist, MLink, NameTooLong, Acces}
use Rattle.nfs_model.specs.declared.replies.Tail.TheVariants as tails
use Rattle.nfs_model.specs.declared.replies.Wcc.{Wcc}
use Rattle.nfs_model.specs.declared.replies.Reply.{Reply}
use Rattle.nfs_model.specs.declared.replies.Reply.TheVariants as reply
use Rattle.nfs_model.specs.Checks.{Check, is_dot, is_dot_dot}
use Rattle.nfs_model.specs.Objects.{Object, object_of, cache_data, no_cache_data, may_write, is_owner}
use Rattle.nfs_model.specs.Changing.{is_changing, Plan, Refuse, Nothing, Operations, plan_unless, plan_about, plan, finish, made, standing, plan_directory, plan_symbolic_link, plan_file, plan_file_at, plan_create, plan_attributes, plan_write, plan_remove, plan_remove_directory, plan_rename, plan_rename_between, plan_link, directory_checks, set_attribute_checks, move_checks, inode_under, is_empty_under, same_target, may_change, may_cut, invalid_times, too_large, taken, taken_part, name_checks, cache_of, attributes_of}
use Rattle.nfs_model.specs.Replies.{IsWcc, tail_form_of, result_form_of, IsFittingReply}
use Rattle.nfs_laws.specs.Replies.{TreeFits, HasReplyTo, PlansAreReplies, FinishesAreReplies}
use Rattle.nfs_laws.proofs.Fields.{handle_fits, attributes_fit, cache_fits, no_cache_fits, cache_of_fits, attributes_of_fit}
use Rattle.nfs_laws.proofs.Plans.{there}
use Rattle.nfs_laws.proofs.Ways.{Pass, with_plan_unless, with_plan_about, of_plan_if}

-- an answer about an object that stands
on_standing : (P : Reply → Type 0) (found : Result Object NfsStatus) (o : Object) (answer : Key → Reply) → found ≡ Ok o → P (answer o.number) → P (standing found answer)
on_standing P found o answer is h = subst (λ (f : Result Object NfsStatus). P (standing f answer)) (sym is) h

-- the call's plan on the first tree, and its answer once the second one stands
module _ (t after : Tree) (view : View) (who : Identity) (now : Moment) (own : PubKey) (seq : ℕ) (tree : TreeFits t) (later : TreeFits after) where
  -- a reply of the procedure's, or operations after which there is one
  abbrev pub Leads : Args → Plan → Type 0
  Leads args (Refuse reply) = IsFittingReply args reply
  Leads args (Nothing reply) = IsFittingReply args reply
  Leads args (Operations ops) = IsFittingReply args (finish t after view who args ops)

  now_fits : (number : Key) → IsWcc (cache_data t t view number)
  now_fits number = cache_fits t t view number tree tree

  then_fits : (number : Key) → IsWcc (cache_data t after view number)
  then_fits number = cache_fits t after view number tree later

  -- ---- procedures that refuse with what is said of one object

  module _ (args : Args) (form : 2 ≡ tail_form_of args) where
    about_object : (handle : List ℕ) (plan : Object → Plan) → ((o : Object) → object_of t view handle ≡ Ok o → Leads args (plan o)) → Leads args (plan_about (object_of t view handle) (tails.Cache no_cache_data) plan)
    about_object handle plan h = with_plan_about (Leads args) (tails.Cache no_cache_data) (λ fault. record { form = form; fits = no_cache_fits }) (object_of t view handle) plan h

    behind_checks : (o : Object) (checks : List Check) (plan : Plan) → (Pass checks → Leads args plan) → Leads args (plan_unless checks (tails.Cache (cache_data t t view o.number)) plan)
    behind_checks o checks plan h = with_plan_unless (Leads args) (tails.Cache (cache_data t t view o.number)) (λ fault. record { form = form; fits = now_fits o.number }) checks plan h

  -- an object that is made, in a directory that was found
  made_object : (args : Args) → 8 ≡ result_form_of args → (handle : List ℕ) (dir : Object) (number : Key) → object_of t view handle ≡ Ok dir → length number.0 ≡ 20
      → IsFittingReply args (made t after view (object_of t view handle) (Some number))
  made_object args form handle dir number is size = subst (λ (f : Result Object NfsStatus). IsFittingReply args (made t after view f (Some number))) (sym is)
      (record { form = form; fits = (handle_fits view number size, attributes_fit after view number later, then_fits dir.number) })

  new_number : length (inode_number own seq).0 ≡ 20
  new_number = length-digest _

  leads_directory : (handle name : List ℕ) (what : SetWhat) → Leads (call.MkDir handle name what) (plan_directory t view who handle name what now (inode_number own seq))
  leads_directory handle name what = about_object (call.MkDir handle name what) refl handle _ (λ dir e.
      behind_checks (call.MkDir handle name what) refl dir (directory_checks who dir ++ name_checks name ++ invalid_times what ∷ taken t dir name ∷ []) _ (λ passed.
      made_object (call.MkDir handle name what) refl handle dir (inode_number own seq) e new_number))

  leads_symbolic_link : (handle name : List ℕ) (what : SetWhat) (text : List ℕ) → Leads (call.SymLink handle name what text) (plan_symbolic_link t view who handle name what text now (inode_number own seq))
  leads_symbolic_link handle name what text = about_object (call.SymLink handle name what text) refl handle _ (λ dir e.
      behind_checks (call.SymLink handle name what text) refl dir
      (directory_checks who dir ++ name_checks name
      ++ (nat_lt 1024 (length text), NameTooLong) ∷ (length text == 0, Inval) ∷ invalid_times what ∷ taken t dir name ∷ []) _ (λ passed.
      made_object (call.SymLink handle name what text) refl handle dir (inode_number own seq) e new_number))

  -- ---- CREATE

  module _ (handle name : List ℕ) (how : How) where
    abbrev creation : Args
    creation = call.Create handle name how

    leads_file_at : (dir : Object) → object_of t view handle ≡ Ok dir → (guarded : Bool) (what : SetWhat) (existing : Option Key)
        → (is_some existing && (guarded || not (is_file (inode_under t existing)))) ≡ false
        → Leads creation (plan_file_at t view who dir name what now (inode_number own seq) existing)
    leads_file_at dir e guarded what None free = made_object creation refl handle dir (inode_number own seq) e new_number
    leads_file_at dir e guarded what (Some number) free =
        let size : length number.0 ≡ 20 = there t view who now own seq number guarded free tree.numbers in
        of_plan_if (Leads creation) (is_some what.size) _ _
        (λ some. made_object creation refl handle dir number e size)
        (λ none. record { form = refl; fits = (handle_fits view number size, attributes_fit t view number tree, now_fits dir.number) })

    leads_file : (guarded : Bool) (what : SetWhat) → Leads creation (plan_file t view who handle name guarded what now (inode_number own seq))
    leads_file guarded what = about_object creation refl handle _ (λ dir e.
        let existing : Option Key = entry t dir.number name in
        behind_checks creation refl dir
        (directory_checks who dir ++ name_checks name
        ++ invalid_times what ∷ too_large what.size
        ∷ (is_dot name || is_dot_dot name, Exist)
        ∷ (is_some existing && (guarded || not (is_file (inode_under t existing))), Exist)
        ∷ (is_some existing && is_some what.size && not (may_cut who (inode_under t existing)), Acces) ∷ []) _ (λ passed.
        leads_file_at dir e guarded what existing passed.1.1.1.1.1.1.1.0))

  leads_create : (handle name : List ℕ) (how : How) → Leads (call.Create handle name how) (plan_create t view who handle name how now (inode_number own seq))
  leads_create handle name (Unchecked what) = leads_file handle name (Unchecked what) false what
  leads_create handle name (Guarded what) = leads_file handle name (Guarded what) true what
  leads_create handle name (Exclusive verifier) = about_object (call.Create handle name (Exclusive verifier)) refl handle _ (λ dir e.
      behind_checks (call.Create handle name (Exclusive verifier)) refl dir (directory_checks who dir ++ name_checks name ++ (true, NotSupp) ∷ []) _ (λ passed.
      let fails = passed.1.1.1.1.0 in cc))

  -- ---- attributes, contents, and names that go

  leads_attributes : (handle : List ℕ) (what : SetWhat) (guard : Option Moment) → Leads (call.SetAttr handle what guard) (plan_attributes t view who handle what guard now)
  leads_attributes handle what guard = about_object (call.SetAttr handle what guard) refl handle _ (λ o e.
      behind_checks (call.SetAttr handle what guard) refl o (set_attribute_checks who o what guard) _ (λ passed.
      on_standing (IsFittingReply (call.SetAttr handle what guard)) (object_of t view handle) o _ e (record { form = refl; fits = then_fits o.number })))

  leads_write : (handle : List ℕ) (offset count stable : ℕ) (bytes : List ℕ) → Leads (call.Write handle offset count stable bytes) (plan_write t view who handle offset count bytes)
  leads_write handle offset count stable bytes = about_object (call.Write handle offset count stable bytes) refl handle _ (λ o e.
      behind_checks (call.Write handle offset count stable bytes) refl o
      ((not (file_kind o.inode.kind), Inval)
      ∷ (not (may_write who o.inode || is_owner who o.inode), Acces)
      ∷ (not (count == length bytes), Inval)
      ∷ (nat_lt longest_file (offset + length (taken_part bytes)), FBig) ∷ []) _ (λ passed.
      of_plan_if (Leads (call.Write handle offset count stable bytes)) (length bytes == 0) _ _
      (λ none. record { form = refl; fits = (now_fits o.number, omega arith) })
      (λ some. on_standing (IsFittingReply (call.Write handle offset count stable bytes)) (object_of t view handle) o _ e
      (record { form = refl; fits = (then_fits o.number, omega (arith, length-take 8192 bytes)) }))))

  leads_remove : (handle name : List ℕ) → Leads (call.Remove handle name) (plan_remove t view who handle name)
  leads_remove handle name = about_object (call.Remove handle name) refl handle _ (λ dir e.
      behind_checks (call.Remove handle name) refl dir
      (directory_checks who dir ++ name_checks name
      ++ (is_dot name || is_dot_dot name, Inval) ∷ (not (is_some (entry t dir.number name)), NoEnt) ∷ (is_directory (inode_under t (entry t dir.number name)), IsDir) ∷ []) _ (λ passed.
      on_standing (IsFittingReply (call.Remove handle name)) (object_of t view handle) dir _ e (record { form = refl; fits = then_fits dir.number })))

  leads_remove_directory : (handle name : List ℕ) → Leads (call.RmDir handle name) (plan_remove_directory t view who handle name)
  leads_remove_directory handle name = about_object (call.RmDir handle name) refl handle _ (λ dir e.
      behind_checks (call.RmDir handle name) refl dir
      (directory_checks who dir ++ name_checks name
      ++ (is_dot name, Inval) ∷ (is_dot_dot name, Exist) ∷ (not (is_some (entry t dir.number name)), NoEnt)
      ∷ (not (is_directory (inode_under t (entry t dir.number name))), NotDir) ∷ (not (is_empty_under t (entry t dir.number name)), NotEmpty) ∷ []) _ (λ passed.
      on_standing (IsFittingReply (call.RmDir handle name)) (object_of t view handle) dir _ e (record { form = refl; fits = then_fits dir.number })))

  -- ---- RENAME

  module _ (handle name to_handle to_name : List ℕ) where
    abbrev renaming : Args
    renaming = call.Rename handle name to_handle to_name

    refused_both : (v w : Wcc) → IsWcc v → IsWcc w → (fault : NfsStatus) → IsFittingReply renaming (reply.Refused fault (tails.TwoCaches v w))
    refused_both v w f g fault = record { form = refl; fits = (f, g) }

    leads_rename_between : (dir to_dir : Object) → object_of t view handle ≡ Ok dir → object_of t view to_handle ≡ Ok to_dir → Leads renaming (plan_rename_between t view who dir name to_dir to_name)
    leads_rename_between dir to_dir e f =
        let from : Wcc = cache_data t t view dir.number in
        let to : Wcc = cache_data t t view to_dir.number in
        let refused : (fault : NfsStatus) → IsFittingReply renaming (reply.Refused fault (tails.TwoCaches from to)) = refused_both from to (now_fits dir.number) (now_fits to_dir.number) in
        with_plan_unless (Leads renaming) (tails.TwoCaches from to) refused
        ((not (directory_kind dir.inode.kind) || not (directory_kind to_dir.inode.kind), NotDir)
        ∷ (not (may_change who dir) || not (may_change who to_dir), Acces) ∷ []
        ++ name_checks name ++ name_checks to_name
        ++ (is_dot name || is_dot_dot name || is_dot to_name || is_dot_dot to_name, Inval)
        ∷ (not (is_some (entry t dir.number name)), NoEnt) ∷ []) _ (λ passed.
        of_plan_if (Leads renaming) (same_target (entry t dir.number name) (entry t to_dir.number to_name)) _ _
        (λ same. record { form = refl; fits = (now_fits dir.number, now_fits to_dir.number) })
        (λ other. with_plan_unless (Leads renaming) (tails.TwoCaches from to) refused (move_checks t to_dir.number (entry t dir.number name) (entry t to_dir.number to_name)) _ (λ moves.
        on_standing (IsFittingReply renaming) (object_of t view handle) dir _ e
        (on_standing (IsFittingReply renaming) (object_of t view to_handle) to_dir _ f
        (record { form = refl; fits = (then_fits dir.number, then_fits to_dir.number) })))))

    leads_rename : Leads renaming (plan_rename t view who handle name to_handle to_name)
    leads_rename =
        let from : Wcc = cache_of t view (object_of t view handle) in
        let to : Wcc = cache_of t view (object_of t view to_handle) in
        let refused : (fault : NfsStatus) → IsFittingReply renaming (reply.Refused fault (tails.TwoCaches from to)) = refused_both from to (cache_of_fits t view handle tree) (cache_of_fits t view to_handle tree) in
        with_plan_about (Leads renaming) (tails.TwoCaches from to) refused (object_of t view handle) _ (λ dir e.
        with_plan_about (Leads renaming) (tails.TwoCaches from to) refused (object_of t view to_handle) _ (λ to_dir f. leads_rename_between dir to_dir e f))

  -- ---- LINK

  leads_hard_link : (file_handle handle name : List ℕ) → Leads (call.Link file_handle handle name) (plan_link t view who file_handle handle name)
  leads_hard_link file_handle handle name =
      let linking : Args = call.Link file_handle handle name in
      let source : Option Fattr = attributes_of t view (object_of t view file_handle) in
      let place : Wcc = cache_of t view (object_of t view handle) in
      let refused : (fault : NfsStatus) → IsFittingReply linking (reply.Refused fault (tails.AttributesAndCache source place)) =
      λ fault. record { form = refl; fits = (attributes_of_fit t view file_handle tree, cache_of_fits t view handle tree) } in
      with_plan_about (Leads linking) (tails.AttributesAndCache source place) refused (object_of t view file_handle) _ (λ file e.
      with_plan_about (Leads linking) (tails.AttributesAndCache source place) refused (object_of t view handle) _ (λ dir f.
      with_plan_unless (Leads linking) (tails.AttributesAndCache source place) refused
      ((directory_kind file.inode.kind, Inval) ∷ directory_checks who dir ++ name_checks name
      ++ taken t dir name ∷ (nat_le 1000 (name_count t file.number), MLink) ∷ []) _ (λ passed.
      on_standing (IsFittingReply linking) (object_of t view file_handle) file _ e
      (on_standing (IsFittingReply linking) (object_of t view handle) dir _ f
      (record { form = refl; fits = (attributes_fit after view file.number later, then_fits dir.number) })))))

  -- ---- each procedure

  leads_plan : (args : Args) → is_changing args ≡ true → Leads args (plan t view who args now own seq)
  leads_plan (call.MkDir dir name what) changing = leads_directory dir name what
  leads_plan (call.RmDir dir name) changing = leads_remove_directory dir name
  leads_plan (call.SetAttr object what guard) changing = leads_attributes object what guard
  leads_plan (call.Write file offset count stable bytes) changing = leads_write file offset count stable bytes
  leads_plan (call.Create dir name how) changing = leads_create dir name how
  leads_plan (call.SymLink dir name what text) changing = leads_symbolic_link dir name what text
  leads_plan (call.Remove dir name) changing = leads_remove dir name
  leads_plan (call.Rename dir name to_dir to_name) changing = leads_rename dir name to_dir to_name
  leads_plan (call.Link file dir name) changing = leads_hard_link file dir name
  leads_plan _ changing = cc

-- ---- the laws

has_reply : (t : Tree) (view : View) (who : Identity) (now : Moment) (own : PubKey) (seq : ℕ) (tree : TreeFits t) (args : Args) (p : Plan)
    → Leads t t view who now own seq tree tree args p → HasReplyTo args p
has_reply t view who now own seq tree args (Refuse reply) leads = leads
has_reply t view who now own seq tree args (Nothing reply) leads = leads
has_reply t view who now own seq tree args (Operations ops) leads = tt

pub plans_are_replies : PlansAreReplies
plans_are_replies t view who args now own seq tree changing =
    has_reply t view who now own seq tree args (plan t view who args now own seq) (leads_plan t t view who now own seq tree tree args changing)

-- only a changing procedure plans operations
changes : (before : Tree) (view : View) (who : Identity) (args : Args) (now : Moment) (own : PubKey) (seq : ℕ) (ops : List Op) → plan before view who args now own seq ≡ Operations ops → is_changing args ≡ true
changes before view who (call.SetAttr object what guard) now own seq ops planned = refl
changes before view who (call.Write file offset count stable bytes) now own seq ops planned = refl
changes before view who (call.Create dir name how) now own seq ops planned = refl
changes before view who (call.MkDir dir name what) now own seq ops planned = refl
changes before view who (call.SymLink dir name what text) now own seq ops planned = refl
changes before view who (call.Remove dir name) now own seq ops planned = refl
changes before view who (call.RmDir dir name) now own seq ops planned = refl
changes before view who (call.Rename dir name to_dir to_name) now own seq ops planned = refl
changes before view who (call.Link file dir name) now own seq ops planned = refl
changes before view who _ now own seq ops planned = cc

pub finishes_are_replies : FinishesAreReplies
finishes_are_replies before after view who args now own seq ops old new planned =
    subst (λ (p : Plan). Leads before after view who now own seq old new args p) planned
    (leads_plan before after view who now own seq old new args (changes before view who args now own seq ops planned))
