-- What the definitions answer to a lookup and to a new directory: the superuser's calls on a handle of the view, with a well-formed name.
use Rattle.std.proofs.Common.{◌≡◌, ℕ, ◌%◌, Bool, true, false, not, ◌||◌, List, [], ◌∷◌, length, Option, Some, None, is_some, is_none, Result, Ok, Err, refl, ap, ◌∙◌}
use Rattle.std.specs.Prelude.{if◌then◌else◌}
use Rattle.ivy_base.specs.declared.key.Key.{Key}
use Rattle.ivy_base.specs.declared.key.PubKey.{PubKey}
use Rattle.ivy_base.specs.declared.operation.Kind.TheVariants.{Dir}
use Rattle.ivy_base.specs.declared.operation.Moment.{Moment}
use Rattle.ivy_base.specs.declared.operation.Op.{Op}
use Rattle.ivy_base.specs.declared.operation.Op.TheVariants as op
use Rattle.ivy_base.specs.Naming.{IsFileName, inode_number}
use Rattle.tree_model.specs.Tree.{Tree, Inode, inode_at, entry, directory_kind}
use Rattle.log_model.specs.View.{View, view_name}
use Rattle.wire_model.specs.Rpc.{superuser}
use Rattle.nfs_model.specs.declared.arguments.Args.TheVariants as call
use Rattle.nfs_model.specs.declared.replies.NfsStatus.{NfsStatus}
use Rattle.nfs_model.specs.declared.replies.NfsStatus.TheVariants as status
use Rattle.nfs_model.specs.declared.replies.Tail.{Tail}
use Rattle.nfs_model.specs.declared.replies.Tail.TheVariants as tail
use Rattle.nfs_model.specs.declared.replies.Reply.{Reply}
use Rattle.nfs_model.specs.declared.replies.Reply.TheVariants as reply
use Rattle.nfs_model.specs.Arguments.{only_mode}
use Rattle.nfs_model.specs.Checks.{Check, first_failure, too_long_name, invalid_name, is_dot, is_dot_dot}
use Rattle.nfs_model.specs.Answers.{about, unless}
use Rattle.nfs_model.specs.Objects.{Object, handle_of, live_object, attributes, attributes_at, cache_data, no_cache_data, may_search}
use Rattle.nfs_model.specs.Reading.{answer, target_of, lookup_checks, found, found_inode}
use Rattle.nfs_model.specs.Changing.{Plan, Refuse, Operations, plan, finish, made, plan_about as about_plan, plan_unless as unless_plan, invalid_times, taken, may_change}
use Rattle.nfs_model.proofs.NameChecks.{is_short_name, is_valid_name, is_not_dot, is_not_dot_dot}
use Rattle.nfs_model.proofs.Objects.{object_of_handle}

-- ---- checks in a row

passes : (c : Check) (cs : List Check) → c.0 ≡ false → first_failure (c ∷ cs) ≡ first_failure cs
passes c cs h = rw h refl

after_four : (a b c d : Check) (cs : List Check) → a.0 ≡ false → b.0 ≡ false → c.0 ≡ false → d.0 ≡ false → first_failure (a ∷ b ∷ c ∷ d ∷ cs) ≡ first_failure cs
after_four a b c d cs p q r s = passes a (b ∷ c ∷ d ∷ cs) p ∙ passes b (c ∷ d ∷ cs) q ∙ passes c (d ∷ cs) r ∙ passes d cs s

fails : (c : Check) (cs : List Check) → c.0 ≡ true → first_failure (c ∷ cs) ≡ Some c.1
fails c cs h = rw h refl

turned : (b : Bool) → b ≡ true → not b ≡ false
turned b h = ap not h

turned_back : (b : Bool) → b ≡ false → not b ≡ true
turned_back b h = ap not h

all_pass : (checks : List Check) (w : Tail) (a : Reply) → first_failure checks ≡ None → unless checks w a ≡ a
all_pass checks w a h = rw h refl

one_fails : (checks : List Check) (w : Tail) (a : Reply) (fault : NfsStatus) → first_failure checks ≡ Some fault → unless checks w a ≡ reply.Refused fault w
one_fails checks w a fault h = rw h refl

all_pass_plan : (checks : List Check) (w : Tail) (p : Plan) → first_failure checks ≡ None → unless_plan checks w p ≡ p
all_pass_plan checks w p h = rw h refl

one_fails_plan : (checks : List Check) (w : Tail) (p : Plan) (fault : NfsStatus) → first_failure checks ≡ Some fault → unless_plan checks w p ≡ Refuse (reply.Refused fault w)
one_fails_plan checks w p fault h = rw h refl

-- ---- LOOKUP

target_by : (a b : Bool) (x y z : Option Key) → a ≡ false → b ≡ false → (if a then x else if b then y else z) ≡ z
target_by a b x y z p q = rw (p, q) refl

target_is_entry : (t : Tree) (dir : Key) (name : List ℕ) → IsFileName name → target_of t dir name ≡ entry t dir name
target_is_entry t dir name f = target_by (is_dot name) (is_dot_dot name) _ _ _ (is_not_dot name f) (is_not_dot_dot name f)

-- the checks on the directory and the name pass, and the last one decides
lookup_decided : (t : Tree) (o : Object) (name : List ℕ) → IsFileName name → directory_kind o.inode.kind ≡ true
    → first_failure (lookup_checks t superuser o name) ≡ first_failure ((is_none (target_of t o.number name), status.NoEnt) ∷ [])
lookup_decided t o name f dir =
    after_four (not (directory_kind o.inode.kind), status.NotDir) (not (may_search superuser o.inode), status.Acces) (too_long_name name) (invalid_name name)
    ((is_none (target_of t o.number name), status.NoEnt) ∷ [])
    (turned _ dir) refl (is_short_name name f) (is_valid_name name f)

module _ (t : Tree) (view : View) (number : Key) (name : List ℕ) (named : length (view_name view).0 ≡ 20) (numbered : length number.0 ≡ 20) (well_formed : IsFileName name) where
  abbrev later_checks : Object → List Check
  later_checks o = (not (may_search superuser o.inode), status.Acces) ∷ too_long_name name ∷ invalid_name name
      ∷ (is_none (target_of t o.number name), status.NoEnt) ∷ []

  abbrev looked_up : Object → Reply
  looked_up o = unless (lookup_checks t superuser o name) (tail.Attributes (Some (attributes t view o))) (found t view o (target_of t o.number name))

  abbrev with_object : Result Object NfsStatus → Reply
  with_object o = about o (tail.Attributes None) looked_up

  answer_is : (o : Result Object NfsStatus) → live_object t number ≡ o → answer t view superuser (call.Lookup (handle_of view number) name) ≡ with_object o
  answer_is o e = ap with_object (object_of_handle t view number named numbered ∙ e)

  pub lookup_stale : live_object t number ≡ Err status.Stale
      → answer t view superuser (call.Lookup (handle_of view number) name) ≡ reply.Refused status.Stale (tail.Attributes None)
  lookup_stale e = answer_is (Err status.Stale) e

  pub lookup_not_directory : (o : Object) → live_object t number ≡ Ok o → directory_kind o.inode.kind ≡ false
      → answer t view superuser (call.Lookup (handle_of view number) name) ≡ reply.Refused status.NotDir (tail.Attributes (Some (attributes t view o)))
  lookup_not_directory o e dir = answer_is (Ok o) e
      ∙ one_fails (lookup_checks t superuser o name) _ _ status.NotDir (fails (not (directory_kind o.inode.kind), status.NotDir) (later_checks o) (turned_back _ dir))

  pub lookup_no_entry : (o : Object) → live_object t number ≡ Ok o → directory_kind o.inode.kind ≡ true → entry t o.number name ≡ None
      → answer t view superuser (call.Lookup (handle_of view number) name) ≡ reply.Refused status.NoEnt (tail.Attributes (Some (attributes t view o)))
  lookup_no_entry o e dir none = answer_is (Ok o) e
      ∙ one_fails (lookup_checks t superuser o name) _ _ status.NoEnt
      (lookup_decided t o name well_formed dir ∙ fails (is_none (target_of t o.number name), status.NoEnt) [] (ap is_none (target_is_entry t o.number name well_formed ∙ none)))

  pub lookup_found : (o : Object) (k : Key) → live_object t number ≡ Ok o → directory_kind o.inode.kind ≡ true → entry t o.number name ≡ Some k
      → answer t view superuser (call.Lookup (handle_of view number) name) ≡ found t view o (Some k)
  lookup_found o k e dir some = answer_is (Ok o) e
      ∙ all_pass (lookup_checks t superuser o name) _ _
      (lookup_decided t o name well_formed dir ∙ passes (is_none (target_of t o.number name), status.NoEnt) [] (ap is_none (target_is_entry t o.number name well_formed ∙ some)))
      ∙ ap (found t view o) (target_is_entry t o.number name well_formed ∙ some)

-- what is found: the object with its attributes, or a name without an inode
pub found_there : (t : Tree) (view : View) (o : Object) (k : Key) (i : Inode) → inode_at t k ≡ Some i
    → found t view o (Some k) ≡ reply.Found (handle_of view k) (Some (attributes t view (record { number = k; inode = i }))) (Some (attributes t view o))
found_there t view o k i there = ap (found_inode t view o k) there

pub found_nothing : (t : Tree) (view : View) (o : Object) (k : Key) → inode_at t k ≡ None
    → found t view o (Some k) ≡ reply.Refused status.Stale (tail.Attributes (Some (attributes t view o)))
found_nothing t view o k missing = ap (found_inode t view o k) missing

-- ---- MKDIR

taken_by : (a b c : Bool) → a ≡ false → b ≡ false → (a || b || c) ≡ c
taken_by a b c p q = rw (p, q) refl

taken_is_there : (t : Tree) (o : Object) (name : List ℕ) → IsFileName name → (taken t o name).0 ≡ is_some (entry t o.number name)
taken_is_there t o name f = taken_by (is_dot name) (is_dot_dot name) _ (is_not_dot name f) (is_not_dot_dot name f)

module _ (t : Tree) (view : View) (number : Key) (name : List ℕ) (named : length (view_name view).0 ≡ 20) (numbered : length number.0 ≡ 20) (well_formed : IsFileName name) (m : ℕ) (now : Moment) (own : PubKey) (seq : ℕ) where
  abbrev later_make_checks : Object → List Check
  later_make_checks o = (not (may_change superuser o), status.Acces)
      ∷ too_long_name name ∷ invalid_name name ∷ invalid_times (only_mode m) ∷ taken t o name ∷ []

  abbrev make_checks : Object → List Check
  make_checks o = (not (directory_kind o.inode.kind), status.NotDir) ∷ later_make_checks o

  abbrev new_directory : Object → List Op
  new_directory o = op.Inode (inode_number own seq) Dir (m % 4096) 0 0 [] ∷ op.Link o.number name (inode_number own seq) ∷ []

  abbrev planned : Result Object NfsStatus → Plan
  planned o = about_plan o (tail.Cache no_cache_data) (λ dir.
      unless_plan (make_checks dir) (tail.Cache (cache_data t t view dir.number)) (Operations (new_directory dir)))

  plan_is : (o : Result Object NfsStatus) → live_object t number ≡ o → plan t view superuser (call.MkDir (handle_of view number) name (only_mode m)) now own seq ≡ planned o
  plan_is o e = ap planned (object_of_handle t view number named numbered ∙ e)

  make_decided : (o : Object) → directory_kind o.inode.kind ≡ true → first_failure (make_checks o) ≡ first_failure (taken t o name ∷ [])
  make_decided o dir =
      after_four (not (directory_kind o.inode.kind), status.NotDir) (not (may_change superuser o), status.Acces) (too_long_name name) (invalid_name name)
      (invalid_times (only_mode m) ∷ taken t o name ∷ [])
      (turned _ dir) refl (is_short_name name well_formed) (is_valid_name name well_formed)
      ∙ passes (invalid_times (only_mode m)) (taken t o name ∷ []) refl

  pub plan_stale : live_object t number ≡ Err status.Stale
      → plan t view superuser (call.MkDir (handle_of view number) name (only_mode m)) now own seq ≡ Refuse (reply.Refused status.Stale (tail.Cache no_cache_data))
  plan_stale e = plan_is (Err status.Stale) e

  pub plan_not_directory : (o : Object) → live_object t number ≡ Ok o → directory_kind o.inode.kind ≡ false
      → plan t view superuser (call.MkDir (handle_of view number) name (only_mode m)) now own seq ≡ Refuse (reply.Refused status.NotDir (tail.Cache (cache_data t t view o.number)))
  plan_not_directory o e dir = plan_is (Ok o) e
      ∙ one_fails_plan (make_checks o) _ _ status.NotDir (fails (not (directory_kind o.inode.kind), status.NotDir) (later_make_checks o) (turned_back _ dir))

  pub plan_exists : (o : Object) (k : Key) → live_object t number ≡ Ok o → directory_kind o.inode.kind ≡ true → entry t o.number name ≡ Some k
      → plan t view superuser (call.MkDir (handle_of view number) name (only_mode m)) now own seq ≡ Refuse (reply.Refused status.Exist (tail.Cache (cache_data t t view o.number)))
  plan_exists o k e dir some = plan_is (Ok o) e
      ∙ one_fails_plan (make_checks o) _ _ status.Exist
      (make_decided o dir ∙ fails (taken t o name) [] (taken_is_there t o name well_formed ∙ ap is_some some))

  pub plan_makes : (o : Object) → live_object t number ≡ Ok o → directory_kind o.inode.kind ≡ true → entry t o.number name ≡ None
      → plan t view superuser (call.MkDir (handle_of view number) name (only_mode m)) now own seq
      ≡ Operations (op.Inode (inode_number own seq) Dir (m % 4096) 0 0 [] ∷ op.Link o.number name (inode_number own seq) ∷ [])
  plan_makes o e dir none = plan_is (Ok o) e
      ∙ all_pass_plan (make_checks o) _ _
      (make_decided o dir ∙ passes (taken t o name) [] (taken_is_there t o name well_formed ∙ ap is_some none))

  -- the answer once the two operations stand
  pub finish_makes : (o : Object) (after : Tree) → live_object t number ≡ Ok o
      → finish t after view superuser (call.MkDir (handle_of view number) name (only_mode m)) (op.Inode (inode_number own seq) Dir (m % 4096) 0 0 [] ∷ op.Link o.number name (inode_number own seq) ∷ [])
      ≡ reply.Made (handle_of view (inode_number own seq)) (attributes_at after view (inode_number own seq)) (cache_data t after view o.number)
  finish_makes o after e = ap (λ (dir : Result Object NfsStatus). made t after view dir (Some (inode_number own seq))) (object_of_handle t view number named numbered ∙ e)
