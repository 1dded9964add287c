-- What reading procedures and MOUNT answer are replies of theirs.
use Rattle.std.proofs.Common.{◌≡◌, ℕ, ◌≤◌, Bool, true, false, cond, not, ◌||◌, ◌&&◌, List, [], ◌∷◌, length, Option, Some, None, refl, arith}
use Rattle.std.specs.Prelude.{IfSome}
use Rattle.std.proofs.lemmas.Nat.{and_le_r}
use Rattle.ivy_base.specs.declared.key.Key.{Key}
use Rattle.ivy_base.specs.Naming.{root_number}
use Rattle.tree_model.specs.Tree.{Tree, Inode, inode_at, file_kind, directory_kind}
use Rattle.log_model.specs.View.{View}
use Rattle.wire_model.specs.Rpc.{Identity}
use Rattle.nfs_model.specs.declared.arguments.Args.{Args}
use Rattle.nfs_model.specs.declared.arguments.Args.TheVariants as call
use Rattle.nfs_model.specs.declared.arguments.SpecialNode.{SpecialNode}
use Rattle.nfs_model.specs.declared.replies.Fattr.{Fattr}
use Rattle.nfs_model.specs.declared.replies.NfsStatus.{NfsStatus}
use Rattle.nfs_model.specs.declared.replies.NfsStatus.TheVariants.{NoEnt, Inval, Acces, NotSupp, Stale}
use Rattle.nfs_model.specs.declared.replies.Tail.TheVariants as tails
use Rattle.nfs_model.specs.declared.replies.Reply.{Reply}
use Rattle.nfs_model.specs.declared.replies.Reply.TheVariants as reply
use Rattle.nfs_model.specs.Arguments.{program_of, nfs_program}
use Rattle.nfs_model.specs.Changing.{is_changing}
use Rattle.nfs_model.specs.Checks.{same_bytes}
use Rattle.nfs_model.specs.Objects.{Object, handle_of, object_of, may_read, may_write, may_search, is_owner, attributes, cache_data, no_cache_data}
use Rattle.nfs_model.specs.Reading.{answer, get_attributes, lookup, lookup_checks, target_of, found, found_inode, access, granted_bits, link_kind, read_link, read, make_node, commit, with_attributes}
use Rattle.nfs_model.specs.Replies.{IsFattr, tail_form_of, result_form_of, IsFittingReply}
use Rattle.nfs_laws.specs.Replies.{TreeFits, AnswersAreReplies, MountsAreReplies}
use Rattle.nfs_laws.proofs.Fields.{handle_fits, object_fits, cache_fits, no_cache_fits, with_object, about_object, behind_checks}
use Rattle.nfs_laws.proofs.PageForms.{form_directory, form_directory_plus}
use Rattle.nfs_laws.proofs.Lengths.{target_has_key, few_read}
use Rattle.nfs_laws.proofs.Plans.{HasKey}
use Rattle.nfs_laws.proofs.Ways.{with_unless, with_about, is_object}

module _ (t : Tree) (view : View) (who : Identity) (tree : TreeFits t) where
  module _ (args : Args) (form : 1 ≡ tail_form_of args) where
    form_with_attributes : (handle : List ℕ) (numbers : Option Fattr → Reply) → ((o : Option Fattr) → IfSome o IsFattr → IsFittingReply args (numbers o))
        → IsFittingReply args (with_attributes t view handle numbers)
    form_with_attributes handle numbers h = about_object t view tree args form handle _ (λ o e fits. h (Some (attributes t view o)) fits)

  -- MKNOD and COMMIT say what the object was before and after
  module _ (args : Args) (form : 2 ≡ tail_form_of args) where
    with_cache : (number : Key) (fault : NfsStatus) → IsFittingReply args (reply.Refused fault (tails.Cache (cache_data t t view number)))
    with_cache number fault = record { form = form; fits = cache_fits t t view number tree tree }

    with_no_cache : (fault : NfsStatus) → IsFittingReply args (reply.Refused fault (tails.Cache no_cache_data))
    with_no_cache fault = record { form = form; fits = no_cache_fits }

  form_get_attributes : (handle : List ℕ) → IsFittingReply (call.GetAttr handle) (get_attributes t view handle)
  form_get_attributes handle = with_about (IsFittingReply (call.GetAttr handle)) tails.Empty (λ fault. record { form = refl; fits = tt }) (object_of t view handle) _
      (λ o e. record { form = refl; fits = object_fits t view o tree (is_object t view handle o e) })

  -- ---- LOOKUP

  module _ (args : Args) (refused : 1 ≡ tail_form_of args) (done : 3 ≡ result_form_of args) where
    form_found_inode : (dir : Object) → IsFattr (attributes t view dir) → (number : Key) → length number.0 ≡ 20 → (i : Option Inode) → inode_at t number ≡ i
        → IsFittingReply args (found_inode t view dir number i)
    form_found_inode dir fits number size None at = with_object t view tree args refused dir fits Stale
    form_found_inode dir fits number size (Some i) at = record {
      form = done;
      fits = (handle_fits view number size, object_fits t view (record { number = number; inode = i }) tree (record { number = size; inode = at }), fits);
    }

    form_found : (dir : Object) → IsFattr (attributes t view dir) → (number : Option Key) → HasKey number → IsFittingReply args (found t view dir number)
    form_found dir fits None key = with_object t view tree args refused dir fits NoEnt
    form_found dir fits (Some number) key = form_found_inode dir fits number key (inode_at t number) refl

  form_lookup : (handle name : List ℕ) → IsFittingReply (call.Lookup handle name) (lookup t view who handle name)
  form_lookup handle name = about_object t view tree (call.Lookup handle name) refl handle _ (λ dir e fits.
      behind_checks t view tree (call.Lookup handle name) refl dir fits (lookup_checks t who dir name) _ (λ passed.
      form_found (call.Lookup handle name) refl refl dir fits (target_of t dir.number name) (target_has_key t view who dir.number name tree.names (is_object t view handle dir e).number)))

  -- ---- ACCESS, READLINK and READ

  at_most : (b : Bool) (n : ℕ) → cond b n 0 ≤ n
  at_most true n = omega arith
  at_most false n = omega arith

  few_granted : (i : Inode) → granted_bits who i ≤ 63
  few_granted i = omega (
    arith,
    at_most (may_read who i) 1,
    at_most (may_search who i && directory_kind i.kind) 2,
    at_most (may_write who i) 12,
    at_most (may_write who i && directory_kind i.kind) 16,
    at_most (may_search who i && not (directory_kind i.kind)) 32,
  )

  form_access : (handle : List ℕ) (bits : ℕ) → IsFittingReply (call.Access handle bits) (access t view who handle bits)
  form_access handle bits = about_object t view tree (call.Access handle bits) refl handle _ (λ o e fits. record {
    form = refl;
    fits = (fits, omega (arith, few_granted o.inode, and_le_r bits (granted_bits who o.inode)));
  })

  form_read_link : (handle : List ℕ) → IsFittingReply (call.ReadLink handle) (read_link t view handle)
  form_read_link handle = about_object t view tree (call.ReadLink handle) refl handle _ (λ o e fits.
      behind_checks t view tree (call.ReadLink handle) refl o fits ((not (link_kind o.inode.kind), Inval) ∷ []) _ (λ passed. record {
        form = refl;
        fits = (fits, omega (arith, (tree.inodes o.number o.inode (is_object t view handle o e).inode).few));
      }))

  form_read : (handle : List ℕ) (offset count : ℕ) → IsFittingReply (call.Read handle offset count) (read t view who handle offset count)
  form_read handle offset count = about_object t view tree (call.Read handle offset count) refl handle _ (λ o e fits.
      behind_checks t view tree (call.Read handle offset count) refl o fits ((not (file_kind o.inode.kind), Inval) ∷ (not (may_read who o.inode || is_owner who o.inode), Acces) ∷ []) _ (λ passed.
      let few = few_read t view who o.inode.body offset count in
      record { form = refl; fits = (fits, omega (arith, few), omega (arith, few)) }))

  -- ---- MKNOD and COMMIT

  form_make_node : (handle name : List ℕ) (node : SpecialNode) → IsFittingReply (call.MkNod handle name node) (make_node t view handle)
  form_make_node handle name node = with_about (IsFittingReply (call.MkNod handle name node)) (tails.Cache no_cache_data) (with_no_cache (call.MkNod handle name node) refl) (object_of t view handle) _
      (λ dir e. with_cache (call.MkNod handle name node) refl dir.number NotSupp)

  form_commit : (handle : List ℕ) (offset count : ℕ) → IsFittingReply (call.Commit handle offset count) (commit t view handle)
  form_commit handle offset count =
      with_about (IsFittingReply (call.Commit handle offset count)) (tails.Cache no_cache_data) (with_no_cache (call.Commit handle offset count) refl) (object_of t view handle) _ (λ o e.
      with_unless (IsFittingReply (call.Commit handle offset count)) (tails.Cache (cache_data t t view o.number)) (with_cache (call.Commit handle offset count) refl o.number)
      ((not (file_kind o.inode.kind), Inval) ∷ []) _ (λ passed. record { form = refl; fits = cache_fits t t view o.number tree tree }))

  form_answer : (args : Args) → program_of args ≡ nfs_program → is_changing args ≡ false → IsFittingReply args (answer t view who args)
  form_answer call.Null program reading = record { form = refl; fits = tt }
  form_answer (call.GetAttr handle) program reading = form_get_attributes handle
  form_answer (call.Lookup dir name) program reading = form_lookup dir name
  form_answer (call.Access handle bits) program reading = form_access handle bits
  form_answer (call.ReadLink handle) program reading = form_read_link handle
  form_answer (call.Read handle offset count) program reading = form_read handle offset count
  form_answer (call.MkNod dir name node) program reading = form_make_node dir name node
  form_answer (call.ReadDir dir cookie verifier count) program reading = form_directory t view who tree dir cookie verifier count
  form_answer (call.ReadDirPlus dir cookie verifier dircount maxcount) program reading = form_directory_plus t view who tree dir cookie verifier dircount maxcount
  form_answer (call.FsStat handle) program reading = form_with_attributes (call.FsStat handle) refl handle reply.Space (λ o fits. record { form = refl; fits = fits })
  form_answer (call.FsInfo handle) program reading = form_with_attributes (call.FsInfo handle) refl handle reply.Limits (λ o fits. record { form = refl; fits = fits })
  form_answer (call.PathConf handle) program reading = form_with_attributes (call.PathConf handle) refl handle reply.Paths (λ o fits. record { form = refl; fits = fits })
  form_answer (call.Commit file offset count) program reading = form_commit file offset count
  -- the changing procedures
  form_answer (call.SetAttr object what guard) program reading = cc
  form_answer (call.Write file offset count stable bytes) program reading = cc
  form_answer (call.Create dir name how) program reading = cc
  form_answer (call.MkDir dir name what) program reading = cc
  form_answer (call.SymLink dir name what text) program reading = cc
  form_answer (call.Remove dir name) program reading = cc
  form_answer (call.RmDir dir name) program reading = cc
  form_answer (call.Rename dir name to_dir to_name) program reading = cc
  form_answer (call.Link file dir name) program reading = cc
  -- and MOUNT
  form_answer args program reading = absurd (omega (arith, program))

pub answers_are_replies : AnswersAreReplies
answers_are_replies t view who args tree program reading = form_answer t view who tree args program reading

-- ---- MOUNT

form_mount : (view : View) (path : List ℕ) (b : Bool) → IsFittingReply (call.Mnt path) (cond b (reply.Mounted (handle_of view root_number)) reply.NoSuchPath)
form_mount view path true = record { form = refl; fits = handle_fits view root_number refl }
form_mount view path false = record { form = refl; fits = tt }

pub mounts_are_replies : MountsAreReplies
mounts_are_replies view (call.Mnt path) program = form_mount view path (same_bytes path (47 ∷ []))
mounts_are_replies view call.Dump program = record { form = refl; fits = tt }
mounts_are_replies view call.Export program = record { form = refl; fits = tt }
mounts_are_replies view call.MountNull program = record { form = refl; fits = tt }
mounts_are_replies view (call.Umnt path) program = record { form = refl; fits = tt }
mounts_are_replies view call.UmntAll program = record { form = refl; fits = tt }
mounts_are_replies view args program = absurd (omega (arith, program))
