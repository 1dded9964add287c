-- Answers computed on small trees: a lookup and a new directory, called by the superuser, in the root alone and in the
-- root with one directory and one file. The numbers that come from SHA-1 were computed outside.
use Rattle.std.proofs.Common.{◌≡◌, ℕ, List, [], ◌∷◌, ◌++◌, replicate, Some, None, refl}
use Rattle.sha1.specs.Sha1.{sha1, schedule, first_words, rounds, hash_after, compress, digest_bytes}
use Rattle.ivy_base.specs.declared.key.Key.{Key}
use Rattle.ivy_base.specs.declared.key.PubKey.{PubKey}
use Rattle.ivy_base.specs.declared.operation.Kind.TheVariants.{Reg, Dir}
use Rattle.ivy_base.specs.declared.operation.Moment.{Moment}
use Rattle.ivy_base.specs.declared.operation.Op.TheVariants as op
use Rattle.ivy_base.specs.Naming.{root_number, inode_number, name as name_of}
use Rattle.tree_model.specs.Tree.{Tree}
use Rattle.tree_model.specs.Apply.{empty_tree, apply_all}
use Rattle.log_model.specs.View.{View}
use Rattle.wire_model.specs.Rpc.{superuser}
use Rattle.nfs_model.specs.Arguments.{only_mode}
use Rattle.nfs_model.specs.declared.arguments.Args.TheVariants as call
use Rattle.nfs_model.specs.declared.replies.NfsStatus.{NfsStatus}
use Rattle.nfs_model.specs.declared.replies.NfsStatus.TheVariants as status
use Rattle.nfs_model.specs.declared.replies.Fattr.{Fattr}
use Rattle.nfs_model.specs.declared.replies.Tail.TheVariants as tail
use Rattle.nfs_model.specs.declared.replies.Reply.{Reply}
use Rattle.nfs_model.specs.declared.replies.Reply.TheVariants as reply
use Rattle.nfs_model.specs.declared.replies.Wcc.{Wcc}
use Rattle.nfs_model.specs.Objects.{handle_of, no_cache_data, handle_tag}
use Rattle.nfs_model.specs.Reading.{answer}
use Rattle.nfs_model.specs.Changing.{Plan, Refuse, Operations, plan, finish}
use Rattle.nfs_model.specs.Replies.{IsReplyTo}

-- ---- the trees, and what is said of their objects

unfoldable own : PubKey
own = record { 0 = replicate 60 7 }

unfoldable view : View
view = record { members = own ∷ []; former = [] }

abbrev at : ℕ → Moment
at n = record { sec = n; nsec = 0 }

abbrev key : ℕ → Key
key n = record { 0 = replicate 19 0 ++ n ∷ [] }

-- "d" is a directory and "f" a file
unfoldable tree : Tree
tree = apply_all empty_tree ((at 5, op.Inode (key 1) Dir 493 0 0 []) ∷ (at 5, op.Link root_number (100 ∷ []) (key 1))
    ∷ (at 6, op.Inode (key 2) Reg 420 0 0 []) ∷ (at 6, op.Link root_number (102 ∷ []) (key 2)) ∷ [])

unfoldable root_handle : List ℕ
root_handle = handle_of view root_number

-- the first eight bytes of the view's name
abbrev fsid : ℕ
fsid = 16495697789025328515

abbrev root_with : ℕ → ℕ → Fattr
root_with links changed = record { kind = Dir; mode = 511; nlink = links; uid = 0; gid = 0; size = 4096; used = 4096; fsid = fsid; fileid = 1; atime = at 0; mtime = at changed; ctime = at changed }

abbrev directory : Fattr
directory = record { kind = Dir; mode = 493; nlink = 2; uid = 0; gid = 0; size = 4096; used = 4096; fsid = fsid; fileid = 0; atime = at 5; mtime = at 5; ctime = at 5 }

abbrev file : Fattr
file = record { kind = Reg; mode = 420; nlink = 1; uid = 0; gid = 0; size = 0; used = 0; fsid = fsid; fileid = 0; atime = at 6; mtime = at 6; ctime = at 6 }

-- ---- LOOKUP

unfoldable looked_up : Tree → List ℕ → List ℕ → Reply
looked_up t handle name = answer t view superuser (call.Lookup handle name)

abbrev refused : NfsStatus → Fattr → Reply
refused fault dir = reply.Refused fault (tail.Attributes (Some dir))

finds_directory : looked_up tree root_handle (100 ∷ []) ≡ reply.Found (handle_of view (key 1)) (Some directory) (Some (root_with 3 6))
unfolding own view tree root_handle looked_up name_of sha1 schedule first_words rounds hash_after compress digest_bytes
finds_directory = refl

finds_file : looked_up tree root_handle (102 ∷ []) ≡ reply.Found (handle_of view (key 2)) (Some file) (Some (root_with 3 6))
unfolding own view tree root_handle looked_up name_of sha1 schedule first_words rounds hash_after compress digest_bytes
finds_file = refl

finds_itself : looked_up tree root_handle (46 ∷ []) ≡ reply.Found root_handle (Some (root_with 3 6)) (Some (root_with 3 6))
unfolding own view tree root_handle looked_up name_of sha1 schedule first_words rounds hash_after compress digest_bytes
finds_itself = refl

finds_parent : looked_up tree (handle_of view (key 1)) (46 ∷ 46 ∷ []) ≡ reply.Found root_handle (Some (root_with 3 6)) (Some directory)
unfolding own view tree root_handle looked_up name_of sha1 schedule first_words rounds hash_after compress digest_bytes
finds_parent = refl

root_is_its_parent : looked_up empty_tree root_handle (46 ∷ 46 ∷ []) ≡ reply.Found root_handle (Some (root_with 2 0)) (Some (root_with 2 0))
unfolding own view tree root_handle looked_up name_of sha1 schedule first_words rounds hash_after compress digest_bytes
root_is_its_parent = refl

no_entry : looked_up empty_tree root_handle (100 ∷ []) ≡ refused status.NoEnt (root_with 2 0)
unfolding own view tree root_handle looked_up name_of sha1 schedule first_words rounds hash_after compress digest_bytes
no_entry = refl

not_a_directory : looked_up tree (handle_of view (key 2)) (100 ∷ []) ≡ refused status.NotDir file
unfolding own view tree root_handle looked_up name_of sha1 schedule first_words rounds hash_after compress digest_bytes
not_a_directory = refl

too_long : looked_up empty_tree root_handle (replicate 256 97) ≡ refused status.NameTooLong (root_with 2 0)
unfolding own view tree root_handle looked_up name_of sha1 schedule first_words rounds hash_after compress digest_bytes
too_long = refl

longest : looked_up empty_tree root_handle (replicate 255 97) ≡ refused status.NoEnt (root_with 2 0)
unfolding own view tree root_handle looked_up name_of sha1 schedule first_words rounds hash_after compress digest_bytes
longest = refl

empty_name : looked_up empty_tree root_handle [] ≡ refused status.Inval (root_with 2 0)
unfolding own view tree root_handle looked_up name_of sha1 schedule first_words rounds hash_after compress digest_bytes
empty_name = refl

slash : looked_up empty_tree root_handle (97 ∷ 47 ∷ []) ≡ refused status.Inval (root_with 2 0)
unfolding own view tree root_handle looked_up name_of sha1 schedule first_words rounds hash_after compress digest_bytes
slash = refl

zero_byte : looked_up empty_tree root_handle (0 ∷ []) ≡ refused status.Inval (root_with 2 0)
unfolding own view tree root_handle looked_up name_of sha1 schedule first_words rounds hash_after compress digest_bytes
zero_byte = refl

stale : looked_up tree (handle_of view (key 3)) (100 ∷ []) ≡ reply.Refused status.Stale (tail.Attributes None)
unfolding own view tree root_handle looked_up name_of sha1 schedule first_words rounds hash_after compress digest_bytes
stale = refl

-- a handle of another view
stale_view : looked_up tree (handle_of (record { members = own ∷ []; former = own ∷ [] }) (key 1)) (100 ∷ []) ≡ reply.Refused status.Stale (tail.Attributes None)
unfolding own view tree root_handle looked_up name_of sha1 schedule first_words rounds hash_after compress digest_bytes
stale_view = refl

bad_handle : looked_up tree handle_tag (100 ∷ []) ≡ reply.Refused status.BadHandle (tail.Attributes None)
unfolding own view tree root_handle looked_up name_of sha1 schedule first_words rounds hash_after compress digest_bytes
bad_handle = refl

-- ---- MKDIR

unfoldable planned : Tree → List ℕ → List ℕ → Plan
planned t handle name = plan t view superuser (call.MkDir handle name (only_mode 33261)) (at 7) own 2

abbrev only_root : ℕ → ℕ → Wcc
only_root links changed = record { before = Some (record { size = 4096; mtime = at changed; ctime = at changed }); after = Some (root_with links changed) }

abbrev refused_plan : NfsStatus → Wcc → Plan
refused_plan fault dir = Refuse (reply.Refused fault (tail.Cache dir))

-- of the mode 0100755 the low 12 bits are taken
makes : planned empty_tree root_handle (100 ∷ []) ≡ Operations (op.Inode (inode_number own 2) Dir 493 0 0 [] ∷ op.Link root_number (100 ∷ []) (inode_number own 2) ∷ [])
unfolding own view tree root_handle looked_up planned name_of sha1 schedule first_words rounds hash_after compress digest_bytes
makes = refl

exists : planned tree root_handle (100 ∷ []) ≡ refused_plan status.Exist (only_root 3 6)
unfolding own view tree root_handle looked_up planned name_of sha1 schedule first_words rounds hash_after compress digest_bytes
exists = refl

dot_exists : planned tree root_handle (46 ∷ []) ≡ refused_plan status.Exist (only_root 3 6)
unfolding own view tree root_handle looked_up planned name_of sha1 schedule first_words rounds hash_after compress digest_bytes
dot_exists = refl

dot_dot_exists : planned empty_tree root_handle (46 ∷ 46 ∷ []) ≡ refused_plan status.Exist (only_root 2 0)
unfolding own view tree root_handle looked_up planned name_of sha1 schedule first_words rounds hash_after compress digest_bytes
dot_dot_exists = refl

makes_too_long : planned empty_tree root_handle (replicate 256 97) ≡ refused_plan status.NameTooLong (only_root 2 0)
unfolding own view tree root_handle looked_up planned name_of sha1 schedule first_words rounds hash_after compress digest_bytes
makes_too_long = refl

makes_empty : planned empty_tree root_handle [] ≡ refused_plan status.Inval (only_root 2 0)
unfolding own view tree root_handle looked_up planned name_of sha1 schedule first_words rounds hash_after compress digest_bytes
makes_empty = refl

makes_slash : planned empty_tree root_handle (47 ∷ []) ≡ refused_plan status.Inval (only_root 2 0)
unfolding own view tree root_handle looked_up planned name_of sha1 schedule first_words rounds hash_after compress digest_bytes
makes_slash = refl

makes_stale : planned empty_tree (handle_of view (key 1)) (100 ∷ []) ≡ refused_plan status.Stale no_cache_data
unfolding own view tree root_handle looked_up planned name_of sha1 schedule first_words rounds hash_after compress digest_bytes
makes_stale = refl

makes_in_file : planned tree (handle_of view (key 2)) (100 ∷ []) ≡ refused_plan status.NotDir (record { before = Some (record { size = 0; mtime = at 6; ctime = at 6 }); after = Some file })
unfolding own view tree root_handle looked_up planned name_of sha1 schedule first_words rounds hash_after compress digest_bytes
makes_in_file = refl

-- the reply once the records stand: the root before and after, with one link more
unfoldable with_d : Tree
with_d = apply_all empty_tree ((at 5, op.Inode (key 1) Dir 493 0 0 []) ∷ (at 5, op.Link root_number (100 ∷ []) (key 1)) ∷ [])

made : finish empty_tree with_d view superuser (call.MkDir root_handle (100 ∷ []) (only_mode 493)) (op.Inode (key 1) Dir 493 0 0 [] ∷ op.Link root_number (100 ∷ []) (key 1) ∷ [])
    ≡ reply.Made (handle_of view (key 1)) (Some directory) (record { before = Some (record { size = 4096; mtime = at 0; ctime = at 0 }); after = Some (root_with 3 5) })
unfolding own view root_handle with_d name_of sha1 schedule first_words rounds hash_after compress digest_bytes
made = refl

-- ---- these are replies to their procedures

found_is_reply : IsReplyTo (call.Lookup root_handle (100 ∷ [])) (looked_up tree root_handle (100 ∷ []))
unfolding own view tree root_handle looked_up name_of sha1 schedule first_words rounds hash_after compress digest_bytes
found_is_reply = refl

refusal_is_reply : IsReplyTo (call.Lookup root_handle []) (looked_up tree root_handle [])
unfolding own view tree root_handle looked_up name_of sha1 schedule first_words rounds hash_after compress digest_bytes
refusal_is_reply = refl

made_is_reply : IsReplyTo (call.MkDir root_handle (100 ∷ []) (only_mode 493)) (finish empty_tree with_d view superuser (call.MkDir root_handle (100 ∷ []) (only_mode 493)) (op.Inode (key 1) Dir 493 0 0 [] ∷ op.Link root_number (100 ∷ []) (key 1) ∷ []))
unfolding own view root_handle with_d name_of sha1 schedule first_words rounds hash_after compress digest_bytes
made_is_reply = refl
