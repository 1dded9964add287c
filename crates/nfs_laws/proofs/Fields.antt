-- What the replies say of a tree's objects is within the bounds of its fields.
use Rattle.std.proofs.Common.{◌≡◌, ℕ, zero, suc, ◌<◌, ◌^◌, Bool, true, false, cond, List, [], ◌∷◌, length, take, get_or, Option, Some, None, Result, Ok, Err, refl, ap, arith}
use Rattle.std.specs.Prelude.{option_map, IfSome, nat_lt, is_some}
use Rattle.std.specs.List.{list_all}
use Rattle.std.specs.Int.{w64, from_be_bytes}
use Rattle.std.proofs.lemmas.Bool.{ltb-true}
use Rattle.ivy_base.specs.declared.key.Key.{Key}
use Rattle.ivy_base.specs.declared.operation.Moment.{Moment}
use Rattle.ivy_base.proofs.NameLemmas.{length-name, bytes-name}
use Rattle.tree_model.specs.Tree.{Tree, Inode, inode_at, is_directory}
use Rattle.tree_model.proofs.Sound.{both_true}
use Rattle.log_model.specs.Spelling.{IsKey, IsMoment}
use Rattle.log_model.specs.View.{View, view_name, view_block}
use Rattle.wire_model.specs.Xdr.{IsWordMoment}
use Rattle.nfs_model.specs.declared.arguments.Args.{Args}
use Rattle.nfs_model.specs.declared.replies.NfsStatus.{NfsStatus}
use Rattle.nfs_model.specs.declared.replies.Tail.TheVariants as tails
use Rattle.nfs_model.specs.declared.replies.Reply.{Reply}
use Rattle.nfs_model.specs.declared.replies.Reply.TheVariants as reply
use Rattle.nfs_model.specs.Answers.{about, unless}
use Rattle.nfs_model.specs.Arguments.{IsHandle}
use Rattle.nfs_model.specs.Changing.{cache_of, attributes_of}
use Rattle.nfs_model.specs.Checks.{Check}
use Rattle.nfs_model.specs.Objects.{Object, object_of, handle_of, leading_number, size_of, attributes, attributes_at, cache_data, no_cache_data}
use Rattle.nfs_model.specs.Replies.{IsFattr, IsBefore, IsWcc, tail_form_of, IsFittingReply}
use Rattle.nfs_laws.specs.Replies.{InodeFits, TreeFits}
use Rattle.nfs_laws.proofs.Sizes.{most_handle}
use Rattle.nfs_laws.proofs.Ways.{Pass, with_unless, with_about, IsObject, is_object}

-- ---- numbers and handles

-- the first bytes of a list of bytes are bytes
byte_of : (n : ℕ) (bytes : List ℕ) → list_all (λ b. nat_lt b 256) bytes ≡ true → (i : ℕ) → get_or (take n bytes) i 0 < 256
byte_of zero bytes h i = omega arith
byte_of (suc n) [] h i = omega arith
byte_of (suc n) (b ∷ bytes) h zero = ltb-true b 256 (both_true (nat_lt b 256) _ h).0
byte_of (suc n) (b ∷ bytes) h (suc i) = byte_of n bytes (both_true (nat_lt b 256) _ h).1 i

eight_bytes : (bytes : List ℕ) → ((i : ℕ) → get_or bytes i 0 < 256) → from_be_bytes w64 bytes < 2 ^ 64
eight_bytes bytes small = omega (arith, small 0, small 1, small 2, small 3, small 4, small 5, small 6, small 7)

pub number_fits : (k : Key) → IsKey k → leading_number k < 2 ^ 64
number_fits k key = eight_bytes (take 8 k.0) (byte_of 8 k.0 key.each)

view_key : (view : View) → IsKey (view_name view)
view_key view = record { size = length-name (view_block view); each = bytes-name (view_block view) }

pub handle_fits : (view : View) (number : Key) → length number.0 ≡ 20 → IsHandle (handle_of view number)
handle_fits view number size = omega (arith, most_handle view number size)

-- ---- attributes

word_moment : (m : Moment) → IsMoment m → IsWordMoment m
word_moment m fits = (fits.sec, omega (arith, fits.nsec))

size_fits : (i : Inode) → InodeFits i → size_of i < 2 ^ 64
size_fits i fits = by (is_directory (Some i))
  where
    by : (b : Bool) → cond b 4096 (length i.body) < 2 ^ 64
    by true = omega arith
    by false = omega (arith, fits.few)

fattr_fits : (t : Tree) (view : View) (o : Object) → IsKey o.number → InodeFits o.inode → IsFattr (attributes t view o)
fattr_fits t view o key fits = record {
  mode = omega (arith, fits.mode);
  nlink = omega arith;
  uid = fits.uid;
  gid = fits.gid;
  size = size_fits o.inode fits;
  used = size_fits o.inode fits;
  fsid = number_fits (view_name view) (view_key view);
  fileid = number_fits o.number key;
  atime = word_moment o.inode.attributes.atime fits.atime;
  mtime = word_moment o.inode.attributes.mtime fits.mtime;
  ctime = word_moment o.inode.attributes.ctime fits.ctime;
}

before_fits : (i : Inode) → InodeFits i → IsBefore (record { size = size_of i; mtime = i.attributes.mtime; ctime = i.attributes.ctime })
before_fits i fits = record { size = size_fits i fits; mtime = word_moment i.attributes.mtime fits.mtime; ctime = word_moment i.attributes.ctime fits.ctime }

-- an object that was found
pub object_fits : (t : Tree) (view : View) (o : Object) → TreeFits t → IsObject t o → IsFattr (attributes t view o)
object_fits t view o tree is = fattr_fits t view o (tree.numbers o.number (ap is_some is.inode)) (tree.inodes o.number o.inode is.inode)

pub object_key : (t : Tree) (view : View) (handle : List ℕ) → TreeFits t → (o : Object) → object_of t view handle ≡ Ok o → IsKey o.number
object_key t view handle tree o e = tree.numbers o.number (ap is_some (is_object t view handle o e).inode)

pub attributes_fit : (t : Tree) (view : View) (number : Key) → TreeFits t → IfSome (attributes_at t view number) IsFattr
attributes_fit t view number tree = by (inode_at t number) refl
  where
    by : (i : Option Inode) → inode_at t number ≡ i → IfSome (option_map (λ (i : Inode). attributes t view (record { number = number; inode = i })) i) IsFattr
    by None at = tt
    by (Some i) at = fattr_fits t view (record { number = number; inode = i }) (tree.numbers number (ap is_some at)) (tree.inodes number i at)

pub cache_fits : (before after : Tree) (view : View) (number : Key) → TreeFits before → TreeFits after → IsWcc (cache_data before after view number)
cache_fits before after view number old new = record { before = by (inode_at before number) refl; after = attributes_fit after view number new }
  where
    by : (i : Option Inode) → inode_at before number ≡ i
        → IfSome (option_map (λ (i : Inode). record { size = size_of i; mtime = i.attributes.mtime; ctime = i.attributes.ctime }) i) IsBefore
    by None at = tt
    by (Some i) at = before_fits i (old.inodes number i at)

pub no_cache_fits : IsWcc no_cache_data
no_cache_fits = record { before = tt; after = tt }

-- ---- what a refusal of two handles says of each

module _ (t : Tree) (view : View) (handle : List ℕ) (tree : TreeFits t) where
  pub cache_of_fits : IsWcc (cache_of t view (object_of t view handle))
  cache_of_fits = by (object_of t view handle)
    where
      by : (found : Result Object NfsStatus) → IsWcc (cache_of t view found)
      by (Ok o) = cache_fits t t view o.number tree tree
      by (Err fault) = no_cache_fits

  pub attributes_of_fit : IfSome (attributes_of t view (object_of t view handle)) IsFattr
  attributes_of_fit = by (object_of t view handle) refl
    where
      by : (found : Result Object NfsStatus) → object_of t view handle ≡ found → IfSome (attributes_of t view found) IsFattr
      by (Ok o) is = object_fits t view o tree (is_object t view handle o is)
      by (Err fault) is = tt

-- ---- answers about an object

module _ (t : Tree) (view : View) (tree : TreeFits t) where
  -- the object's attributes stand after a refusal
  module _ (args : Args) (form : 1 ≡ tail_form_of args) where
    pub with_object : (dir : Object) → IsFattr (attributes t view dir) → (fault : NfsStatus) → IsFittingReply args (reply.Refused fault (tails.Attributes (Some (attributes t view dir))))
    with_object dir fits fault = record { form = form; fits = fits }

    with_none : (fault : NfsStatus) → IsFittingReply args (reply.Refused fault (tails.Attributes None))
    with_none fault = record { form = form; fits = tt }

    pub about_object : (handle : List ℕ) (answer : Object → Reply) → ((o : Object) → object_of t view handle ≡ Ok o → IsFattr (attributes t view o) → IsFittingReply args (answer o))
        → IsFittingReply args (about (object_of t view handle) (tails.Attributes None) answer)
    about_object handle answer h =
        with_about (IsFittingReply args) (tails.Attributes None) with_none (object_of t view handle) answer (λ o e. h o e (object_fits t view o tree (is_object t view handle o e)))

    pub behind_checks : (o : Object) → IsFattr (attributes t view o) → (checks : List Check) (r : Reply) → (Pass checks → IsFittingReply args r)
        → IsFittingReply args (unless checks (tails.Attributes (Some (attributes t view o))) r)
    behind_checks o fits = with_unless (IsFittingReply args) (tails.Attributes (Some (attributes t view o))) (with_object o fits)
