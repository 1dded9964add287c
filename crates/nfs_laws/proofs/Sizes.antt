-- How many bytes the parts of a result take at most.
use Rattle.std.proofs.Common.{◌≡◌, ℕ, Bool, true, false, ◌+◌, ◌*◌, ◌≤◌, ◌^◌, List, [], ◌∷◌, ◌++◌, length, Option, Some, None, arith, length-append}
use Rattle.std.proofs.lemmas.List.{length-replicate}
use Rattle.ivy_base.specs.declared.key.Key.{Key}
use Rattle.ivy_base.proofs.NameLemmas.{length-name}
use Rattle.log_model.specs.View.{View, view_name, view_block}
use Rattle.wire_model.specs.Xdr.{word, double_word, boolean, padding, fixed, opaque, optional}
use Rattle.nfs_model.specs.declared.replies.Fattr.{Fattr}
use Rattle.nfs_model.specs.declared.replies.NfsStatus.{NfsStatus}
use Rattle.nfs_model.specs.declared.replies.Wcc.{Wcc}
use Rattle.nfs_model.specs.declared.replies.WccBefore.{WccBefore}
use Rattle.nfs_model.specs.declared.replies.Tail.{Tail}
use Rattle.nfs_model.specs.declared.replies.Tail.TheVariants as tails
use Rattle.nfs_model.specs.declared.replies.Reply.{Reply}
use Rattle.nfs_model.specs.declared.replies.Reply.TheVariants as reply
use Rattle.nfs_model.specs.Objects.{handle_of}
use Rattle.nfs_model.specs.Results.{status_number, fattr, before, wcc, tail, write_verifier, many, result, longest_result}
use Rattle.tree_model.specs.Tree.{longest_file}

-- at most so many bytes
pub record AtMost (bytes : List ℕ) (n : ℕ) : Type 0 where
  pub most : length bytes ≤ n

-- one part after another
infixl 60 ◌▷◌
pub ◌▷◌ : {a b : ℕ} {xs ys : List ℕ} → AtMost xs a → AtMost ys b → AtMost (xs ++ ys) (a + b)
◌▷◌ {xs} {ys} p q = record { most = omega (arith, p.most, q.most, length-append xs ys) }

pub within : {a b : ℕ} {xs : List ℕ} → AtMost xs a → a ≤ b → AtMost xs b
within p q = record { most = omega (arith, p.most, q) }

-- as many as there are
pub all_of : (bytes : List ℕ) → AtMost bytes (length bytes)
all_of bytes = record { most = omega arith }

-- ---- parts

pub most_word : (n : ℕ) → AtMost (word n) 4
most_word n = record { most = omega arith }

pub most_double_word : (n : ℕ) → AtMost (double_word n) 8
most_double_word n = record { most = omega arith }

pub most_boolean : (b : Bool) → AtMost (boolean b) 4
most_boolean true = record { most = omega arith }
most_boolean false = record { most = omega arith }

-- bytes and their padding
most_fixed : (bytes : List ℕ) (n : ℕ) → length bytes ≤ 4 * n → AtMost (fixed bytes) (4 * n)
most_fixed bytes n few = record { most = omega (arith, few, length-append bytes (padding (length bytes)), length-replicate {A = ℕ}) }

pub most_opaque : (bytes : List ℕ) (n : ℕ) → length bytes ≤ 4 * n → AtMost (opaque bytes) (4 + 4 * n)
most_opaque bytes n few = most_word (length bytes) ▷ most_fixed bytes n few

pub most_fattr : (a : Fattr) → AtMost (fattr a) 84
most_fattr a = record { most = omega arith }

pub most_attributes : (o : Option Fattr) → AtMost (optional fattr o) 88
most_attributes None = record { most = omega arith }
most_attributes (Some a) = most_boolean true ▷ most_fattr a

most_before : (o : Option WccBefore) → AtMost (optional before o) 28
most_before None = record { most = omega arith }
most_before (Some b) = record { most = omega arith }

pub most_wcc : (w : Wcc) → AtMost (wcc w) 116
most_wcc w = most_before w.before ▷ most_attributes w.after

most_tail : (t : Tail) → AtMost (tail t) 232
most_tail tails.Empty = record { most = omega arith }
most_tail (tails.Attributes a) = within (most_attributes a) (omega arith)
most_tail (tails.Cache w) = within (most_wcc w) (omega arith)
most_tail (tails.TwoCaches v w) = most_wcc v ▷ most_wcc w
most_tail (tails.AttributesAndCache a w) = within (most_attributes a ▷ most_wcc w) (omega arith)

-- a handle of a number of 20 bytes
pub most_handle : (view : View) (number : Key) → length number.0 ≡ 20 → length (handle_of view number) ≤ 44
most_handle view number key = omega (arith, key, length-name (view_block view), length-append (view_name view).0 number.0)

pub most_opaque_handle : (view : View) (number : Key) → length number.0 ≡ 20 → AtMost (opaque (handle_of view number)) 48
most_opaque_handle view number key = most_opaque (handle_of view number) 11 (most_handle view number key)

pub most_optional_handle : (view : View) (number : Key) → length number.0 ≡ 20 → AtMost (optional opaque (Some (handle_of view number))) 52
most_optional_handle view number key = most_boolean true ▷ most_opaque_handle view number key

-- ---- results, but for pages

-- the reply's bytes are at most so many
pub record IsWithin (n : ℕ) (r : Reply) : Type 0 where
  pub most : length (result r) ≤ n

pub of_bytes : {m n : ℕ} {r : Reply} → AtMost (result r) m → m ≤ n → IsWithin n r
of_bytes p q = record { most = omega (arith, p.most, q) }

-- no longer than the longest page
abbrev pub IsShort : Reply → Type 0
IsShort r = IsWithin longest_result r

pub short_nothing : IsShort reply.Nothing
short_nothing = record { most = omega arith }

pub short_refused : (fault : NfsStatus) (with : Tail) → IsShort (reply.Refused fault with)
short_refused fault with = of_bytes (most_word (status_number fault) ▷ most_tail with) (omega arith)

pub short_attributes : (a : Fattr) → IsShort (reply.Attributes a)
short_attributes a = of_bytes (most_word 0 ▷ most_fattr a) (omega arith)

pub short_changed : (w : Wcc) → IsShort (reply.Changed w)
short_changed w = of_bytes (most_word 0 ▷ most_wcc w) (omega arith)

pub short_found : (view : View) (number : Key) (object dir : Option Fattr) → length number.0 ≡ 20 → IsShort (reply.Found (handle_of view number) object dir)
short_found view number object dir key = of_bytes (most_word 0 ▷ most_opaque_handle view number key ▷ most_attributes object ▷ most_attributes dir) (omega arith)

pub short_allowed : (object : Option Fattr) (bits : ℕ) → IsShort (reply.Allowed object bits)
short_allowed object bits = of_bytes (most_word 0 ▷ most_attributes object ▷ most_word bits) (omega arith)

pub short_text : (link : Option Fattr) (text : List ℕ) → length text ≤ 1024 → IsShort (reply.Text link text)
short_text link text few = of_bytes (most_word 0 ▷ most_attributes link ▷ most_opaque text 256 few) (omega arith)

pub short_bytes : (file : Option Fattr) (count : ℕ) (eof : Bool) (bytes : List ℕ) → length bytes ≤ 8192 → IsShort (reply.Bytes file count eof bytes)
short_bytes file count eof bytes few =
    of_bytes (most_word 0 ▷ most_attributes file ▷ most_word count ▷ most_boolean eof ▷ most_opaque bytes 2048 few) (omega arith)

pub short_written : (w : Wcc) (count : ℕ) → IsShort (reply.Written w count)
short_written w count = of_bytes (most_word 0 ▷ most_wcc w ▷ most_word count ▷ most_word 2 ▷ all_of write_verifier) (omega arith)

pub short_made : (view : View) (number : Key) (object : Option Fattr) (w : Wcc) → length number.0 ≡ 20 → IsShort (reply.Made (handle_of view number) object w)
short_made view number object w key = of_bytes (most_word 0 ▷ most_optional_handle view number key ▷ most_attributes object ▷ most_wcc w) (omega arith)

pub short_renamed : (from to : Wcc) → IsShort (reply.Renamed from to)
short_renamed from to = of_bytes (most_word 0 ▷ most_wcc from ▷ most_wcc to) (omega arith)

pub short_linked : (file : Option Fattr) (w : Wcc) → IsShort (reply.Linked file w)
short_linked file w = of_bytes (most_word 0 ▷ most_attributes file ▷ most_wcc w) (omega arith)

pub short_committed : (w : Wcc) → IsShort (reply.Committed w)
short_committed w = of_bytes (most_word 0 ▷ most_wcc w ▷ all_of write_verifier) (omega arith)

pub short_space : (object : Option Fattr) → IsShort (reply.Space object)
short_space object =
    of_bytes (most_word 0 ▷ most_attributes object ▷ all_of (many double_word (2 ^ 40 ∷ 2 ^ 40 ∷ 2 ^ 40 ∷ 2 ^ 32 ∷ 2 ^ 32 ∷ 2 ^ 32 ∷ [])) ▷ most_word 0) (omega arith)

pub short_limits : (object : Option Fattr) → IsShort (reply.Limits object)
short_limits object =
    of_bytes (most_word 0 ▷ most_attributes object ▷ all_of (many word (8192 ∷ 8192 ∷ 512 ∷ 8192 ∷ 8192 ∷ 512 ∷ 8192 ∷ [])) ▷ most_double_word longest_file ▷ all_of (many word (0 ∷ 1 ∷ 27 ∷ []))) (omega arith)

pub short_paths : (object : Option Fattr) → IsShort (reply.Paths object)
short_paths object = of_bytes (most_word 0 ▷ most_attributes object ▷ all_of (many word (1000 ∷ 255 ∷ 1 ∷ 1 ∷ 0 ∷ 1 ∷ []))) (omega arith)

pub short_mounted : (view : View) (number : Key) → length number.0 ≡ 20 → IsShort (reply.Mounted (handle_of view number))
short_mounted view number key = of_bytes (most_word 0 ▷ most_opaque_handle view number key ▷ all_of (many word (1 ∷ 1 ∷ []))) (omega arith)

pub short_no_such_path : IsShort reply.NoSuchPath
short_no_such_path = of_bytes (most_word 2) (omega arith)

pub short_no_mounts : IsShort reply.NoMounts
short_no_mounts = of_bytes (most_word 0) (omega arith)

pub short_exports : IsShort reply.Exports
short_exports = record { most = omega arith }
