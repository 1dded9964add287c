-- How many bytes the parts of results take at most.
use Rattle.std.proofs.Common.{ℕ, true, ◌+◌, ◌≤◌, ◌^◌, List, [], ◌∷◌, ◌++◌, length, Option, Some, None, arith, length-append}
use Rattle.std.specs.Prelude.{Bool, IfSome}
use Rattle.std.specs.List.{AllByRecursion, flat_map, sum_by}
use Rattle.std.proofs.lemmas.List.Sums.{sum_by-cons}
use Rattle.xdr_codec.specs.Writing.{padded}
use Rattle.xdr_codec.proofs.Lengths.{length-boolean, length-opaque}
use Rattle.wire_model.specs.Xdr.{word, double_word, boolean, opaque, optional}
use Rattle.nfs_model.specs.declared.replies.Fattr.{Fattr}
use Rattle.nfs_model.specs.declared.replies.Wcc.{Wcc}
use Rattle.nfs_model.specs.declared.replies.WccBefore.{WccBefore}
use Rattle.nfs_model.specs.declared.replies.Listed.{Listed}
use Rattle.nfs_model.specs.declared.replies.Tail.{Tail}
use Rattle.nfs_model.specs.declared.replies.Tail.TheVariants as tails
use Rattle.nfs_model.specs.declared.replies.Reply.{Reply}
use Rattle.nfs_model.specs.declared.replies.Reply.TheVariants as reply
use Rattle.nfs_model.specs.Arguments.{IsVerifier}
use Rattle.nfs_model.specs.Pages.{plain_length, long_length}
use Rattle.nfs_model.specs.Results.{status_number, fattr, before, wcc, tail, listed_entry, listed_entry_plus, write_verifier, many, result}
use Rattle.nfs3_replies.specs.Sizes.{result_bound, HasShortHandle, HasShortHandles, HasWholeVerifier}
use Rattle.tree_model.specs.Tree.{longest_file}

-- at most so many bytes
record AtMost (bytes : List ℕ) (n : ℕ) : Type 0 where
  most : length bytes ≤ n

-- one part after another
infixl 60 ◌▷◌
◌▷◌ : {a b : ℕ} {xs ys : List ℕ} → AtMost xs a → AtMost ys b → AtMost (xs ++ ys) (a + b)
◌▷◌ {xs} {ys} p q = record { most = omega (arith, p.most, q.most, length-append xs ys) }

within : {a b : ℕ} {xs : List ℕ} → AtMost xs a → a ≤ b → AtMost xs b
within p q = record { most = omega (arith, p.most, q) }

-- as many as there are
all_of : (bytes : List ℕ) → AtMost bytes (length bytes)
all_of bytes = record { most = omega arith }

-- ---- parts

most_word : (n : ℕ) → AtMost (word n) 4
most_word n = record { most = omega arith }

most_double_word : (n : ℕ) → AtMost (double_word n) 8
most_double_word n = record { most = omega arith }

most_boolean : (b : Bool) → AtMost (boolean b) 4
most_boolean b = record { most = omega (arith, length-boolean b) }

most_opaque : (bytes : List ℕ) → AtMost (opaque bytes) (4 + padded (length bytes))
most_opaque bytes = record { most = omega (arith, length-opaque bytes) }

most_fattr : (a : Fattr) → AtMost (fattr a) 84
most_fattr a = record { most = omega arith }

most_attributes : (o : Option Fattr) → AtMost (optional fattr o) 88
most_attributes None = record { most = omega arith }
most_attributes (Some a) = most_boolean true ▷ most_fattr a

most_before : (o : Option WccBefore) → AtMost (optional before o) 28
most_before None = record { most = omega arith }
most_before (Some b) = record { most = omega arith }

most_wcc : (w : Wcc) → AtMost (wcc w) 116
most_wcc w = most_before w.before ▷ most_attributes w.after

most_tail : (t : Tail) → AtMost (tail t) 232
most_tail tails.Empty = record { most = omega arith }
most_tail (tails.Attributes a) = within (most_attributes a) (omega arith)
most_tail (tails.Cache w) = within (most_wcc w) (omega arith)
most_tail (tails.TwoCaches v w) = most_wcc v ▷ most_wcc w
most_tail (tails.AttributesAndCache a w) = within (most_attributes a ▷ most_wcc w) (omega arith)

-- ---- pages

most_verifier : (bytes : List ℕ) → IsVerifier bytes → AtMost bytes 8
most_verifier bytes v = record { most = omega (arith, v) }

most_handle : (o : Option (List ℕ)) → IfSome o (λ handle. length handle ≤ 44) → AtMost (optional opaque o) 52
most_handle None f = record { most = omega arith }
most_handle (Some handle) f = within (most_boolean true ▷ most_opaque handle) (omega (arith, f))

most_entry : (e : Listed) → AtMost (listed_entry e) (plain_length e.name)
most_entry e = within (most_word 1 ▷ most_double_word e.fileid ▷ all_of (opaque e.name) ▷ most_double_word e.cookie) (omega arith)

most_entry_plus : (e : Listed) → HasShortHandle e → AtMost (listed_entry_plus e) (long_length e.name)
most_entry_plus e f = most_entry e ▷ most_attributes e.attributes ▷ most_handle e.handle f

most_page : (page : List Listed) → AtMost (flat_map listed_entry page) (sum_by (λ (e : Listed). plain_length e.name) page)
most_page [] = record { most = omega arith }
most_page (e ∷ page) = within (most_entry e ▷ most_page page) (omega (arith, sum_by-cons (λ (e : Listed). plain_length e.name) e page))

most_page_plus : (page : List Listed) → AllByRecursion HasShortHandle page → AtMost (flat_map listed_entry_plus page) (sum_by (λ (e : Listed). long_length e.name) page)
most_page_plus [] f = record { most = omega arith }
most_page_plus (e ∷ page) f =
    within (most_entry_plus e f.0 ▷ most_page_plus page f.1) (omega (arith, sum_by-cons (λ (e : Listed). long_length e.name) e page))

-- ---- results

-- a page between its front and its two last marks
most_whole_page : {n : ℕ} {entries : List ℕ} (dir : Option Fattr) (verifier : List ℕ) (eof : Bool) → IsVerifier verifier → AtMost entries n
    → AtMost (word 0 ++ optional fattr dir ++ verifier ++ entries ++ word 0 ++ boolean eof) (108 + n)
most_whole_page dir verifier eof v page =
    within (most_word 0 ▷ most_attributes dir ▷ most_verifier verifier v ▷ page ▷ most_word 0 ▷ most_boolean eof) (omega arith)

most : (r : Reply) → HasWholeVerifier r → HasShortHandles r → AtMost (result r) (result_bound r)
most reply.Nothing v f = record { most = omega arith }
most (reply.Refused s t) v f = within (most_word (status_number s) ▷ most_tail t) (omega arith)
most (reply.Attributes a) v f = within (most_word 0 ▷ most_fattr a) (omega arith)
most (reply.Changed w) v f = within (most_word 0 ▷ most_wcc w) (omega arith)
most (reply.Found handle object dir) v f = within (most_word 0 ▷ most_opaque handle ▷ most_attributes object ▷ most_attributes dir) (omega arith)
most (reply.Allowed object bits) v f = within (most_word 0 ▷ most_attributes object ▷ most_word bits) (omega arith)
most (reply.Text link text) v f = within (most_word 0 ▷ most_attributes link ▷ most_opaque text) (omega arith)
most (reply.Bytes file count eof bytes) v f =
    within (most_word 0 ▷ most_attributes file ▷ most_word count ▷ most_boolean eof ▷ most_opaque bytes) (omega arith)
most (reply.Written w count) v f = within (most_word 0 ▷ most_wcc w ▷ most_word count ▷ most_word 2 ▷ all_of write_verifier) (omega arith)
most (reply.Made handle object w) v f =
    within (most_word 0 ▷ (most_boolean true ▷ most_opaque handle) ▷ most_attributes object ▷ most_wcc w) (omega arith)
most (reply.Renamed from to) v f = within (most_word 0 ▷ most_wcc from ▷ most_wcc to) (omega arith)
most (reply.Linked file w) v f = within (most_word 0 ▷ most_attributes file ▷ most_wcc w) (omega arith)
most (reply.Committed w) v f = within (most_word 0 ▷ most_wcc w ▷ all_of write_verifier) (omega arith)
most (reply.Directory dir verifier page eof) v f = most_whole_page dir verifier eof v (most_page page)
most (reply.DirectoryPlus dir verifier page eof) v f = most_whole_page dir verifier eof v (most_page_plus page f)
most (reply.Space object) v f =
    within (most_word 0 ▷ most_attributes object ▷ all_of (many double_word (2 ^ 40 ∷ 2 ^ 40 ∷ 2 ^ 40 ∷ 2 ^ 32 ∷ 2 ^ 32 ∷ 2 ^ 32 ∷ [])) ▷ most_word 0) (omega arith)
most (reply.Limits object) v f =
    within (most_word 0 ▷ most_attributes object ▷ all_of (many word (8192 ∷ 8192 ∷ 512 ∷ 8192 ∷ 8192 ∷ 512 ∷ 8192 ∷ [])) ▷ most_double_word longest_file ▷ all_of (many word (0 ∷ 1 ∷ 27 ∷ []))) (omega arith)
most (reply.Paths object) v f = within (most_word 0 ▷ most_attributes object ▷ all_of (many word (1000 ∷ 255 ∷ 1 ∷ 1 ∷ 0 ∷ 1 ∷ []))) (omega arith)
most (reply.Mounted handle) v f = within (most_word 0 ▷ most_opaque handle ▷ all_of (many word (1 ∷ 1 ∷ []))) (omega arith)
most reply.NoSuchPath v f = record { most = omega arith }
most reply.NoMounts v f = record { most = omega arith }
most reply.Exports v f = record { most = omega arith }

pub most_result : (r : Reply) → HasWholeVerifier r → HasShortHandles r → length (result r) ≤ result_bound r
most_result r v f = (most r v f).most
