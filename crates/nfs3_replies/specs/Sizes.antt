-- How many bytes a result takes at most, by its parts (RFC 1813, sections 2.5 and 3.3): attributes that may be missing take 88.
use Rattle.std.specs.Prelude.{ℕ, ◌+◌, ◌≤◌, length, IfSome, ⊤}
use Rattle.std.specs.List.{AllByRecursion, sum_by}
use Rattle.xdr_codec.specs.Writing.{padded}
use Rattle.nfs_model.specs.declared.replies.Listed.{Listed}
use Rattle.nfs_model.specs.declared.replies.Reply.{Reply}
use Rattle.nfs_model.specs.declared.replies.Reply.TheVariants as reply
use Rattle.nfs_model.specs.Arguments.{IsVerifier}
use Rattle.nfs_model.specs.Pages.{plain_length, long_length}
use Rattle.nfs3_replies.specs.Room.{room}

-- READ (3.3.6): status, attributes, count, end of file and the count of the bytes before the bytes;
-- READDIR (3.3.16) and READDIRPLUS (3.3.17): status, attributes, verifier and the two last marks beside the entries, which
-- take what pages of this server are measured by
abbrev pub result_bound : Reply → ℕ
result_bound (reply.Bytes file count eof bytes) = 104 + padded (length bytes)
result_bound (reply.Directory dir verifier page eof) = 108 + sum_by (λ e. plain_length e.name) page
result_bound (reply.DirectoryPlus dir verifier page eof) = 108 + sum_by (λ e. long_length e.name) page
result_bound r = room r

-- a file handle of this server has 44 bytes
abbrev pub HasShortHandle : Listed → Type 0
HasShortHandle e = IfSome e.handle (λ handle. length handle ≤ 44)

-- the handles of a page of READDIRPLUS are no longer than this server's
abbrev pub HasShortHandles : Reply → Type 0
HasShortHandles (reply.DirectoryPlus dir verifier page eof) = AllByRecursion HasShortHandle page
HasShortHandles r = ⊤

-- the verifier of a page has eight bytes (cookieverf3)
abbrev pub HasWholeVerifier : Reply → Type 0
HasWholeVerifier (reply.Directory dir verifier page eof) = IsVerifier verifier
HasWholeVerifier (reply.DirectoryPlus dir verifier page eof) = IsVerifier verifier
HasWholeVerifier r = ⊤
