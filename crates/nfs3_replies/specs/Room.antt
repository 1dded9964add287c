-- How much room is asked for before a result is written.
use Rattle.std.specs.Prelude.{ℕ, ◌+◌, Bool, true, false, Option, Some, None, List, length}
use Rattle.std.specs.List.{sum_by}
use Rattle.xdr_codec.specs.Writing.{padded}
use Rattle.nfs_model.specs.declared.replies.Listed.{Listed}
use Rattle.nfs_model.specs.declared.replies.Reply.{Reply}
use Rattle.nfs_model.specs.declared.replies.Reply.TheVariants as reply

-- a handle that may be missing: its flag, its length and its bytes
abbrev pub handle_room : Option (List ℕ) → ℕ
handle_room None = 4
handle_room (Some handle) = 8 + padded (length handle)

-- an entry of a page: its flag, file number, name with its length, and cookie
abbrev pub entry_room : Listed → ℕ
entry_room e = 24 + padded (length e.name)

-- the same, with attributes and a handle
abbrev pub entry_plus_room : Listed → ℕ
entry_plus_room e = entry_room e + 88 + handle_room e.handle

-- either of them: with attributes and a handle, or without
abbrev pub listed_room : Bool → Listed → ℕ
listed_room false = entry_room
listed_room true = entry_plus_room

-- the strings and entries of a result, and 240 bytes, which hold all the rest of each form
abbrev pub room : Reply → ℕ
room (reply.Found handle object dir) = 240 + padded (length handle)
room (reply.Text link text) = 240 + padded (length text)
room (reply.Bytes file count eof bytes) = 240 + padded (length bytes)
room (reply.Made handle object cache) = 240 + padded (length handle)
room (reply.Directory dir verifier page eof) = 240 + sum_by entry_room page
room (reply.DirectoryPlus dir verifier page eof) = 240 + sum_by entry_plus_room page
room (reply.Mounted handle) = 240 + padded (length handle)
room _ = 240
