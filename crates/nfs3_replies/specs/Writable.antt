-- Which results have bytes: XDR counts the bytes of a string in a word (RFC 4506, section 4.10).
use Rattle.std.specs.Prelude.{ℕ, Bool, true, false, ◌<◌, ◌^◌, List, length, Option, IfSome}
use Rattle.std.specs.List.{All}
use Rattle.nfs_model.specs.declared.replies.Listed.{Listed}
use Rattle.nfs_model.specs.declared.replies.Reply.{Reply}
use Rattle.nfs_model.specs.declared.replies.Reply.TheVariants as reply

-- a string whose length is a word
abbrev pub IsShort : List ℕ → Type 0
IsShort bytes = length bytes < 2 ^ 32

abbrev pub IsShortHandle : Option (List ℕ) → Type 0
IsShortHandle handle = IfSome handle IsShort

-- an entry of READDIR shows its name
abbrev pub HasShortName : Listed → Type 0
HasShortName e = IsShort e.name

-- an entry of READDIRPLUS shows its handle too
abbrev pub IsWritableEntry : Listed → Type 0
IsWritableEntry e = IsShort e.name × IsShortHandle e.handle

-- either of them: with its handle, or without
abbrev pub IsWritableListed : Bool → Listed → Type 0
IsWritableListed false = HasShortName
IsWritableListed true = IsWritableEntry

-- each string that the result shows has a length that is a word
abbrev pub IsWritable : Reply → Type 0
IsWritable (reply.Found handle object dir) = IsShort handle
IsWritable (reply.Text link text) = IsShort text
IsWritable (reply.Bytes file count eof bytes) = IsShort bytes
IsWritable (reply.Made handle object cache) = IsShort handle
IsWritable (reply.Directory dir verifier page eof) = All HasShortName page
IsWritable (reply.DirectoryPlus dir verifier page eof) = All IsWritableEntry page
IsWritable (reply.Mounted handle) = IsShort handle
IsWritable _ = Unit {0}
