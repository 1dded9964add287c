-- What the bytes of an inode are, and which of them are written, whatever they are kept in.
use Rattle.std.specs.Prelude.{ℕ, Bool, true, false, List, [], length, replicate}
use Rattle.inode_replay.specs.declared.body.Body.{Body}
use Rattle.inode_replay.specs.declared.body.Body.TheVariants as kept

abbrev pub bytes_of : Body → List ℕ
bytes_of (kept.File file) = file.bytes
bytes_of (kept.Text text) = text.value.items
bytes_of kept.Nothing = []

-- which places a Write wrote: none but a regular file's
abbrev pub places_of : Body → List Bool
places_of (kept.File file) = file.marks
places_of (kept.Text text) = replicate (length text.value.items) false
places_of kept.Nothing = []

abbrev pub is_file_body : Body → Bool
is_file_body (kept.File file) = true
is_file_body (kept.Text text) = false
is_file_body kept.Nothing = false
