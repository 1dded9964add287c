-- How many bytes the parts of a record take, and which texts have a count that a word holds.
use Rattle.std.specs.Prelude.{ℕ, ◌+◌}
use Rattle.ivy_base.specs.declared.operation.Change.{Change}
use Rattle.ivy_base.specs.declared.operation.Op.{Op}
use Rattle.ivy_base.specs.declared.operation.Op.TheVariants as op
use Rattle.block_parts.specs.Parts.{opaque_size, optional_size, IsShort}

abbrev pub change_size : Change → ℕ
change_size c = optional_size 4 c.mode + optional_size 4 c.uid + optional_size 4 c.gid + optional_size 8 c.size + optional_size 8 c.atime
    + optional_size 8 c.mtime

abbrev pub body_size : Op → ℕ
body_size (op.Inode number kind mode uid gid target) = 36 + opaque_size target
body_size (op.Write number offset bytes) = 28 + opaque_size bytes
body_size (op.Link dir name number) = 40 + opaque_size name
body_size (op.Unlink dir name) = 20 + opaque_size name
body_size (op.Rename dir name to_dir to_name) = 40 + opaque_size name + opaque_size to_name
body_size (op.Prepare dir name verifier) = 28 + opaque_size name
body_size (op.Cancel seq) = 4
body_size (op.SetAttrs number change) = 20 + change_size change
body_size op.End = 0

-- a word holds the count of each text
abbrev pub HasShortTexts : Op → Type 0
HasShortTexts (op.Inode number kind mode uid gid target) = IsShort target
HasShortTexts (op.Write number offset bytes) = IsShort bytes
HasShortTexts (op.Link dir name number) = IsShort name
HasShortTexts (op.Unlink dir name) = IsShort name
HasShortTexts (op.Rename dir name to_dir to_name) = IsShort name × IsShort to_name
HasShortTexts (op.Prepare dir name verifier) = IsShort name
HasShortTexts _ = Unit {0}
