-- Parts of a record's block that are read and written as one, with their bounds.
use Rattle.std.specs.Prelude.{◌≡◌, ℕ, ◌+◌, ◌≤◌, List, ◌++◌, length}
use Rattle.std.specs.Int.{w32, from_be_bytes}
use Rattle.ivy_base.specs.declared.key.Key.{Key}
use Rattle.ivy_base.specs.declared.format.Format.{Format}
use Rattle.ivy_base.specs.declared.operation.Change.{Change}
use Rattle.ivy_base.specs.declared.operation.Op.{Op}
use Rattle.ivy_base.specs.Naming.{IsFileName}
use Rattle.wire_model.specs.Xdr.{word, double_word, opaque, optional, moment}
use Rattle.log_model.specs.Spelling.{record_kind, record_tag, IsKey, OperationFits}
use Rattle.tree_model.specs.Tree.{longest_file}

-- the tag of each format, read as a number
abbrev pub tag_number : Format → ℕ
tag_number format = from_be_bytes w32 (record_tag format)

-- a name in a directory
abbrev pub place_block : Key × List ℕ → List ℕ
place_block p = p.0.0 ++ opaque p.1

abbrev pub IsPlace : Key × List ℕ → Type 0
IsPlace p = IsKey p.0 × IsFileName p.1

-- bytes from an offset on
abbrev pub IsPiece : ℕ × List ℕ → Type 0
IsPiece p = (1 ≤ length p.1) × (length p.1 ≤ 8192) × (p.0 + length p.1 ≤ longest_file)

abbrev pub change_block : Change → List ℕ
change_block c = optional word c.mode ++ optional word c.uid ++ optional word c.gid ++ optional double_word c.size
    ++ optional moment c.atime ++ optional moment c.mtime

-- an operation of that kind
abbrev pub IsOfKind : ℕ → Op → Type 0
IsOfKind kind op = (record_kind op ≡ kind) × OperationFits op
