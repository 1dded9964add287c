-- What a directory's listing is hashed as.
use Rattle.std.specs.Prelude.{ℕ, List, ◌++◌, length}
use Rattle.std.specs.List.{flat_map}
use Rattle.ivy_base.specs.declared.key.Key.{Key}
use Rattle.wire_model.specs.Xdr.{word}

-- each name's length, its bytes and its inode
abbrev pub name_bytes : List ℕ × Key → List ℕ
name_bytes e = word (length e.0) ++ e.0 ++ e.1.0

abbrev pub names_bytes : List (List ℕ × Key) → List ℕ
names_bytes pairs = flat_map name_bytes pairs
