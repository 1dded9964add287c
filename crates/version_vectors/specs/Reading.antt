-- What stands in front of bytes, part by part, and why no vector was read.
use Rattle.std.specs.Prelude.{ℕ, List, ⊤}
use Rattle.std.specs.List.{flat_map}
use Rattle.wire_model.specs.Xdr.{array}
use Rattle.wire_model.specs.OneReading.{HasNoFront}
use Rattle.log_model.specs.Spelling.{vector_entry}
use Rattle.log_model.specs.Vector.{Vector}
use Rattle.block_parts.specs.declared.fault.BlockFault.{BlockFault}
use Rattle.block_parts.specs.declared.fault.BlockFault.TheVariants.{Malformed, Memory}
use Rattle.version_vectors.specs.Vectors.{VectorFits, EntriesFit}

-- entries without their count
abbrev pub entries_bytes : Vector → List ℕ
entries_bytes v = flat_map vector_entry v

-- no vector stands there; running out of memory tells nothing of the bytes
abbrev pub ReadFault : ℕ → List ℕ → BlockFault → Type 0
ReadFault most bytes Malformed = HasNoFront (VectorFits most) (array vector_entry) bytes
ReadFault most bytes Memory = ⊤

abbrev pub EntriesFault : ℕ → List ℕ → BlockFault → Type 0
EntriesFault count bytes Malformed = HasNoFront (EntriesFit count) entries_bytes bytes
EntriesFault count bytes Memory = ⊤
