-- Entries as they are kept, and as the definitions have them.
use Rattle.std.specs.Prelude.{List, map}
use Rattle.ivy_base.specs.declared.key.Key.{Key}
use Rattle.log_model.specs.Vector.{Stamp, Vector}
use Rattle.log_model.specs.Vector as log
use Rattle.version_vectors.specs.declared.entry.Entry.{Entry}

abbrev pub stamped : Entry → log.Entry
stamped e = (e.log, record { seq = e.seq; name = e.name })

abbrev pub entry_of : Key → Stamp → Entry
entry_of log s = record { log = log; seq = s.seq; name = s.name }

abbrev pub vector_of : List Entry → Vector
vector_of es = map stamped es
