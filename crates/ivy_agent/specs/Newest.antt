-- The newest of the records that a turn writes, and the front with it.
use Rattle.std.specs.Prelude.{List, Option, Some, None, map}
use Rattle.std.specs.List.{last_or}
use Rattle.std.specs.FinMap.Entries.{put}
use Rattle.ivy_base.specs.declared.key.PubKey.{PubKey}
use Rattle.ivy_base.specs.Naming.{head_key_of, key_cmp}
use Rattle.log_model.specs.Rank.{own_entry}
use Rattle.log_model.specs.Record.{Record}
use Rattle.log_model.specs.Vector.{Stamp, Vector}
use Rattle.ivy_agent.specs.declared.written.Before.{Before}

-- a record by its number and its name
abbrev pub stamp_of : Before → Stamp
stamp_of b = record { seq = b.seq; name = b.name }

-- the last of the records, where there is one
abbrev pub newest_stamp : List Record → Option Stamp
newest_stamp records = last_or None (map (λ r. (own_entry r).1) records)

-- the vector with the stamp in the owner's log, where there is one
abbrev pub with_newest : PubKey → Option Stamp → Vector → Vector
with_newest owner None v = v
with_newest owner (Some s) v = put key_cmp (head_key_of owner) s v
