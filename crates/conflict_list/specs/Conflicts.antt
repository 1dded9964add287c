-- Lists of conflicts as the code gives them.
use Rattle.std.specs.Prelude.{◌<◌, List, length, map}
use Rattle.log_model.specs.Conflicts.{Clash, clashes, most_clashes}
use Rattle.log_model.specs.Record.{Record}
use Rattle.version_vectors.specs.Ranks.{rank_of}
use Rattle.conflict_list.specs.declared.list.Clash as kept
use Rattle.conflict_list.specs.declared.list.ListFault.{ListFault}
use Rattle.conflict_list.specs.declared.list.ListFault.TheVariants as fault

abbrev pub seen : kept.Clash → Clash
seen c = record { first = rank_of c.first; second = rank_of c.second; bytes = c.bytes }

abbrev pub seen_all : List kept.Clash → List Clash
seen_all cs = map seen cs

-- why a list isn't given. Running out of memory isn't tied to a cause
abbrev pub IsTooMany : List Clash → ListFault → Type 0
IsTooMany cs fault.TooMany = most_clashes < length cs
IsTooMany cs fault.Memory = Unit {0}

abbrev pub HasNoList : List Record → ListFault → Type 0
HasNoList records fault = IsTooMany (clashes records) fault
