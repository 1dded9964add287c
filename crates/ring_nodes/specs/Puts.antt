-- What a node answers to a put.
use Rattle.std.specs.Prelude.{◌≡◌, Result, Ok, Err, IsErr, IsOkAnd}
use Rattle.ivy_base.specs.declared.memory.Memory.{Memory}
use Rattle.ivy_base.specs.Naming.{name}
use Rattle.dht_ids.specs.declared.ask.Ask.{Ask}
use Rattle.dht_ids.specs.declared.ask.Ask.TheVariants as ask
use Rattle.dht_ids.specs.declared.ask.Answer.{Answer}
use Rattle.dht_ids.specs.declared.ask.Answer.TheVariants as answer
use Rattle.node_store.specs.declared.fault.PutFault.{PutFault}
use Rattle.node_store.specs.declared.fault.PutFault.TheVariants as fault

-- the answer that tells what became of a put: when out of memory there is none
abbrev pub Told : Result Unit PutFault → Result Answer Memory → Type 0
Told (Ok done) result = IsOkAnd result (λ given. given ≡ answer.Stored)
Told (Err (fault.Refused why)) result = IsOkAnd result (λ given. given ≡ answer.Refused why)
Told (Err fault.Memory) result = IsErr result

-- a content block that is put has the name under which it is put
abbrev pub IsNamed : Ask → Type 0
IsNamed (ask.PutBlock key bytes) = key ≡ name bytes
IsNamed question = Unit {0}
