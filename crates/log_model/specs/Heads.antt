-- The parts of a log's head, as they stand in its block.
use Rattle.std.specs.Prelude.{ℕ, Bool, ◌&&◌, List, length, take, drop, nat_eq, nat_lt}
use Rattle.std.specs.Int.{w32, from_be_bytes}
use Rattle.std.specs.List.{list_all}
use Rattle.ivy_base.specs.declared.key.Key.{Key}
use Rattle.ivy_base.specs.declared.key.PubKey.{PubKey}
use Rattle.log_model.specs.Vector.{Stamp}

-- a record by its number and its name
abbrev pub stamp : ℕ → Key → Stamp
stamp seq name = record { seq = seq; name = name }

-- the owner that stands in its place
abbrev pub owner_in : List ℕ → PubKey
owner_in bytes = record { 0 = take 60 (drop 4 bytes) }

-- the number that stands in its place
abbrev pub seq_in : List ℕ → ℕ
seq_in bytes = from_be_bytes w32 (take 4 (drop 64 bytes))

-- the name that stands in its place
abbrev pub name_in : List ℕ → Key
name_in bytes = record { 0 = take 20 (drop 68 bytes) }

-- they are so many bytes
abbrev pub is_of_length : ℕ → List ℕ → Bool
is_of_length count bytes = nat_eq (length bytes) count && list_all (λ b. nat_lt b 256) bytes
