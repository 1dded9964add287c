-- Version vectors (Ivy): of each log that a writer held, the newest record by number and name.
use Rattle.std.specs.Prelude.{ℕ, ◌≤◌, List, Option, Some, None, sum_by, fold, not, if◌then◌else◌}
use Rattle.std.specs.Option.{option_map_or}
use Rattle.std.specs.FinMap.Entries.{by_order, find as value_at, put, where_key}
use Rattle.std.specs.Ordering.{nat_cmp, is_lt, eq_by_cmp}
use Rattle.ivy_base.specs.declared.key.Key.{Key}
use Rattle.ivy_base.specs.Naming.{key_cmp}

-- one of a log's records, by its number and its name
pub record Stamp : Type 0 where
  pub seq : ℕ
  pub name : Key

-- a log by its head key, and the stamp there
abbrev pub Entry : Type 0
Entry = Key × Stamp

-- ascending by head key, each log once
abbrev pub Vector : Type 0
Vector = List Entry

-- the vector's stamp of the log, where it has one
abbrev pub stamp_at : Vector → Key → Option Stamp
stamp_at v log = value_at key_cmp log v

-- how far the vector goes in a log: 0 where it has no entry
abbrev pub reach : Option Stamp → ℕ
reach s = option_map_or (λ t. t.seq) s 0

abbrev pub seq_of : Vector → Key → ℕ
seq_of v log = reach (stamp_at v log)

-- v goes at least as far as w in each log
abbrev pub Dominates : Vector → Vector → Type 0
Dominates v w = (log : Key) → seq_of w log ≤ seq_of v log

-- the later of two stamps of one log: the greater number, and of equal ones the least name
abbrev pub later : Stamp → Stamp → Stamp
later s t = by_order (nat_cmp s.seq t.seq) t (if is_lt (key_cmp t.name s.name) then t else s) s

abbrev pub later_or : Option Stamp → Stamp → Stamp
later_or None t = t
later_or (Some s) t = later s t

-- the vector with an entry taken in: where it has one of that log, the later of the two stands
abbrev pub with_entry : Vector → Entry → Vector
with_entry v e = put key_cmp e.0 (later_or (stamp_at v e.0) e.1) v

-- of each log the later of the two stamps
abbrev pub join : Vector → Vector → Vector
join v w = fold with_entry v w

-- the vector's entries of all other logs
abbrev pub without_log : Key → Vector → Vector
without_log log v = where_key key_cmp (λ k. not (eq_by_cmp key_cmp log k)) v

-- the sum of its numbers
abbrev pub weight_of : Vector → ℕ
weight_of v = sum_by (λ e. e.1.seq) v
