-- The order of the records under the numbers of their marks: by number, then by log, then by place.
use Rattle.std.specs.Prelude.{ℕ, ◌+◌, ◌*◌}
use Rattle.conflict_list.specs.declared.marked.Marked.{Marked}

abbrev pub order_of : ℕ → ℕ → ℕ → ℕ
order_of number log place = number * 18446744073709551616 + log * 4294967296 + place

abbrev pub order : Marked → ℕ
order m = order_of m.number m.log m.place

abbrev pub marked : ℕ → ℕ → ℕ → Marked
marked log place number = record { number = number; log = log; place = place }
