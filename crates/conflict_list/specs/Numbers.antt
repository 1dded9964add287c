-- Numbers of marks. Equal marks have equal numbers; where other marks share one, more pairs are looked at, and none is missed.
use Rattle.std.specs.Prelude.{ℕ, ◌+◌, ◌*◌, ◌^◌, ◌%◌, List, fold, map}
use Rattle.ivy_base.specs.declared.key.Key.{Key}
use Rattle.ivy_base.specs.declared.operation.Op.{Op}
use Rattle.conflict_list.specs.Marks.{Mark, Entry, Page, Written, Cut, marks, looks}

-- one more number is stirred in, with the prime of the hash FNV-1 for 64 bits
abbrev pub stirred : ℕ → ℕ → ℕ
stirred state n = (state * 1099511628211 + n) % 2 ^ 64

unfoldable pub stirred_all : ℕ → List ℕ → ℕ
stirred_all state bytes = fold stirred state bytes

abbrev pub file_number : Key → ℕ → ℕ
file_number file n = stirred (stirred_all 0 file.0) n

abbrev pub number : Mark → ℕ
number (Entry place) = stirred_all (stirred_all 0 place.0.0) place.1
number (Written file) = file_number file 256
number (Cut file) = file_number file 257
number (Page file n) = file_number file (258 + n)

-- under which numbers a record is found, and under which it looks
abbrev pub numbers_of : Op → List ℕ
numbers_of o = map number (marks o)

abbrev pub looked_up : Op → List ℕ
looked_up o = map number (looks o)
