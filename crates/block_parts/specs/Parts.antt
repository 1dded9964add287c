-- Parts that the blocks of several forms share, with their bounds and their sizes.
use Rattle.std.specs.Prelude.{ℕ, ◌+◌, ◌<◌, ◌^◌, ◌≤◌, List, length, Option, Some, None, IfSome}
use Rattle.ivy_base.specs.declared.key.Key.{Key}
use Rattle.ivy_base.specs.declared.operation.Kind.{Kind}
use Rattle.wire_model.specs.Xdr.{word}
use Rattle.xdr_codec.specs.Writing.{padded}
use Rattle.log_model.specs.Spelling.{kind_number}

-- the same bytes, whatever else the block has
abbrev pub constant_bytes : List ℕ → Unit {0} → List ℕ
constant_bytes front u = front

-- bytes as they stand, and a key's
abbrev pub as_it_stands : List ℕ → List ℕ
as_it_stands bytes = bytes

abbrev pub key_bytes : Key → List ℕ
key_bytes k = k.0

abbrev pub kind_word : Kind → List ℕ
kind_word kind = word (kind_number kind)

-- at most so much
abbrev pub IsAtMost : ℕ → ℕ → Type 0
IsAtMost most n = n ≤ most

-- where there is one, it is such
abbrev pub IsOptional : {A : Type 0} → (A → Type 0) → Option A → Type 0
IsOptional Fits o = IfSome o Fits

-- ---- sizes

-- how many bytes a text takes, of which a word has to hold the count
abbrev pub opaque_size : List ℕ → ℕ
opaque_size bytes = 4 + padded (length bytes)

abbrev pub IsShort : List ℕ → Type 0
IsShort bytes = length bytes < 2 ^ 32

-- how many bytes an item of that size takes, where it may be left out
abbrev pub optional_size : {A : Type 0} → ℕ → Option A → ℕ
optional_size size None = 4
optional_size size (Some x) = 4 + size
