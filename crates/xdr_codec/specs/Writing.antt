-- A message being written.
use Rattle.std.specs.Prelude.{ℕ, ◌+◌, ◌-◌, ◌%◌, List}

-- what was written, and for how many more bytes there is room without taking memory
pub record Writing : Type 0 where
  pub written : List ℕ
  pub spare : ℕ

-- how many bytes an item of that many bytes takes, with the zeros up to a multiple of four (RFC 4506, section 3)
abbrev pub padded : ℕ → ℕ
padded n = n + (4 - n % 4) % 4
