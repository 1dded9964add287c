-- A source and a sink, as the program's forms find and leave them.
use Rattle.std.specs.Prelude.{◌≡◌, ℕ, List, Option}

-- a source and a sink: what is left and what is held, where it is known, and the counts of faults
pub record Streams : Type 0 where
  pub left : Option (List ℕ)
  pub held : Option (List ℕ)
  pub reads : ℕ
  pub writes : ℕ

-- the source stayed as it was
pub record IsUnread (before after : Streams) : Type 0 where
  pub left : after.left ≡ before.left
  pub reads : after.reads ≡ before.reads
