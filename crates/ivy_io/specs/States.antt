-- What the sources and sinks are.
use Rattle.std.specs.Prelude.{ℕ, List}

pub record SourceState : Type 0 where
  -- the bytes that are left to be read
  pub left : List ℕ
  -- the numbers, from 1, of the calls that fail
  pub failing : List ℕ
  -- how many calls there were; a count that reached 2 ^ 64 - 1 stays there
  pub calls : ℕ
  pub faults : ℕ

pub record SinkState : Type 0 where
  pub written : List ℕ
  pub failing : List ℕ
  pub calls : ℕ
  pub faults : ℕ

-- a source over a reader, and a sink over a writer, of any type, and how often each has failed
pub record ReaderState (R : Type 0) : Type 0 where
  pub reader : R
  pub faults : ℕ

pub record WriterState (W : Type 0) : Type 0 where
  pub writer : W
  pub faults : ℕ
