-- Records among blocks: where they stand, and what blocks they leave.
use Rattle.std.specs.Prelude.{ℕ, List, map, Contains}
use Rattle.std.specs.List.{AllByRecursion}
use Rattle.ivy_base.specs.declared.key.PubKey.{PubKey}
use Rattle.ivy_base.specs.declared.operation.Moment.{Moment}
use Rattle.log_model.specs.Record.{Record}
use Rattle.log_model.specs.Spelling.{record_block}
use Rattle.log_model.specs.Chain.{opening}

-- the record's block is among the blocks
abbrev pub StandsAmong : List (List ℕ) → Record → Type 0
StandsAmong blocks r = Contains blocks (record_block r)

-- each of the records stands among the blocks
abbrev pub Stand : List (List ℕ) → List Record → Type 0
Stand blocks records = AllByRecursion (StandsAmong blocks) records

-- the records' blocks, in their order
abbrev pub blocks_of : List Record → List (List ℕ)
blocks_of records = map record_block records

-- the block of the record that opens a log
abbrev pub opening_block : PubKey → Moment → List ℕ
opening_block own now = record_block (opening own now)
