-- Which records blocks are, as far as it takes to go down a log: of each record the name of the one before it.
use Rattle.std.specs.Prelude.{◌≡◌, ℕ, List, Option, MatchOption}
use Rattle.ivy_base.specs.declared.key.Key.{Key}
use Rattle.ivy_base.specs.declared.key.PubKey.{PubKey}
use Rattle.log_model.specs.Record.{Record}
use Rattle.log_model.specs.Spelling.{IsRecordOf}
use Rattle.log_model.specs.Chain.{HasMadeNumber}

-- the block is this record of the owner's, of that number, and if it makes an inode, then of the number that it makes
pub record IsNumbered (owner : PubKey) (seq : ℕ) (block : List ℕ) (r : Record) : Type 0 where
  pub spelled : IsRecordOf owner block r
  pub made : HasMadeNumber owner r.seq r.op
  pub number : r.seq ≡ seq

-- of an owner, a number and a block the name of the record before it, where it is a record of the owner's of that number
abbrev pub Before : Type 0
Before = PubKey → ℕ → List ℕ → Option Key

-- That is what the function gives. A block is one record of an owner's, so there are no two such functions that differ.
abbrev pub TellsRecords : Before → Type 0
TellsRecords before = (owner : PubKey) (seq : ℕ) (block : List ℕ)
    → MatchOption (before owner seq block) ((r : Record) → IsNumbered owner seq block r → ⊥)
    (λ prev. (r : Record) × IsNumbered owner seq block r × (prev ≡ r.prev))
