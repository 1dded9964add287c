-- Laws of the blocks: each can be read in one way only, and none is long.
use Rattle.std.specs.Prelude.{◌≡◌, ℕ, ◌≤◌, List, length, Some, ◌↔◌}
use Rattle.ivy_base.specs.declared.key.Key.{Key}
use Rattle.ivy_base.specs.declared.key.PubKey.{PubKey}
use Rattle.wire_model.specs.OneReading.{ReadsOne}
use Rattle.log_model.specs.Record.{Record}
use Rattle.log_model.specs.Spelling.{record_block, HasSpelling, longest_record}
use Rattle.dht_ids.specs.declared.judge.Judged.{Judged}
use Rattle.log_records.specs.Heads.{IsHead, head_bytes, IsPlainHead, plain_judged}

-- a record of that owner's
abbrev pub IsOwned : PubKey → Record → Type 0
IsOwned owner r = (r.owner ≡ owner) × HasSpelling r

-- of one owner, each block is of one record, and none begins another's
abbrev pub RecordsAreUnambiguous : Type 0
RecordsAreUnambiguous = (owner : PubKey) → ReadsOne (IsOwned owner) record_block

-- no record is too long
abbrev pub RecordsAreShort : Type 0
RecordsAreShort = (r : Record) → HasSpelling r → length (record_block r) ≤ longest_record

-- each block is one head, and none begins another's
abbrev pub HeadsAreUnambiguous : Type 0
HeadsAreUnambiguous = ReadsOne IsHead head_bytes

-- the plain judge takes each head that has an empty signature under its owner's key, and nothing else
abbrev pub PlainHeadsAreJudged : Type 0
PlainHeadsAreJudged = (key : Key) (bytes : List ℕ) (judged : Judged) → (plain_judged key bytes ≡ Some judged) ↔ IsPlainHead key bytes judged
