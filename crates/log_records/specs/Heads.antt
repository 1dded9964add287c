-- Heads of logs as they are read and written, and which of them the plain judge takes.
use Rattle.std.specs.Prelude.{◌≡◌, ℕ, ◌≤◌, Bool, ◌&&◌, List, [], length, Option, Some, None, if◌then◌else◌, nat_le}
use Rattle.std.specs.Str.{bytes_eq}
use Rattle.ivy_base.specs.declared.key.Key.{Key}
use Rattle.ivy_base.specs.declared.key.PubKey.{PubKey}
use Rattle.ivy_base.specs.Naming.{head_key_of}
use Rattle.log_model.specs.Vector.{Stamp}
use Rattle.log_model.specs.Spelling.{IsBlock, IsKey, most_records, head_block, IsHeadOf}
use Rattle.log_model.specs.Heads.{stamp, owner_in, seq_in, name_in, is_of_length}
use Rattle.dht_ids.specs.declared.judge.Judged.{Judged}

-- a record's number in its log
abbrev pub IsNumber : ℕ → Type 0
IsNumber n = (1 ≤ n) × (n ≤ most_records)

-- an owner, the newest record, and the signature
abbrev pub Parts : Type 0
Parts = (PubKey × Stamp) × List ℕ

abbrev pub IsHead : Parts → Type 0
IsHead p = IsBlock 60 p.0.0.0 × IsNumber p.0.1.seq × IsKey p.0.1.name × (length p.1 ≤ 16000)

abbrev pub head_bytes : Parts → List ℕ
head_bytes p = head_block p.0.0 p.0.1 p.1

-- the bytes are a head under that key, with an empty signature, and say this
pub record IsPlainHead (key : Key) (bytes : List ℕ) (judged : Judged) : Type 0 where
  pub owner : PubKey
  pub head : IsHeadOf owner bytes (stamp judged.seq judged.name) []
  pub key_is : key ≡ head_key_of owner

-- they are a head under the key with that owner, number and name, and with an empty signature
abbrev pub is_plain : Key → List ℕ → PubKey → ℕ → Key → Bool
is_plain key bytes owner seq name =
    is_of_length 60 owner.0 && nat_le 1 seq && nat_le seq most_records && is_of_length 20 name.0
    && bytes_eq bytes (head_block owner (stamp seq name) []) && bytes_eq key.0 (head_key_of owner).0

abbrev pub is_plain_head : Key → List ℕ → Bool
is_plain_head key bytes = is_plain key bytes (owner_in bytes) (seq_in bytes) (name_in bytes)

-- what the bytes say as a plain head under the key, where they are one
abbrev pub plain_judged : Key → List ℕ → Option Judged
plain_judged key bytes = if is_plain_head key bytes then Some (record { seq = seq_in bytes; name = name_in bytes }) else None
