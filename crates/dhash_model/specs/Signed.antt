-- Which heads of logs the judge of signed heads takes. What a head's signature signs is `head_message`, the first 88 bytes of its block.
use Rattle.std.specs.Prelude.{ℕ, Bool, true, false, ◌&&◌, List, length, take, drop, Option, Some, None, Result, Ok, Err, if◌then◌else◌}
use Rattle.std.specs.Prelude.{nat_lt, nat_le}
use Rattle.std.specs.Int.{w32, from_be_bytes}
use Rattle.std.specs.List.{list_all}
use Rattle.std.specs.Str.{bytes_eq}
use Rattle.ivy_base.specs.declared.key.Key.{Key}
use Rattle.ivy_base.specs.declared.key.PubKey.{PubKey}
use Rattle.ivy_base.specs.Naming.{head_key_of}
use Rattle.log_model.specs.Spelling.{most_records, head_message, head_block}
use Rattle.log_model.specs.Heads.{stamp, owner_in, seq_in, name_in, is_of_length}
use Rattle.dht_ids.specs.declared.judge.Judged.{Judged}
use Rattle.hash_signature_model.specs.declared.set.LmsFault.{LmsFault}
use Rattle.hash_signature_model.specs.Levels.{hss_verdict}

-- each is below 256
abbrev pub are_bytes : List ℕ → Bool
are_bytes bytes = list_all (λ b. nat_lt b 256) bytes

-- what stands in the place of the signature, whose length stands in front of it
abbrev pub signature_in : List ℕ → List ℕ
signature_in bytes = take (from_be_bytes w32 (take 4 (drop 88 bytes))) (drop 92 bytes)

-- the bytes are a head with that owner, number, name and signature
abbrev pub is_head_with : List ℕ → PubKey → ℕ → Key → List ℕ → Bool
is_head_with bytes owner seq name signature =
    is_of_length 60 owner.0 && nat_le 1 seq && nat_le seq most_records && is_of_length 20 name.0 && nat_le (length signature) 16000
    && are_bytes bytes
    && bytes_eq bytes (head_block owner (stamp seq name) signature)

-- nothing was wrong with the signature
abbrev pub is_yes : Result (Unit {0}) LmsFault → Bool
is_yes (Ok x) = true
is_yes (Err fault) = false

-- and it is under the key, and signed
abbrev pub is_signed : Key → List ℕ → PubKey → ℕ → Key → List ℕ → Bool
is_signed key bytes owner seq name signature =
    is_head_with bytes owner seq name signature && bytes_eq key.0 (head_key_of owner).0
    && is_yes (hss_verdict owner.0 (head_message owner (stamp seq name)) signature)

-- the bytes are a signed head under the key, by what stands in their places
abbrev pub is_signed_head : Key → List ℕ → Bool
is_signed_head key bytes = is_signed key bytes (owner_in bytes) (seq_in bytes) (name_in bytes) (signature_in bytes)

-- what the bytes say as a signed head under the key, where they are one
abbrev pub hss_judged : Key → List ℕ → Option Judged
hss_judged key bytes = if is_signed_head key bytes then Some (record { seq = seq_in bytes; name = name_in bytes }) else None
