-- Reading a public key and a signature of several levels from left to right, with the first fault that is met (RFC 8554,
-- section 6.3).
use Rattle.std.specs.Prelude.{ℕ, zero, suc, Bool, List, [], ◌∷◌, take, Result, Ok, Err, ◌==◌, if◌then◌else◌}
use Rattle.std.specs.List.{list_all}
use Rattle.std.specs.Str.{bytes_eq}
use Rattle.hash_signature_model.specs.declared.set.LmsFault.{LmsFault}
use Rattle.hash_signature_model.specs.declared.set.LmsFault.TheVariants.{Malformed, Wrong}
use Rattle.hash_signature_model.specs.declared.keys.PublicKey.{PublicKey}
use Rattle.hash_signature_model.specs.Signatures.{Signature, root_from}
use Rattle.hash_signature_model.specs.Reading.{◌>>=◌, read_word, key_at, whole_key, signature_at, whole_signature}

-- what was read of a level: its public key, and a signature under it with the bytes that this signs
pub record Level : Type 0 where
  pub key : PublicKey
  pub signed : List ℕ
  pub signature : Signature

-- the signature gives the root of the key
abbrev pub is_right : Level → Bool
is_right level = bytes_eq (root_from level.key.set level.key.id level.signed level.signature) level.key.root

-- L - 1, where L is 1 to 3
unfoldable pub between_of : ℕ → Result ℕ LmsFault
between_of n = if n == 1 then Ok 0 else if n == 2 then Ok 1 else if n == 3 then Ok 2 else Err Malformed

-- a public key that is all of the bytes: L - 1 for its L, and the top key (6.1)
unfoldable pub whole_hss_key : List ℕ → Result (ℕ × PublicKey) LmsFault
whole_hss_key bytes = do
  count ← read_word bytes
  between ← between_of count.0
  top ← whole_key count.1
  Ok (between, top)

-- the levels from a key down, with so many keys between, which are all of the bytes: a signature of each next key, whose
-- 56 bytes follow, and at last one of the message (6.2)
unfoldable pub whole_levels : ℕ → PublicKey → List ℕ → List ℕ → Result (List Level) LmsFault
whole_levels zero key message bytes = do
  s ← whole_signature key.set bytes
  Ok (record { key = key; signed = message; signature = s } ∷ [])
whole_levels (suc between) key message bytes = do
  s ← signature_at key.set bytes
  next ← key_at s.1
  below ← whole_levels between next.0 message next.1
  Ok (record { key = key; signed = take 56 s.1; signature = s.0 } ∷ below)

-- a signature under a key that is all of the bytes: L - 1, which is the key's, and the levels (6.2)
unfoldable pub whole_hss_signature : ℕ → PublicKey → List ℕ → List ℕ → Result (List Level) LmsFault
whole_hss_signature between top message bytes = do
  n ← read_word bytes
  if n.0 == between then whole_levels between top message n.1 else Err Malformed

-- the answer about a public key, a message and a signature: the key is read before the signature, and `Wrong` comes
-- only after all was read (6.3)
unfoldable pub hss_verdict : List ℕ → List ℕ → List ℕ → Result (Unit {0}) LmsFault
hss_verdict public message bytes = do
  k ← whole_hss_key public
  levels ← whole_hss_signature k.0 k.1 message bytes
  if list_all is_right levels then Ok tt else Err Wrong
