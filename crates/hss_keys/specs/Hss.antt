-- Hierarchical signatures: when a signature is accepted under a public key (RFC 8554, section 6).
use Rattle.std.specs.Prelude.{◌≡◌, ℕ, zero, suc, ◌+◌, ◌<◌, List, ◌++◌}
use Rattle.hash_signature_model.specs.OneTime.{u32_string}
use Rattle.hash_signature_model.specs.Signatures.{Accepts}

-- The bytes are a signature of the message under an LMS public key, with so many keys between. With none they are an LMS
-- signature of the message. With one more they are an LMS signature of a next public key, that key, and a signature of
-- the message under that key (6.2 and 6.3).
abbrev pub IsSigned : ℕ → List ℕ → List ℕ → List ℕ → Type 0
IsSigned zero key message bytes = Accepts key message bytes
IsSigned (suc between) key message bytes =
    (upper : List ℕ) × (next : List ℕ) × (rest : List ℕ) × (bytes ≡ upper ++ next ++ rest) × Accepts key next upper
    × IsSigned between next message rest

-- The key is L and the top LMS public key, and the signature is L - 1 and a signature under that key with L - 1 keys
-- between (6.1 to 6.3). In this profile L is 1 to 3.
pub record HssAccepts (public message bytes : List ℕ) : Type 0 where
  pub between : ℕ
  pub top : List ℕ
  pub rest : List ℕ
  pub profile : between < 3
  pub key_is : public ≡ u32_string (between + 1) ++ top
  pub signature_is : bytes ≡ u32_string between ++ rest
  pub signed : IsSigned between top message rest
