-- Which heads of logs are signed. What a head's signature signs is `head_message`, the first 88 bytes of its block.
use Rattle.std.specs.Prelude.{◌≡◌, ℕ, List, Some, IsTrue, ◌↔◌}
use Rattle.ivy_base.specs.declared.key.Key.{Key}
use Rattle.ivy_base.specs.declared.key.PubKey.{PubKey}
use Rattle.ivy_base.specs.Naming.{head_key_of}
use Rattle.log_model.specs.Spelling.{head_message, IsHeadOf}
use Rattle.log_model.specs.Heads.{stamp}
use Rattle.dht_ids.specs.declared.judge.Judged.{Judged}
use Rattle.hss_keys.specs.Hss.{HssAccepts}
use Rattle.dhash_model.specs.Signed.{are_bytes, hss_judged}

-- The bytes are a head under that key and say this, and its signature of what it signs is accepted under its public key
-- (RFC 8554, section 6.3)
pub record IsSignedHead (key : Key) (bytes : List ℕ) (judged : Judged) : Type 0 where
  pub owner : PubKey
  pub signature : List ℕ
  pub octets : IsTrue (are_bytes bytes)
  pub head : IsHeadOf owner bytes (stamp judged.seq judged.name) signature
  pub key_is : key ≡ head_key_of owner
  pub accepted : HssAccepts owner.0 (head_message owner (stamp judged.seq judged.name)) signature

-- ---- the law

-- the judge takes each head under its owner's key whose signature is accepted, and nothing else
abbrev pub SignedHeadsAreJudged : Type 0
SignedHeadsAreJudged = (key : Key) (bytes : List ℕ) (judged : Judged) → (hss_judged key bytes ≡ Some judged) ↔ IsSignedHead key bytes judged
