-- That a head which its owner sealed is taken by the judge.
use Rattle.std.specs.Prelude.{◌≡◌, ℕ, List, Some, IsTrue}
use Rattle.ivy_base.specs.declared.key.Key.{Key}
use Rattle.ivy_base.specs.declared.key.PubKey.{PubKey}
use Rattle.ivy_base.specs.Naming.{head_key_of}
use Rattle.log_model.specs.Spelling.{IsBlock, IsKey, head_message, head_block}
use Rattle.log_model.specs.Heads.{stamp}
use Rattle.log_records.specs.Heads.{IsNumber}
use Rattle.hss_keys.specs.Hss.{HssAccepts}
use Rattle.dhash_model.specs.Signed.{are_bytes, hss_judged}

-- a head whose signature is accepted says its number and its name under its owner's key; no such signature is too long
abbrev pub SealedHeadsAreJudged : Type 0
SealedHeadsAreJudged =
    (owner : PubKey) (seq : ℕ) (name : Key) (signature bytes : List ℕ) → IsBlock 60 owner.0 → IsNumber seq → IsKey name
    → IsTrue (are_bytes bytes) → bytes ≡ head_block owner (stamp seq name) signature
    → HssAccepts owner.0 (head_message owner (stamp seq name)) signature
    → hss_judged (head_key_of owner) bytes ≡ Some (record { seq = seq; name = name })
