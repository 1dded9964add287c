-- Parts of a signer's saved bytes that are read as one.
use Rattle.std.specs.Prelude.{ℕ, List, ◌++◌, take}
use Rattle.wire_model.specs.Xdr.{word, double_word, array, IsDoubleWord}
use Rattle.hash_signature_model.specs.declared.set.Width.{Width}
use Rattle.hash_signature_model.specs.declared.set.Height.{Height}
use Rattle.hash_signature_model.specs.declared.set.Set.{Set}
use Rattle.hash_signature_model.specs.Parameters.{levels}
use Rattle.hash_signature_model.specs.Signer.{Signer}
use Rattle.hash_signature_model.specs.Saved.{bits, set_bytes, AreOctets, AreLevels}
use Rattle.hss_keys.specs.declared.save.Saved.{Saved}

abbrev pub width_bytes : Width → List ℕ
width_bytes w = word (bits w)

abbrev pub height_bytes : Height → List ℕ
height_bytes h = word (levels h)

-- an identifier and a seed
abbrev pub secrets_bytes : List ℕ × List ℕ → List ℕ
secrets_bytes p = p.0 ++ p.1

abbrev pub AreSecrets : List ℕ × List ℕ → Type 0
AreSecrets p = AreOctets 16 p.0 × AreOctets 32 p.1

-- and the sets, and how many signatures were made
abbrev pub parts_bytes : ((List ℕ × List ℕ) × List Set) × ℕ → List ℕ
parts_bytes p = secrets_bytes p.0.0 ++ array set_bytes p.0.1 ++ double_word p.1

abbrev pub AreParts : ((List ℕ × List ℕ) × List Set) × ℕ → Type 0
AreParts p = (AreSecrets p.0.0 × AreLevels p.0.1) × IsDoubleWord p.1

-- the signer that was saved
abbrev pub said : Saved → Signer
said saved = record { id = saved.id; seed = saved.seed; sets = take saved.count saved.sets; made = saved.made }
