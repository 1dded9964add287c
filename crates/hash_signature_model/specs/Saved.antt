-- A signer's saved bytes, whose numbers are spelled as in XDR (RFC 4506). The form is this project's own.
use Rattle.std.specs.Prelude.{ℕ, ◌<◌, ◌≤◌, List, ◌++◌, length}
use Rattle.wire_model.specs.Xdr.{word, double_word, array}
use Rattle.log_model.specs.Spelling.{IsBlock}
use Rattle.hash_signature_model.specs.declared.set.Width.{Width}
use Rattle.hash_signature_model.specs.declared.set.Width.TheVariants.{W4, W8}
use Rattle.hash_signature_model.specs.declared.set.Set.{Set}
use Rattle.hash_signature_model.specs.Parameters.{levels}
use Rattle.hash_signature_model.specs.Signer.{Signer, capacity, left_of, next_signature, one_more_made, public_key_of}
use Rattle.log_model.specs.Signing.{Signing}

-- w, the bits of a digest that one chain signs
abbrev pub bits : Width → ℕ
bits W4 = 4
bits W8 = 8

-- w and h of a level
abbrev pub set_bytes : Set → List ℕ
set_bytes set = word (bits set.w) ++ word (levels set.h)

-- the identifier, the seed, the count of sets, w and h of each from the top down, and the number of signatures made
abbrev pub saved_bytes : Signer → List ℕ
saved_bytes signer = signer.id ++ signer.seed ++ array set_bytes signer.sets ++ double_word signer.made

-- so many bytes
abbrev pub AreOctets : ℕ → List ℕ → Type 0
AreOctets count = IsBlock count

-- one to three levels
pub record AreLevels (sets : List Set) : Type 0 where
  pub some : 0 < length sets
  pub few : length sets ≤ 3

-- a signer, which made no more signatures than it has leaves for
pub record IsSigner (signer : Signer) : Type 0 where
  pub id : AreOctets 16 signer.id
  pub seed : AreOctets 32 signer.seed
  pub sets : AreLevels signer.sets
  pub made : signer.made ≤ capacity signer.sets

-- what a signer of hierarchical signatures has and does
abbrev pub hss : Signing Signer
hss = record { key = public_key_of; remaining = left_of; signature = next_signature; next = one_more_made; saved = saved_bytes }
