-- That a signer's saved bytes are no other signer's.
use Rattle.std.specs.Prelude.{◌≡◌}
use Rattle.hash_signature_model.specs.Signer.{Signer}
use Rattle.hash_signature_model.specs.Saved.{saved_bytes, IsSigner}

-- saved bytes are of one signer
abbrev pub SavedOnce : Type 0
SavedOnce = (a b : Signer) → IsSigner a → IsSigner b → saved_bytes a ≡ saved_bytes b → a ≡ b
