-- What is read of saved bytes.
use Rattle.std.specs.Prelude.{◌≡◌, ℕ, ◌<◌, ◌^◌, List, length}
use Rattle.log_model.specs.Signing.{Signing}
use Rattle.agent_model.specs.Agent.{Kept}
use Rattle.agent_model.specs.SavedBytes.{IsKept, kept_bytes}
use Rattle.agent_saves.specs.declared.saved.Saved.{Saved}

-- what was saved, as the definitions have it
abbrev pub said : {S : Type 0} → Saved S → Kept S
said s = record { signer = s.signer; view = s.view; floor = s.floor; pending = s.pending; snapshot = s.snapshot }

-- a signer that can be, and of which a word counts the saved bytes
abbrev pub IsCounted : {S : Type 0} → (S → Type 0) → (S → List ℕ) → S → Type 0
IsCounted IsWhole saved signer = IsWhole signer × (length (saved signer) < 2 ^ 32)

-- the bytes are saved of this, which may be saved
pub record AreSavedOf {S : Type 0} (signs : Signing S) (IsWhole : S → Type 0) (bytes : List ℕ) (k : Kept S) : Type 0 where
  pub kept : IsKept signs IsWhole k
  pub spelled : bytes ≡ kept_bytes signs k

-- they are saved of nothing that may be saved
abbrev pub AreSavedOfNone : {S : Type 0} → Signing S → (S → Type 0) → List ℕ → Type 0
AreSavedOfNone {S} signs IsWhole bytes = (k : Kept S) → IsKept signs IsWhole k → bytes ≡ kept_bytes signs k → ⊥
