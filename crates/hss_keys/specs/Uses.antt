-- What a key signs that is saved and loaded now and then: a model of its calls, one after the other.
use Rattle.std.specs.Prelude.{◌≡◌, ℕ, ◌+◌, List, [], ◌∷◌, map, Ok}
use Rattle.hash_signature_model.specs.Signer.{Signer, hss_signature_of, public_key_of, next_signature, one_more_made}
use Rattle.hash_signature_model.specs.Saved.{saved_bytes, IsSigner}
use Rattle.hss_keys.specs.Signer.{leaves_used}
use Rattle.hss_keys.specs.Reading.{leaves_named}

-- what is done with a key: it signs a message, it is saved, or what was saved last is loaded in its place
pub data Use : Type 0 where
  Sign : List ℕ → Use
  Save : Use
  Load : Use

-- The key, with these bytes saved last, makes these signatures in this order. Each is the next one of the key, which goes on
-- as the key after it; a key that is saved is whole, and so is one that is loaded, whose saved bytes they are.
unfoldable pub Makes : {Key : Type 0} → (Key → List ℕ → List ℕ) → (Key → Key) → (Key → Type 0) → (Key → List ℕ) → Key → List ℕ → List Use
    → List (List ℕ) → Type 0
Makes signature next is_whole saved key bytes [] signatures = signatures ≡ []
Makes signature next is_whole saved key bytes (Sign message ∷ uses) signatures =
    (others : List (List ℕ)) × (signatures ≡ signature key message ∷ others)
    × Makes signature next is_whole saved (next key) bytes uses others
Makes signature next is_whole saved key bytes (Save ∷ uses) signatures =
    is_whole key × Makes signature next is_whole saved key (saved key) uses signatures
Makes {Key} signature next is_whole saved key bytes (Load ∷ uses) signatures =
    (loaded : Key) × is_whole loaded × (bytes ≡ saved loaded) × Makes signature next is_whole saved loaded bytes uses signatures

-- the signatures where each load gives back the key that was saved last
unfoldable pub signatures_made : {Key : Type 0} → (Key → List ℕ → List ℕ) → (Key → Key) → Key → Key → List Use → List (List ℕ)
signatures_made signature next key kept [] = []
signatures_made signature next key kept (Sign message ∷ uses) = signature key message ∷ signatures_made signature next (next key) kept uses
signatures_made signature next key kept (Save ∷ uses) = signatures_made signature next key key uses
signatures_made signature next key kept (Load ∷ uses) = signatures_made signature next kept kept uses

-- each load does
abbrev pub LoadsGiveTheSaved : {Key : Type 0} → (Key → List ℕ → List ℕ) → (Key → Key) → (Key → Type 0) → (Key → List ℕ) → Type 0
LoadsGiveTheSaved {Key} signature next is_whole saved =
    (key kept : Key) (uses : List Use) (signatures : List (List ℕ)) → is_whole kept
    → Makes signature next is_whole saved key (saved kept) uses signatures → signatures ≡ signatures_made signature next key kept uses

-- the number and the message of each signature, where so many were made, and so many when the key was saved last
unfoldable pub numbered : ℕ → ℕ → List Use → List (ℕ × List ℕ)
numbered made kept [] = []
numbered made kept (Sign message ∷ uses) = (made, message) ∷ numbered (made + 1) kept uses
numbered made kept (Save ∷ uses) = numbered made made uses
numbered made kept (Load ∷ uses) = numbered kept kept uses

-- the signer where it made so many signatures
abbrev pub at_number : Signer → ℕ → Signer
at_number signer n = record { id = signer.id; seed = signer.seed; sets = signer.sets; made = n }

-- signature n of a signer
abbrev pub signature_numbered : Signer → ℕ × List ℕ → List ℕ
signature_numbered signer p = hss_signature_of signer.id signer.seed signer.sets p.0 p.1

-- what a signer signs are its signatures of these numbers
abbrev pub SignaturesAreNumbered : Type 0
SignaturesAreNumbered = (signer : Signer) (kept : ℕ) (uses : List Use) (signatures : List (List ℕ)) → IsSigner (at_number signer kept)
    → Makes next_signature one_more_made IsSigner saved_bytes signer (saved_bytes (at_number signer kept)) uses signatures
    → signatures ≡ map (signature_numbered signer) (numbered signer.made kept uses)

-- and each names the leaves that its number uses
abbrev pub SignaturesNameTheirLeaves : Type 0
SignaturesNameTheirLeaves = (signer : Signer) (n : ℕ) (message : List ℕ) → IsSigner signer
    → leaves_named (public_key_of signer) message (signature_numbered signer (n, message)) ≡ Ok (leaves_used signer.sets n)
