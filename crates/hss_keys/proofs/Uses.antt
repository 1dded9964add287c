-- What a key signs that is saved and loaded now and then.
use Rattle.std.proofs.Common.{◌≡◌, ℕ, ◌+◌, List, [], ◌∷◌, refl, sym, ap, subst, ◌∙◌}
use Rattle.std.specs.Prelude.{map}
use Rattle.hash_signature_model.specs.Signer.{Signer, next_signature, one_more_made}
use Rattle.hash_signature_model.specs.Saved.{saved_bytes, IsSigner}
use Rattle.hss_keys.specs.Uses.{Use, Sign, Save, Load, Makes, signatures_made, LoadsGiveTheSaved, numbered, at_number, signature_numbered, SignaturesAreNumbered}
use Rattle.hss_keys.specs.ToldApart.{signers_told_apart}

module _ {Key : Type 0} (signature : Key → List ℕ → List ℕ) (next : Key → Key) (is_whole : Key → Type 0) (saved : Key → List ℕ) (told_apart : (a b : Key) → is_whole a → is_whole b → saved a ≡ saved b → a ≡ b) where
  pub loads_give : LoadsGiveTheSaved signature next is_whole saved
  unfolding Makes signatures_made
  loads_give key kept [] signatures whole m = m
  loads_give key kept (Sign message ∷ uses) signatures whole m = m.1 ∙ ap (λ (others : List (List ℕ)). signature key message ∷ others) (loads_give (next key) kept uses m.0 whole m.2)
  loads_give key kept (Save ∷ uses) signatures whole m = loads_give key key uses signatures m.0 m.1
  loads_give key kept (Load ∷ uses) signatures whole m =
      let same : m.0 ≡ kept = told_apart m.0 kept m.1 whole (sym m.2) in
      loads_give kept kept uses signatures whole (subst (λ (k : Key). Makes signature next is_whole saved k (saved kept) uses signatures) same m.3)

numbers : (signer : Signer) (made kept : ℕ) (uses : List Use) → signatures_made next_signature one_more_made (at_number signer made) (at_number signer kept) uses ≡ map (signature_numbered signer) (numbered made kept uses)
unfolding signatures_made numbered
numbers signer made kept [] = refl
numbers signer made kept (Sign message ∷ uses) = ap (λ (others : List (List ℕ)). signature_numbered signer (made, message) ∷ others) (numbers signer (made + 1) kept uses)
numbers signer made kept (Save ∷ uses) = numbers signer made made uses
numbers signer made kept (Load ∷ uses) = numbers signer kept kept uses

pub signatures_are_numbered : SignaturesAreNumbered
signatures_are_numbered signer kept uses signatures whole m =
    loads_give next_signature one_more_made IsSigner saved_bytes signers_told_apart signer (at_number signer kept) uses signatures whole m ∙ numbers signer signer.made kept uses
