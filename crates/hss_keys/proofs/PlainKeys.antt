-- A public key begins with the number of its levels, which a byte counts: with three zero bytes, so with no tag of a block of format 2. So it is named by its digest.
use Rattle.std.proofs.Common.{◌≡◌, ℕ, ◌+◌, ◌/◌, ◌%◌, ◌<◌, ◌≤◌, false, List, [], ◌∷◌, ◌++◌, length, ap, refl, sym, ◌∙◌, arith}
use Rattle.ivy_base.specs.Naming.{is_named_by_sha256}
use Rattle.hash_signature_model.specs.OneTime.{u32_string}
use Rattle.hash_signature_model.specs.declared.set.Set.{Set}
use Rattle.hash_signature_model.specs.Saved.{IsSigner}
use Rattle.hash_signature_model.specs.Signer.{Signer, hss_key_of, public_key_of, tree_public}
use Rattle.hss_keys.specs.Hss.{HssAccepts}

plain_by : (first : ℕ) (rest : List ℕ) → first ≡ 0 → is_named_by_sha256 (first ∷ rest) ≡ false
plain_by first rest zero = ap (λ (b : ℕ). is_named_by_sha256 (b ∷ rest)) zero

plain_word : (n : ℕ) (rest : List ℕ) → n < 16777216 → is_named_by_sha256 (u32_string n ++ rest) ≡ false
plain_word n rest small = plain_by (n / 16777216 % 256) (n / 65536 % 256 ∷ n / 256 % 256 ∷ n % 256 ∷ rest) (omega (arith, small))

-- where a signature is accepted under it
pub plain_key : (public message bytes : List ℕ) → HssAccepts public message bytes → is_named_by_sha256 public ≡ false
plain_key public message bytes h = ap is_named_by_sha256 h.key_is ∙ plain_word (h.between + 1) h.top (let few = h.profile in omega (arith, few))

plain_sets : (id seed : List ℕ) (sets : List Set) → length sets ≤ 3 → is_named_by_sha256 (hss_key_of id seed sets) ≡ false
plain_sets id seed [] few = refl
plain_sets id seed (set ∷ lower) few = plain_word (length lower + 1) (tree_public (record { set = set; id = id; seed = seed })) (omega (arith, few))

-- a signer's own
pub plain_owner : (signer : Signer) → IsSigner signer → is_named_by_sha256 (public_key_of signer) ≡ false
plain_owner signer h = plain_sets signer.id signer.seed signer.sets h.sets.few
