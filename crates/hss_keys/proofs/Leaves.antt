-- Which leaves a signature names.
use Rattle.std.proofs.Common.{◌≡◌, ℕ, suc, ◌+◌, ◌^◌, ◌<◌, cond, eqb, List, [], ◌∷◌, ◌++◌, length, take, Result, Ok, Err, refl, ap, ◌∙◌, append_assoc, arith}
use Rattle.std.specs.Prelude.{map}
use Rattle.std.proofs.lemmas.Bool.{eq-eqb}
use Rattle.sha2.proofs.Facts256.{length-sha256}
use Rattle.hash_signature_model.specs.declared.set.Set.{Set}
use Rattle.hash_signature_model.specs.declared.set.LmsFault.{LmsFault}
use Rattle.hash_signature_model.specs.declared.set.LmsFault.TheVariants.{Malformed}
use Rattle.hash_signature_model.specs.declared.keys.PublicKey.{PublicKey}
use Rattle.hash_signature_model.specs.declared.keys.PrivateKey.{PrivateKey}
use Rattle.hash_signature_model.specs.Parameters.{chains, levels, leaves}
use Rattle.hash_signature_model.specs.OneTime.{u32_string, coefficient, derived, signed_value}
use Rattle.hash_signature_model.specs.Nodes.{node, above, sibling_of}
use Rattle.hash_signature_model.specs.Signatures.{IsPublicKey, public_key, Signature, IsSignature, signature, public_of, signature_of, code_of}
use Rattle.hash_signature_model.specs.Reading.{◌>>=◌, read_word, key_at, whole_key, signature_at, whole_signature}
use Rattle.hash_signature_model.proofs.Chains.{length_chain, length_joined}
use Rattle.hash_signature_model.proofs.Paths.{length_node}
use Rattle.hash_signature_model.proofs.Readings.{number_again, key_again, whole_key_again, signature_again, whole_signature_again}
use Rattle.hash_signature_model.specs.Levels.{Level, between_of, whole_hss_key, whole_levels, whole_hss_signature}
use Rattle.hash_signature_model.specs.Signer.{leaf_used, lower_key, tree_public, signed_by, hss_key_of, hss_signature_of}
use Rattle.hash_signature_model.specs.Saved.{AreLevels}
use Rattle.hss_keys.specs.Reading.{leaves_named}
use Rattle.hss_keys.specs.Signer.{leaves_used}
use Rattle.hss_keys.specs.Uses.{SignaturesNameTheirLeaves}
use Rattle.hss_keys.proofs.Acceptance.{bind_again, level_of, between_again}
use Rattle.hss_keys.proofs.Signing.{leaf_used_in_tree, lower_id_length}

abbrev leaf_of : Level → ℕ
leaf_of level = level.signature.leaf

key_fits : (key : PrivateKey) → length key.id ≡ 16 → IsPublicKey (public_of key)
key_fits key id_length = record { id_length = id_length; root_length = length_node key.set key.id key.seed (levels key.set.h) 1 }

fields_fit : (key : PrivateKey) (leaf : ℕ) (message : List ℕ) → leaf < leaves key.set.h → IsSignature key.set (signature_of key leaf message)
fields_fit key leaf message lt = record {
  in_tree = lt;
  randomizer_length = length-sha256 _;
  values_length = length_joined (signed_value key.set.w key.id key.seed leaf (code_of key leaf message)) (chains key.set.w) (λ i below. length_chain key.id leaf i 0 (coefficient key.set.w (code_of key leaf message) i) (derived key.id key.seed leaf i) (length-sha256 _));
  path_length = length_joined (λ n. node key.set key.id key.seed n (sibling_of (above (leaves key.set.h + leaf) n))) (levels key.set.h) (λ n below. length_node key.set key.id key.seed n (sibling_of (above (leaves key.set.h + leaf) n)));
}

signature_fits : (key : PrivateKey) (lower : List Set) (n : ℕ) (message : List ℕ) → IsSignature key.set (signature_of key (leaf_used key.set lower n) message)
signature_fits key lower n message = fields_fit key (leaf_used key.set lower n) message (leaf_used_in_tree key.set lower n)

levels_name : (key : PrivateKey) (lower : List Set) (n : ℕ) (message : List ℕ) → length key.id ≡ 16
    → (levels : List Level) × (whole_levels (length lower) (public_of key) message (signed_by key lower n message) ≡ Ok levels) × (map leaf_of levels ≡ leaves_used (key.set ∷ lower) n)
unfolding whole_levels signed_by leaves_used
levels_name key [] n message id_length =
    let s = signature_of key (leaf_used key.set [] n) message in
    let level = level_of (public_of key) message s in
    let read : whole_signature key.set (signature key.set s) ≡ Ok s = whole_signature_again key.set s (signature_fits key [] n message) in
    (level ∷ [], bind_again (whole_signature key.set (signature key.set s)) (λ s. Ok (level_of (public_of key) message s ∷ [])) s (Ok (level ∷ [])) read refl, refl)
levels_name key (set ∷ lower) n message id_length =
    let leaf = leaf_used key.set (set ∷ lower) n in
    let next = lower_key key leaf set in
    let next_id = lower_id_length key leaf set in
    let k = public_of key in
    let next_key = public_of next in
    let s = signature_of key leaf (public_key next_key) in
    let rest = signed_by next lower n message in
    let after = public_key next_key ++ rest in
    let bytes = (signature key.set s ++ public_key next_key) ++ rest in
    let below = levels_name next lower n message next_id in
    let end : (Signature × List ℕ) → List Level → Result (List Level) LmsFault = λ s below. Ok (level_of k (take 56 s.1) s.0 ∷ below) in
    let level = level_of k (take 56 after) s in
    let signature-read : signature_at key.set bytes ≡ Ok (s, after) =
    ap (signature_at key.set) (append_assoc (signature key.set s) (public_key next_key) rest) ∙ signature_again key.set s after (signature_fits key (set ∷ lower) n (public_key next_key)) in
    let key-read : key_at after ≡ Ok (next_key, rest) = key_again next_key rest (key_fits next next_id) in
    let read : whole_levels (suc (length lower)) k message bytes ≡ Ok (level ∷ below.0) =
    bind_again (signature_at key.set bytes) (λ s. key_at s.1 >>= λ next. whole_levels (length lower) next.0 message next.1 >>= λ below. end s below) (s, after) (Ok (level ∷ below.0)) signature-read
    (bind_again (key_at after) (λ next. whole_levels (length lower) next.0 message next.1 >>= λ below. end (s, after) below) (next_key, rest) (Ok (level ∷ below.0)) key-read
    (bind_again (whole_levels (length lower) next_key message rest) (λ below. end (s, after) below) below.0 (Ok (level ∷ below.0)) below.1 refl)) in
    (level ∷ below.0, read, ap (λ (ls : List ℕ). leaf ∷ ls) below.2)

key_names : (id seed : List ℕ) (sets : List Set) (n : ℕ) (message : List ℕ) → length id ≡ 16 → AreLevels sets → leaves_named (hss_key_of id seed sets) message (hss_signature_of id seed sets n message) ≡ Ok (leaves_used sets n)
unfolding leaves_named whole_hss_key whole_hss_signature
key_names id seed [] n message id_length fits = absurd (omega (arith, fits.some))
key_names id seed (set ∷ lower) n message id_length fits =
    let b = length lower in
    let few : b < 3 = omega (arith, fits.few) in
    let small : b < 2 ^ 32 = omega (arith, few) in
    let one_more : b + 1 < 2 ^ 32 = omega (arith, few) in
    let key : PrivateKey = record { set = set; id = id; seed = seed } in
    let k = public_of key in
    let top = tree_public key in
    let rest = signed_by key lower n message in
    let found = levels_name key lower n message id_length in
    let public = u32_string (b + 1) ++ top in
    let bytes = u32_string b ++ rest in
    let answer : ℕ × PublicKey → Result (List ℕ) LmsFault = λ k. whole_hss_signature k.0 k.1 message bytes >>= λ levels. Ok (map leaf_of levels) in
    let key-read : whole_hss_key public ≡ Ok (b, k) =
    bind_again (read_word public) (λ count. between_of count.0 >>= λ between. whole_key count.1 >>= λ top. Ok (between, top)) (b + 1, top) (Ok (b, k)) (number_again (b + 1) top one_more)
    (bind_again (between_of (b + 1)) (λ between. whole_key top >>= λ top. Ok (between, top)) b (Ok (b, k)) (between_again b few)
    (bind_again (whole_key top) (λ top. Ok (b, top)) k (Ok (b, k)) (whole_key_again k (key_fits key id_length)) refl)) in
    let read : whole_hss_signature b k message bytes ≡ Ok found.0 =
    bind_again (read_word bytes) (λ m. cond (eqb m.0 b) (whole_levels b k message m.1) (Err Malformed)) (b, rest) (Ok found.0) (number_again b rest small)
    (ap (λ c. cond c (whole_levels b k message rest) (Err Malformed)) (eq-eqb b b refl) ∙ found.1) in
    bind_again (whole_hss_key public) answer (b, k) (Ok (leaves_used (set ∷ lower) n)) key-read
    (bind_again (whole_hss_signature b k message bytes) (λ levels. Ok (map leaf_of levels)) found.0 (Ok (leaves_used (set ∷ lower) n)) read (ap (λ (ls : List ℕ). Ok ls) found.2))

pub signatures_name : SignaturesNameTheirLeaves
signatures_name signer n message f = key_names signer.id signer.seed signer.sets n message f.id.size f.sets
