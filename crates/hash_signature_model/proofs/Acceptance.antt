-- What a tree signs is accepted under its public key.
use Rattle.std.proofs.Common.{◌≡◌, ℕ, ◌+◌, ◌-◌, ◌<◌, List, length, refl, ap, ◌∙◌, arith}
use Rattle.sha2.proofs.Facts256.{length-sha256}
use Rattle.hash_signature_model.specs.declared.set.Width.{Width}
use Rattle.hash_signature_model.specs.declared.keys.PrivateKey.{PrivateKey}
use Rattle.hash_signature_model.specs.Parameters.{top, chains, levels, leaves}
use Rattle.hash_signature_model.specs.OneTime.{chain, coefficient, joined_values, derived, key_of_ends, chain_end, end_from, signed_value, one_time_key, candidate_key}
use Rattle.hash_signature_model.specs.Nodes.{leaf_node, climbed, node, root, above, sibling_of}
use Rattle.hash_signature_model.specs.Signatures.{Accepts, public_key, public_of, signature, signature_of, code_of, path_of, root_from}
use Rattle.hash_signature_model.proofs.Chains.{chain_on, length_chain, coefficient_bound, joined_same, length_joined, value_of_joined}
use Rattle.hash_signature_model.proofs.Paths.{top_is_one, path_climbs, length_node}

-- each chain that the verifier finishes ends where the signer's ends
end_is : (w : Width) (id seed : List ℕ) (leaf : ℕ) (code : List ℕ) (i : ℕ) → i < chains w → end_from w id leaf code (joined_values (signed_value w id seed leaf code) (chains w)) i ≡ chain_end w id seed leaf i
end_is w id seed leaf code i lt =
    let a = coefficient w code i in
    let value = value_of_joined (signed_value w id seed leaf code) (chains w) i (λ k below. length_chain id leaf k 0 (coefficient w code k) (derived id seed leaf k) (length-sha256 _)) lt in
    let whole : a + (top w - a) ≡ top w = omega (arith, coefficient_bound w code i) in
    let none : 0 + a ≡ a = omega arith in
    let on = rw none at (chain_on id leaf i 0 a (top w - a) (derived id seed leaf i)) in
    ap (λ (v : List ℕ). chain id leaf i a (top w - a) v) value
    ∙ (on ∙ ap (λ (n : ℕ). chain id leaf i 0 n (derived id seed leaf i)) whole)

pub candidate_is : (w : Width) (id seed : List ℕ) (leaf : ℕ) (code : List ℕ) → candidate_key w id leaf code (joined_values (signed_value w id seed leaf code) (chains w)) ≡ one_time_key w id seed leaf
candidate_is w id seed leaf code = ap (key_of_ends id leaf) (joined_same (end_from w id leaf code (joined_values (signed_value w id seed leaf code) (chains w))) (chain_end w id seed leaf) (chains w) (λ i lt. end_is w id seed leaf code i lt))

leaf_is : (g : PrivateKey) (leaf : ℕ) → leaf_node g.id (leaves g.set.h + leaf) (one_time_key g.set.w g.id g.seed leaf) ≡ node g.set g.id g.seed 0 (leaves g.set.h + leaf)
unfolding node
leaf_is g leaf = let e : leaves g.set.h + leaf - leaves g.set.h ≡ leaf = omega arith in rw e refl

pub root_is : (g : PrivateKey) (leaf : ℕ) (message : List ℕ) → leaf < leaves g.set.h → root_from g.set g.id message (signature_of g leaf message) ≡ root g.set g.id g.seed
root_is g leaf message lt =
    let r = leaves g.set.h + leaf in
    ap (λ (key : List ℕ). climbed g.id r (path_of g leaf) (levels g.set.h) (leaf_node g.id r key)) (candidate_is g.set.w g.id g.seed leaf (code_of g leaf message))
    ∙ (ap (λ (start : List ℕ). climbed g.id r (path_of g leaf) (levels g.set.h) start) (leaf_is g leaf)
    ∙ (path_climbs g.set g.id g.seed r (levels g.set.h) (levels g.set.h) (omega arith)
    ∙ ap (λ (m : ℕ). node g.set g.id g.seed (levels g.set.h) m) (top_is_one g.set.h leaf lt)))

-- for every leaf, message, set, identifier and seed
pub signature_accepted : (g : PrivateKey) (leaf : ℕ) (message : List ℕ) → length g.id ≡ 16 → leaf < leaves g.set.h → Accepts (public_key (public_of g)) message (signature g.set (signature_of g leaf message))
signature_accepted g leaf message id_length lt = record {
  k = public_of g;
  s = signature_of g leaf message;
  key_fits = record { id_length = id_length; root_length = length_node g.set g.id g.seed (levels g.set.h) 1 };
  key_is = refl;
  signature_fits = record {
    in_tree = lt;
    randomizer_length = length-sha256 _;
    values_length = length_joined (signed_value g.set.w g.id g.seed leaf (code_of g leaf message)) (chains g.set.w) (λ i below. length_chain g.id leaf i 0 (coefficient g.set.w (code_of g leaf message) i) (derived g.id g.seed leaf i) (length-sha256 _));
    path_length = length_joined (λ n. node g.set g.id g.seed n (sibling_of (above (leaves g.set.h + leaf) n))) (levels g.set.h) (λ n below. length_node g.set g.id g.seed n (sibling_of (above (leaves g.set.h + leaf) n)));
  };
  signature_is = refl;
  same_root = root_is g leaf message lt;
}
