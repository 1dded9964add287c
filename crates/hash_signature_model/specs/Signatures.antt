-- Public keys and signatures of LMS, and when a signature is accepted (RFC 8554, sections 5.3 and 5.4).
use Rattle.std.specs.Prelude.{◌≡◌, ℕ, ◌+◌, ◌*◌, ◌<◌, List, ◌++◌, length}
use Rattle.hash_signature_model.specs.declared.set.Set.{Set}
use Rattle.hash_signature_model.specs.declared.keys.PublicKey.{PublicKey}
use Rattle.hash_signature_model.specs.declared.keys.PrivateKey.{PrivateKey}
use Rattle.hash_signature_model.specs.Parameters.{ots_type, lms_type, chains, levels, leaves}
use Rattle.hash_signature_model.specs.OneTime.{u32_string, joined_values, checked, digest_of, candidate_key, randomizer_of, signed_value}
use Rattle.hash_signature_model.specs.Nodes.{above, sibling_of, root_by_path, node, root}

-- u32str(type) || u32str(otstype) || I || T[1] (5.3)
abbrev pub public_key : PublicKey → List ℕ
public_key k = u32_string (lms_type k.set.h) ++ u32_string (ots_type k.set.w) ++ k.id ++ k.root

-- the parts of a public key have their lengths
pub record IsPublicKey (k : PublicKey) : Type 0 where
  pub id_length : length k.id ≡ 16
  pub root_length : length k.root ≡ 32

-- the fields of a signature: q, C, the values y of the one-time signature one after the other, and so the path
pub record Signature : Type 0 where
  pub leaf : ℕ
  pub randomizer : List ℕ
  pub values : List ℕ
  pub path : List ℕ

-- u32str(q) || u32str(otstype) || C || y[0] || .. || y[p-1] || u32str(type) || path[0] || .. || path[h-1] (4.5 and 5.4)
abbrev pub signature : Set → Signature → List ℕ
signature set s = u32_string s.leaf ++ u32_string (ots_type set.w) ++ s.randomizer ++ s.values ++ u32_string (lms_type set.h) ++ s.path

-- the leaf is one of the tree, and the fields have their lengths
pub record IsSignature (set : Set) (s : Signature) : Type 0 where
  pub in_tree : s.leaf < leaves set.h
  pub randomizer_length : length s.randomizer ≡ 32
  pub values_length : length s.values ≡ 32 * chains set.w
  pub path_length : length s.path ≡ 32 * levels set.h

-- the root that a signature gives (4.6 and 5.4.2)
abbrev pub root_from : Set → List ℕ → List ℕ → Signature → List ℕ
root_from set id message s = root_by_path set.h id s.leaf
    (candidate_key set.w id s.leaf (checked set.w (digest_of id s.leaf s.randomizer message)) s.values) s.path

-- the bytes are a public key and a signature, and the root that the signature gives is the key's (5.4.2)
pub record Accepts (public message bytes : List ℕ) : Type 0 where
  pub k : PublicKey
  pub s : Signature
  pub key_fits : IsPublicKey k
  pub key_is : public ≡ public_key k
  pub signature_fits : IsSignature k.set s
  pub signature_is : bytes ≡ signature k.set s
  pub same_root : root_from k.set k.id message s ≡ k.root

-- ---- the signer's side, which knows the whole tree

-- the public key of a tree (5.3)
abbrev pub public_of : PrivateKey → PublicKey
public_of key = record { set = key.set; id = key.id; root = root key.set key.id key.seed }

-- the nodes beside those on the way up from a leaf
abbrev pub path_of : PrivateKey → ℕ → List ℕ
path_of key leaf = joined_values (λ n. node key.set key.id key.seed n (sibling_of (above (leaves key.set.h + leaf) n))) (levels key.set.h)

-- the code of a message at a leaf: its digest and the checksum
abbrev pub code_of : PrivateKey → ℕ → List ℕ → List ℕ
code_of key leaf message = checked key.set.w (digest_of key.id leaf (randomizer_of key.id key.seed leaf) message)

-- the signature of a message by a leaf (4.5 and 5.4.1)
abbrev pub signature_of : PrivateKey → ℕ → List ℕ → Signature
signature_of key leaf message = record {
  leaf = leaf;
  randomizer = randomizer_of key.id key.seed leaf;
  values = joined_values (signed_value key.set.w key.id key.seed leaf (code_of key leaf message)) (chains key.set.w);
  path = path_of key leaf;
}
