-- The signer's side of hierarchical signatures, which knows all trees (RFC 8554, section 6). How the trees of the lower
-- levels are derived, and which leaves a signature uses, is this project's own.
use Rattle.std.specs.Prelude.{ℕ, ◌+◌, ◌*◌, ◌-◌, ◌/◌, ◌%◌, List, [], ◌∷◌, ◌++◌, length}
use Rattle.hash_signature_model.specs.declared.set.Set.{Set}
use Rattle.hash_signature_model.specs.declared.keys.PrivateKey.{PrivateKey}
use Rattle.hash_signature_model.specs.Parameters.{leaves}
use Rattle.hash_signature_model.specs.OneTime.{u32_string, lower_id_of, lower_seed_of}
use Rattle.hash_signature_model.specs.Signatures.{public_key, public_of, signature, signature_of}

-- what a signer was made from, its levels' sets from the top down, and how many signatures it made
pub record Signer : Type 0 where
  pub id : List ℕ
  pub seed : List ℕ
  pub sets : List Set
  pub made : ℕ

-- how many messages levels of these sets sign: the product of their leaves
unfoldable pub capacity : List Set → ℕ
capacity [] = 1
capacity (set ∷ lower) = leaves set.h * capacity lower

-- how many messages it still signs
abbrev pub left_of : Signer → ℕ
left_of signer = capacity signer.sets - signer.made

-- The leaf that signature n (from 0) uses of a level above levels of these sets. At the lowest level that is n modulo the
-- leaves, and the level above goes on with the quotient.
abbrev pub leaf_used : Set → List Set → ℕ → ℕ
leaf_used set lower n = n / capacity lower % leaves set.h

-- the tree of the next level, which is derived from the leaf that signs its key
abbrev pub lower_key : PrivateKey → ℕ → Set → PrivateKey
lower_key upper leaf set = record { set = set; id = lower_id_of upper.id upper.seed leaf; seed = lower_seed_of upper.id upper.seed leaf }

-- an LMS signature by a leaf (4.5 and 5.4.1)
abbrev pub leaf_signature : PrivateKey → ℕ → List ℕ → List ℕ
leaf_signature key leaf message = signature key.set (signature_of key leaf message)

-- the public key of a tree (5.3)
abbrev pub tree_public : PrivateKey → List ℕ
tree_public key = public_key (public_of key)

-- a signature of the next level's public key, and that key (6.2)
abbrev pub signed_lower : PrivateKey → ℕ → Set → List ℕ
signed_lower upper leaf set = leaf_signature upper leaf (tree_public (lower_key upper leaf set)) ++ tree_public (lower_key upper leaf set)

-- signature n of a message by a level and the levels below it: a signature of each next public key, that key, and at last
-- the signature of the message (6.2)
unfoldable pub signed_by : PrivateKey → List Set → ℕ → List ℕ → List ℕ
signed_by key [] n message = leaf_signature key (leaf_used key.set [] n) message
signed_by key (set ∷ lower) n message =
    signed_lower key (leaf_used key.set (set ∷ lower) n) set
    ++ signed_by (lower_key key (leaf_used key.set (set ∷ lower) n) set) lower n message

-- the public key: L, and the top tree's (6.1)
abbrev pub hss_key_of : List ℕ → List ℕ → List Set → List ℕ
hss_key_of id seed [] = []
hss_key_of id seed (set ∷ lower) = u32_string (length lower + 1) ++ tree_public (record { set = set; id = id; seed = seed })

-- signature n: L - 1, and what the levels sign (6.2)
abbrev pub hss_signature_of : List ℕ → List ℕ → List Set → ℕ → List ℕ → List ℕ
hss_signature_of id seed [] n message = []
hss_signature_of id seed (set ∷ lower) n message =
    u32_string (length lower) ++ signed_by (record { set = set; id = id; seed = seed }) lower n message

-- a signer's public key
abbrev pub public_key_of : Signer → List ℕ
public_key_of signer = hss_key_of signer.id signer.seed signer.sets

-- its next signature of a message
abbrev pub next_signature : Signer → List ℕ → List ℕ
next_signature signer message = hss_signature_of signer.id signer.seed signer.sets signer.made message

-- and what it is after that
abbrev pub one_more_made : Signer → Signer
one_more_made signer = record { id = signer.id; seed = signer.seed; sets = signer.sets; made = signer.made + 1 }
