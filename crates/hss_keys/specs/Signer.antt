-- Which leaves a signer of several levels uses, and that it uses none twice (RFC 8554, section 6).
use Rattle.std.specs.Prelude.{◌≡◌, ℕ, ◌<◌, List, [], ◌∷◌, ◌++◌}
use Rattle.hash_signature_model.specs.declared.set.Set.{Set}
use Rattle.hash_signature_model.specs.declared.keys.PrivateKey.{PrivateKey}
use Rattle.hash_signature_model.specs.Signer.{capacity, leaf_used, signed_lower, signed_by}

-- the leaves that signature n uses, from the top level down: each names the tree that the next one belongs to
unfoldable pub leaves_used : List Set → ℕ → List ℕ
leaves_used [] n = []
leaves_used (set ∷ lower) n = leaf_used set lower n ∷ leaves_used lower n

-- no two signatures of a key use the same leaf of the same tree of the lowest level
abbrev pub NoLeafTwice : Type 0
NoLeafTwice = (sets : List Set) (n m : ℕ) → n < capacity sets → m < capacity sets → leaves_used sets n ≡ leaves_used sets m → n ≡ m

-- where a lower level stands: below a leaf of the level above, with its own set
pub record LowerPlace : Type 0 where
  pub upper : PrivateKey
  pub leaf : ℕ
  pub set : Set

-- two signatures that use one leaf of a level above others begin with the same signed key there
abbrev pub UpperLeafSignsOneKey : Type 0
UpperLeafSignsOneKey = (key : PrivateKey) (set : Set) (lower : List Set) (n m : ℕ) (first second : List ℕ)
    → leaf_used key.set (set ∷ lower) n ≡ leaf_used key.set (set ∷ lower) m
    → (rest other : List ℕ) × (signed_by key (set ∷ lower) n first ≡ signed_lower key (leaf_used key.set (set ∷ lower) n) set ++ rest)
    × (signed_by key (set ∷ lower) m second ≡ signed_lower key (leaf_used key.set (set ∷ lower) n) set ++ other)
