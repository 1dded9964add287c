-- The array of a tree's nodes: node r stands at index r, and index 0 isn't used.
use Rattle.std.specs.Prelude.{◌≡◌, ℕ, ◌+◌, ◌*◌, ◌<◌, ◌≤◌, List, [], length, get_or}
use Rattle.hash_signature_model.specs.declared.set.Height.{Height}
use Rattle.hash_signature_model.specs.declared.keys.PrivateKey.{PrivateKey}
use Rattle.hash_signature_model.specs.Parameters.{levels, leaves}
use Rattle.hash_signature_model.specs.OneTime.{one_time_key}
use Rattle.hash_signature_model.specs.Nodes.{Stands, leaf_node, inner_node, node, above, sibling_of}

-- what stands at an index
abbrev pub at : List (List ℕ) → ℕ → List ℕ
at nodes r = get_or nodes r []

-- the node of a leaf
abbrev pub leaf_of : PrivateKey → ℕ → List ℕ
leaf_of key leaf = leaf_node key.id (leaves key.set.h + leaf) (one_time_key key.set.w key.id key.seed leaf)

-- these are the leaves' nodes, from a leaf on
abbrev pub AreLeaves : PrivateKey → ℕ → List (List ℕ) → ℕ → Type 0
AreLeaves key first out count = (k : ℕ) → k < count → at out k ≡ leaf_of key (first + k)

-- the upper half of the array holds the leaves' nodes
abbrev pub HoldsLeaves : PrivateKey → List (List ℕ) → Type 0
HoldsLeaves key nodes = (k : ℕ) → k < leaves key.set.h → at nodes (leaves key.set.h + k) ≡ leaf_of key k

-- from an index on each node below `count` comes from the two below it
abbrev pub AreInner : List ℕ → ℕ → ℕ → List (List ℕ) → Type 0
AreInner id low count nodes = (r : ℕ) → low ≤ r → r < count → at nodes r ≡ inner_node id r (at nodes (2 * r)) (at nodes (2 * r + 1))

-- from an index on nothing has changed
abbrev pub SameFrom : ℕ → List (List ℕ) → List (List ℕ) → Type 0
SameFrom low old new = (r : ℕ) → low ≤ r → at new r ≡ at old r

-- the array holds the tree's nodes, all of them
pub record AreNodes (key : PrivateKey) (nodes : List (List ℕ)) : Type 0 where
  pub size : length nodes ≡ 2 * leaves key.set.h
  pub known : (n k r : ℕ) → n + k ≡ levels key.set.h → Stands r k → at nodes r ≡ node key.set key.id key.seed n r

-- what the array holds beside the nodes on the way up from a leaf
abbrev pub path_in : List (List ℕ) → Height → ℕ → ℕ → List ℕ
path_in nodes h leaf n = at nodes (sibling_of (above (leaves h + leaf) n))
