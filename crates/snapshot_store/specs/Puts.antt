-- What is put of a snapshot.
use Rattle.std.specs.Prelude.{◌≡◌, ℕ, List, flat_map, fold, Option, option_map}
use Rattle.tree_model.specs.Tree.{Tree}
use Rattle.log_model.specs.Vector.{Vector}
use Rattle.turn_model.specs.Basis.{Basis}
use Rattle.version_vectors.specs.declared.rank.Rank.{Rank}
use Rattle.version_vectors.specs.Ranks.{rank_of}
use Rattle.snapshot_model.specs.Spelling.{Made, with_block, list_of, named_by}
use Rattle.snapshot_blocks.specs.declared.listed.Listed.{Listed}
use Rattle.snapshot_blocks.specs.Parsed.{listed_of}

-- the basis of these parts
abbrev pub basis_with : Vector → Option Rank → Tree → Basis
basis_with front tide tree = record { front = front; tide = option_map rank_of tide; tree = tree }

-- these blocks, with all that are below them and that aren't there yet
abbrev pub put_all : List (List ℕ) → List Made → List (List ℕ)
put_all blocks made = fold with_block blocks (flat_map (λ m. m.putting) made)

-- the list over these items was put, and is named so
pub record PutsList (before : List (List ℕ)) (items : List Made) (after : List (List ℕ)) (l : Listed) : Type 0 where
  pub blocks : after ≡ put_all before (list_of items).1
  pub named : listed_of l ≡ named_by (list_of items)
