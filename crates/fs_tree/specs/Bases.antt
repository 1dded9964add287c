-- Bases as they are kept.
use Rattle.std.specs.Prelude.{option_map}
use Rattle.version_vectors.specs.Ranks.{rank_of}
use Rattle.turn_model.specs.Basis as turn
use Rattle.fs_tree.specs.declared.basis.Basis.{Basis}

-- a basis as the definitions have it
abbrev pub basis_of : Basis → turn.Basis
basis_of b = record { front = b.front; tide = option_map rank_of b.tide; tree = b.tree }
