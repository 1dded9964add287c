-- What a root's block shows with all below it.
use Rattle.std.specs.Prelude.{◌≡◌, ℕ, List, [], ◌∷◌}
use Rattle.ivy_base.specs.declared.key.Key.{Key}
use Rattle.tree_model.specs.Tree.{Tree, Inode, listing}
use Rattle.turn_model.specs.Basis.{Basis}
use Rattle.snapshot_model.specs.Blocks.{RootBlock, IsRootBlock, Says, root_block}
use Rattle.snapshot_loading.specs.Forests.{Forest, nothing, block, below_by}
use Rattle.snapshot_loading.specs.ShownInodes.{IsEvenList, ShowsInode}

-- the blocks show these inodes of the tree, one by one
abbrev pub ShowInodes : Tree → Forest → List (Key × Inode) → Type 0
ShowInodes t nothing [] = Unit {0}
ShowInodes t nothing (i ∷ inodes) = ⊥
ShowInodes t (block part bytes below beside) [] = ⊥
ShowInodes t (block part bytes below beside) (i ∷ inodes) = ShowsInode bytes below i.0 i.1 (listing t i.0) × ShowInodes t beside inodes

pub record ShowsBasis (bytes : List ℕ) (below : Forest) (b : Basis) : Type 0 where
  pub said : RootBlock
  pub says : Says IsRootBlock root_block bytes said
  pub front : said.front ≡ b.front
  pub tide : said.tide ≡ b.tide
  pub even : IsEvenList said.inodes.level below
  pub inodes : ShowInodes b.tree (below_by said.inodes.level below) b.tree.inodes
