-- Inodes by the blocks that were read.
use Rattle.std.specs.Prelude.{◌≡◌, ℕ, true, false, List, [], ◌∷◌, map}
use Rattle.ivy_base.specs.declared.key.Key.{Key}
use Rattle.ivy_base.specs.declared.operation.Kind.{Kind}
use Rattle.ivy_base.specs.declared.operation.Kind.TheVariants.{Reg, Dir, Lnk}
use Rattle.tree_model.specs.Tree.{Tree, Inode, listing}
use Rattle.snapshot_model.specs.Blocks.{InodeBlock, IsInodeBlock, Says, inode_block}
use Rattle.snapshot_loading.specs.Picks.{Blocks, picked}
use Rattle.snapshot_loading.specs.Evenness.{is_even}
use Rattle.snapshot_loading.specs.Contents.{HasContents}

-- an inode of that number, and its entries
abbrev pub Item : Type 0
Item = (Key × Inode) × List (List ℕ × Key)

-- what a directory contains; else there is nothing
abbrev pub contained : Kind → List (List ℕ × Key) → List (List ℕ × Key)
contained Reg es = []
contained Dir es = es
contained Lnk es = []

abbrev pub item_in : Tree → Key × Inode → Item
item_in t i = (i, contained i.1.kind (listing t i.0))

abbrev pub items_in : Tree → List Item
items_in t = map (item_in t) t.inodes

-- the block says so of the inode, and these that follow it are an even list of what it contains
pub record IsInode (bytes : List ℕ) (blocks : Blocks) (i : Item) : Type 0 where
  pub said : InodeBlock
  pub says : Says IsInodeBlock inode_block bytes said
  pub number_is : said.number ≡ i.0.0
  pub kind : said.kind ≡ i.0.1.kind
  pub attributes : said.attributes ≡ i.0.1.attributes
  pub even : is_even false said.items.level blocks ≡ true
  pub contents : HasContents i.0.1.kind said (picked false 0 blocks) i.0.1.body i.1

-- they are so one by one
abbrev pub AreInodes : List (List ℕ × Blocks) → List Item → Type 0
AreInodes [] [] = Unit {0}
AreInodes [] (i ∷ inodes) = ⊥
AreInodes (b ∷ blocks) [] = ⊥
AreInodes (b ∷ blocks) (i ∷ inodes) = IsInode b.0 b.1 i × AreInodes blocks inodes
