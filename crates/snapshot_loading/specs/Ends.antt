-- The basis that blocks that were read come to.
use Rattle.std.specs.Prelude.{◌≡◌, ℕ, true, List, Option, Some, None}
use Rattle.tree_model.specs.Sound.{IsSound}
use Rattle.turn_model.specs.Basis.{Basis}
use Rattle.snapshot_model.specs.Blocks.{RootBlock, IsRootBlock, Says, root_block}
use Rattle.snapshot_model.specs.Reading.{AreOf}
use Rattle.snapshot_loading.specs.Picks.{Blocks, inodes_in}
use Rattle.snapshot_loading.specs.Evenness.{is_even}
use Rattle.snapshot_loading.specs.Inodes.{AreInodes, items_in}

-- The blocks are the snapshot of that basis, and of no other one; or of none.
abbrev pub AreOfBasis : List (List ℕ) → Option Basis → Type 0
AreOfBasis blocks (Some b) = AreOf blocks b × ((other : Basis) → AreOf blocks other → other ≡ b)
AreOfBasis blocks None = (b : Basis) → AreOf blocks b → ⊥

-- ---- by the root and the blocks after it

-- the root says so of the basis, these that follow it are an even list of its inodes, and its tree is one without contradictions
pub record IsBasis (bytes : List ℕ) (blocks : Blocks) (b : Basis) : Type 0 where
  pub said : RootBlock
  pub says : Says IsRootBlock root_block bytes said
  pub front : said.front ≡ b.front
  pub tide : said.tide ≡ b.tide
  pub even : is_even true said.inodes.level blocks ≡ true
  pub inodes : AreInodes (inodes_in blocks) (items_in b.tree)
  pub sound : IsSound b.tree
