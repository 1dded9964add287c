-- Which trees an agent holds.
use Rattle.tree_model.specs.Tree.{Tree}
use Rattle.log_model.specs.Laws.{NumbersAreKeys}
use Rattle.nfs_laws.specs.Lengths.{LinksAreShort, NamesAreKeys}

-- numbers and names are keys, and links are short, as in each tree that records make
pub record HasBounds (t : Tree) : Type 0 where
  pub numbers : NumbersAreKeys t
  pub names : NamesAreKeys t
  pub links : LinksAreShort t
