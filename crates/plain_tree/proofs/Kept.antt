-- The inodes of a list that says which places are written: one that is found, and one that is set.
use Rattle.std.proofs.Common.{◌≡◌, List, Option, Result, Ok, Err, OnOk, option_map, refl, ap, ◌∙◌}
use Rattle.std.specs.FinMap.Entries.{find as value_at, put}
use Rattle.ivy_base.specs.declared.key.Key.{Key}
use Rattle.ivy_base.specs.Naming.{key_cmp}
use Rattle.tree_model.specs.Tree.{Tree, Place, inode_at}
use Rattle.tree_model.specs.Apply.{with_inode}
use Rattle.inode_replay.specs.Kept.{Kept}
use Rattle.fs_tree.specs.Contents.{inodes_of}
use Rattle.fs_tree.proofs.Kept.{found_inode, put_inodes}
use Rattle.plain_tree.specs.View.{tree_of}

module _ (names : List (Place × Key)) (kept : List (Key × Kept)) (seen : Tree) (is : tree_of names (inodes_of kept) ≡ seen) (ino : Key) where
  pub inode_found : (found : Option Kept) → found ≡ value_at key_cmp ino kept → option_map (λ k. k.inode) found ≡ inode_at seen ino
  inode_found found there = found_inode ino kept found seen.inodes there (ap (λ (t : Tree). t.inodes) is)

  pub inode_set : {A E : Type 0} (r : Result A E) (k : Kept) (left : List (Key × Kept)) → OnOk r (left ≡ put key_cmp ino k kept) → OnOk r (tree_of names (inodes_of left) ≡ with_inode seen ino k.inode)
  inode_set (Ok x) k left ok = ap (λ l. tree_of names l) (put_inodes ino k kept left (inodes_of kept) ok refl) ∙ ap (λ (t : Tree). with_inode t ino k.inode) is
  inode_set (Err e) k left ok = tt
