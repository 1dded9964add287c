-- The inodes of contents that say which places are written: what is found and what is put.
use Rattle.std.proofs.Common.{◌≡◌, List, [], ◌∷◌, Option, Some, None, Bool, true, false, cond, option_map, refl, sym, ap, ◌∙◌, subst}
use Rattle.std.specs.declared.cmp.Ordering.{Ordering}
use Rattle.std.specs.declared.cmp.Ordering.TheVariants.{Less, Equal, Greater}
use Rattle.std.specs.Ordering.{eq_by_cmp}
use Rattle.std.specs.FinMap.Entries.{find as value_at, put, by_order}
use Rattle.ivy_base.specs.declared.key.Key.{Key}
use Rattle.ivy_base.specs.Naming.{key_cmp}
use Rattle.tree_model.specs.Tree.{Inode}
use Rattle.inode_replay.specs.Kept.{Kept}
use Rattle.shared_map.specs.Edits.{IsEditedAt, IsEdited}
use Rattle.fs_tree.specs.Contents.{inodes_of, IsContentEditedAt, IsContentEdited}

find_inode : (ino : Key) (es : List (Key × Kept)) → value_at key_cmp ino (inodes_of es) ≡ option_map (λ k. k.inode) (value_at key_cmp ino es)
find_inode ino [] = refl
find_inode ino (e ∷ es) = by (eq_by_cmp key_cmp ino e.0) (find_inode ino es)
  where
    by : (b : Bool) → value_at key_cmp ino (inodes_of es) ≡ option_map (λ k. k.inode) (value_at key_cmp ino es) → cond b (Some e.1.inode) (value_at key_cmp ino (inodes_of es)) ≡ option_map (λ k. k.inode) (cond b (Some e.1) (value_at key_cmp ino es))
    by true rest = refl
    by false rest = rest

-- what was found is the inode of that number
pub found_inode : (ino : Key) (es : List (Key × Kept)) (found : Option Kept) (seen : List (Key × Inode)) → found ≡ value_at key_cmp ino es → inodes_of es ≡ seen → option_map (λ k. k.inode) found ≡ value_at key_cmp ino seen
found_inode ino es found seen is same = ap (option_map (λ k. k.inode)) is ∙ sym (find_inode ino es) ∙ ap (value_at key_cmp ino) same

put_inode : (ino : Key) (k : Kept) (es : List (Key × Kept)) → inodes_of (put key_cmp ino k es) ≡ put key_cmp ino k.inode (inodes_of es)
put_inode ino k [] = refl
put_inode ino k (e ∷ es) = by (key_cmp ino e.0) (put_inode ino k es)
  where
    by : (r : Ordering) → inodes_of (put key_cmp ino k es) ≡ put key_cmp ino k.inode (inodes_of es) → inodes_of (by_order r ((ino, k) ∷ e ∷ es) ((e.0, k) ∷ es) (e ∷ put key_cmp ino k es)) ≡ by_order r ((ino, k.inode) ∷ inodes_of (e ∷ es)) ((e.0, k.inode) ∷ inodes_of es) ((e.0, e.1.inode) ∷ put key_cmp ino k.inode (inodes_of es))
    by Less rest = refl
    by Equal rest = refl
    by Greater rest = ap (λ l. (e.0, e.1.inode) ∷ l) rest

-- what was put is the inode under that number
pub put_inodes : (ino : Key) (k : Kept) (es new : List (Key × Kept)) (seen : List (Key × Inode)) → new ≡ put key_cmp ino k es → inodes_of es ≡ seen → inodes_of new ≡ put key_cmp ino k.inode seen
put_inodes ino k es new seen is same = ap inodes_of is ∙ put_inode ino k es ∙ ap (put key_cmp ino k.inode) same

module _ {S : Type 0} (makes : S → Kept → S → Kept → Type 0) (ino : Key) (edit after : S) (es new : List (Key × Kept)) (seen : List (Key × Inode)) (same : inodes_of es ≡ seen) where
  edited_at : (k : Option Kept) → IsEditedAt key_cmp makes ino edit after es new k → IsContentEditedAt makes ino edit after seen (inodes_of new) (option_map (λ k. k.inode) k)
  edited_at None e = (e.0, ap inodes_of e.1 ∙ same)
  edited_at (Some k) e = (k, e.0, refl, e.1, put_inodes ino e.0 es new seen e.2 same)

  -- what was edited is the inode under that number
  pub edited_inodes : IsEdited key_cmp makes ino edit after es new → IsContentEdited makes ino edit after seen (inodes_of new)
  edited_inodes e = subst (IsContentEditedAt makes ino edit after seen (inodes_of new)) (found_inode ino es (value_at key_cmp ino es) seen refl same) (edited_at (value_at key_cmp ino es) e)
