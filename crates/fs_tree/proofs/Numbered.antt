-- Numbers of inodes that are listed one after the other.
use Rattle.std.proofs.Common.{◌≡◌, List, [], ◌∷◌, ◌++◌, Bor, map, refl, sym, ap, ◌∙◌}
use Rattle.std.proofs.lemmas.List.{append-nil, append_assoc}
use Rattle.ivy_base.specs.declared.key.Key.{Key}
use Rattle.tree_model.specs.Tree.{Inode}
use Rattle.inode_replay.specs.Kept.{Kept}
use Rattle.fs_tree.specs.Contents.{inodes_of}

-- the numbers of borrowed inodes
abbrev pub numbers_of : List (Bor Key × Bor Kept) → List Key
numbers_of es = map (λ e. e.0.now) es

same_numbers : (es : List (Bor Key × Bor Kept)) → numbers_of es ≡ map (λ e. e.0) (inodes_of (map {B = Key × Kept} (λ e. (e.0.now, e.1.now)) es))
same_numbers [] = refl
same_numbers (e ∷ es) = ap (λ l. e.0.now ∷ l) (same_numbers es)

module _ (seen : List (Key × Inode)) where
  pub none_numbered : (numbers : List Key) (rest es : List (Bor Key × Bor Kept)) → numbers ≡ [] → rest ≡ es → (kept : List (Key × Kept)) → map {B = Key × Kept} (λ e. (e.0.now, e.1.now)) es ≡ kept → inodes_of kept ≡ seen → numbers ++ numbers_of rest ≡ map (λ e. e.0) seen
  none_numbered numbers rest es none all kept is same = (λ i. none i ++ numbers_of (all i)) ∙ same_numbers es ∙ ap (λ l. map (λ e. e.0) (inodes_of l)) is ∙ ap (λ l. map (λ e. e.0) l) same

  pub one_numbered : (numbers more : List Key) (rest later : List (Bor Key × Bor Kept)) (ino : Bor Key) (content : Bor Kept) → numbers ++ numbers_of rest ≡ map (λ e. e.0) seen → rest ≡ (ino, content) ∷ later → more ≡ numbers ++ ino.now ∷ [] → more ++ numbers_of later ≡ map (λ e. e.0) seen
  one_numbered numbers more rest later ino content told left pushed =
      ap (λ l. l ++ numbers_of later) pushed ∙ append_assoc numbers (ino.now ∷ []) (numbers_of later) ∙ ap (λ es. numbers ++ numbers_of es) (sym left) ∙ told

  pub all_numbered : (numbers : List Key) (rest : List (Bor Key × Bor Kept)) → numbers ++ numbers_of rest ≡ map (λ e. e.0) seen → rest ≡ [] → numbers ≡ map (λ e. e.0) seen
  all_numbered numbers rest told none = sym (append-nil numbers) ∙ ap (λ es. numbers ++ numbers_of es) (sym none) ∙ told
