-- What was read, step by step.
use Rattle.std.proofs.Common.{◌≡◌, ℕ, Bool, true, List, [], ◌∷◌, ◌++◌, map, sym, ap, ◌∙◌, subst}
use Rattle.std.specs.Prelude.{if◌then◌else◌}
use Rattle.std.proofs.lemmas.List.{append_assoc, map-append}
use Rattle.snapshot_loading.specs.declared.parts.InodeParts.{InodeParts}
use Rattle.snapshot_model.specs.Reading.{SnapshotPart}
use Rattle.snapshot_loading.specs.declared.load.Read.{Read}
use Rattle.snapshot_loading.specs.Roles.{part_of}
use Rattle.snapshot_loading.specs.WholeLaws.{blocks_read}
use Rattle.snapshot_loading.specs.Picks.{Blocks, is_inode, within, inodes_in}
use Rattle.snapshot_loading.specs.Inodes.{Item, IsInode, AreInodes}
use Rattle.snapshot_loading.specs.Answers.{item_of}

abbrev Stretch : Type 0
Stretch = List ℕ × Blocks

-- these inodes were read, and the others are among what is left
pub record AreSoFar (whole left : Blocks) (all : List InodeParts) : Type 0 where
  pub done : List Stretch
  pub split : inodes_in whole ≡ done ++ inodes_in left
  pub are : AreInodes done (map item_of all)

one_more : (done : List Stretch) (s : Stretch) (items : List Item) (i : Item) → AreInodes done items → IsInode s.0 s.1 i → AreInodes (done ++ s ∷ []) (items ++ i ∷ [])
one_more [] s [] i h g = (g, tt)
one_more [] s (j ∷ items) i h g = absurd h
one_more (d ∷ done) s [] i h g = absurd h
one_more (d ∷ done) s (j ∷ items) i h g = (h.0, one_more done s items i h.1 g)

module _ (whole : Blocks) (part : SnapshotPart) (bytes : List ℕ) (rest : Blocks) (all : List InodeParts) (h : AreSoFar whole ((part, bytes) ∷ rest) all) where
  here : is_inode part ≡ true → inodes_in whole ≡ h.done ++ (bytes, within rest) ∷ inodes_in rest
  here is = h.split ∙ ap (λ (b : Bool). h.done ++ (if b then (bytes, within rest) ∷ inodes_in rest else inodes_in rest)) is

  pub taken : is_inode part ≡ true → (p : InodeParts) → IsInode bytes (within rest) (item_of p) → AreSoFar whole rest (all ++ p ∷ [])
  taken is p one = record {
    done = h.done ++ (bytes, within rest) ∷ [];
    split = here is ∙ sym (append_assoc h.done ((bytes, within rest) ∷ []) (inodes_in rest));
    are = subst (λ (items : List Item). AreInodes (h.done ++ (bytes, within rest) ∷ []) items) (sym (map-append item_of all (p ∷ []))) (one_more h.done (bytes, within rest) (map item_of all) (item_of p) h.are one);
  }

  none_behind : (done : List Stretch) (items : List Item) → ((i : Item) → IsInode bytes (within rest) i → ⊥) → AreInodes (done ++ (bytes, within rest) ∷ inodes_in rest) items → ⊥
  none_behind [] [] none g = g
  none_behind [] (i ∷ items) none g = none i g.0
  none_behind (d ∷ done) [] none g = g
  none_behind (d ∷ done) (i ∷ items) none g = none_behind done items none g.1

  pub none_there : is_inode part ≡ true → ((i : Item) → IsInode bytes (within rest) i → ⊥) → (items : List Item) → AreInodes (inodes_in whole) items → ⊥
  none_there is none items g = none_behind h.done items none (subst (λ (l : List Stretch). AreInodes l items) (here is) g)

-- ---- as it was read

module _ (whole : Blocks) (left rest : List Read) (first : Read) (all : List InodeParts) (cut : left ≡ first ∷ rest) (h : AreSoFar whole (blocks_read left) all) (is : is_inode (part_of first.role) ≡ true) where
  so_far : AreSoFar whole ((part_of first.role, first.bytes) ∷ blocks_read rest) all
  so_far = subst (λ (l : List Read). AreSoFar whole (blocks_read l) all) cut h

  module _ (bytes : List ℕ) (below : Blocks) (of_first : bytes ≡ first.bytes) (all_within : below ≡ within (blocks_read rest)) where
    pub none_read : ((i : Item) → IsInode bytes below i → ⊥) → (items : List Item) → AreInodes (inodes_in whole) items → ⊥
    none_read none items g =
        none_there whole (part_of first.role) first.bytes (blocks_read rest) all so_far is
        (λ i one. none i (subst (λ (b : List ℕ). IsInode b below i) (sym of_first) (subst (λ (l : Blocks). IsInode first.bytes l i) (sym all_within) one))) items g

    pub one_read : (p : InodeParts) → IsInode bytes below (item_of p) → AreSoFar whole (blocks_read rest) (all ++ p ∷ [])
    one_read p one =
        taken whole (part_of first.role) first.bytes (blocks_read rest) all so_far is p
        (subst (λ (l : Blocks). IsInode first.bytes l (item_of p)) all_within (subst (λ (b : List ℕ). IsInode b below (item_of p)) of_first one))
