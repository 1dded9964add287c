-- The whole tree.
use Rattle.std.proofs.Common.{◌≡◌, ℕ, Bool, true, false, cond, List, [], ◌++◌, Option, Some, None, option_map, refl, sym, ap, ◌∙◌, subst, append-nil}
use Rattle.std.specs.FinMap.Entries.{is_sorted, same_entries}
use Rattle.ivy_base.specs.declared.key.Key.{Key}
use Rattle.ivy_base.specs.declared.operation.Kind.{Kind}
use Rattle.ivy_base.specs.declared.operation.Kind.TheVariants.{Reg, Dir, Lnk}
use Rattle.ivy_base.specs.Naming.{key_cmp, root_number}
use Rattle.tree_model.specs.Tree.{Tree, Inode, IsInOrder, Place, directory_kind, inode_at, is_directory, place_cmp, same_key}
use Rattle.tree_model.specs.Sound.{IsSound}
use Rattle.tree_model.proofs.Keys.{exact_keys, keys_total, same_key_is}
use Rattle.tree_model.proofs.Sound.{from_test}
use Rattle.snapshot_loading.specs.declared.parts.InodeParts.{InodeParts}
use Rattle.snapshot_loading.specs.Parts.{tree_of}
use Rattle.snapshot_loading.specs.Steps.{AreAdded, AreSettled, AwaitsAll, Links, first_body, first_sort, sort, sort_at}
use Rattle.snapshot_loading.proofs.Made.{sound_made}

abbrev Sort : Type 0
Sort = Kind × List ℕ

directory_sort : (kind : Kind) (body : List ℕ) → directory_kind kind ≡ true → ◌≡◌ {A = Sort} (kind, first_body kind body) (Dir, [])
directory_sort Reg body h = cc
directory_sort Dir body h = refl
directory_sort Lnk body h = cc

root_first : (o : Option Inode) → is_directory o ≡ true → option_map first_sort o ≡ Some (Dir, [])
root_first None h = cc
root_first (Some i) h = ap (λ (s : Sort). Some s) (directory_sort i.kind i.body h)

kind_of_sort : (o p : Option Inode) → option_map sort o ≡ option_map first_sort p → option_map (λ i. i.kind) o ≡ option_map (λ i. i.kind) p
kind_of_sort None None e = refl
kind_of_sort None (Some j) e = cc
kind_of_sort (Some i) None e = cc
kind_of_sort (Some i) (Some j) e = let same : sort i ≡ first_sort j = cc in ap (λ (s : Sort). Some s.0) same

module _ (parts : List InodeParts) (begun : Tree) (added : AreAdded parts begun) (root : is_directory (inode_at (tree_of parts) root_number) ≡ true) where
  begun_sorts : (k : Key) → sort_at begun k ≡ option_map first_sort (inode_at (tree_of parts) k)
  begun_sorts k = added.each k ∙ by (same_key k root_number) refl
    where
      by : (b : Bool) → same_key k root_number ≡ b → cond b (Some (Dir, [])) (option_map first_sort (inode_at (tree_of parts) k)) ≡ option_map first_sort (inode_at (tree_of parts) k)
      by true is = sym (ap (λ (n : Key). option_map first_sort (inode_at (tree_of parts) n)) (same_key_is k root_number is) ∙ root_first (inode_at (tree_of parts) root_number) root)
      by false is = refl

  pub awaits_all : (named : Tree) → Links (tree_of parts).names begun named true → AwaitsAll parts named
  awaits_all named links k = links.2 k ∙ begun_sorts k

  pub no_tree : (named : Tree) → Links (tree_of parts).names begun named false → IsSound (tree_of parts) → ⊥
  no_tree named links sound =
      links (tree_of parts) [] (λ k. kind_of_sort (inode_at begun k) (inode_at (tree_of parts) k) (begun_sorts k))
      (sym (append-nil (begun.names ++ (tree_of parts).names) ∙ ap (λ (l : List (Place × Key)). l ++ (tree_of parts).names) added.no_names)) sound

  pub whole_tree : (named built : Tree) → Links (tree_of parts).names begun named true → AreSettled parts named built → IsInOrder (tree_of parts) → (built ≡ tree_of parts) × IsSound (tree_of parts)
  whole_tree named built links settled order =
      let sound : IsSound built = settled.sound (sound_made named links.0) in
      let names : built.names ≡ (tree_of parts).names = settled.names ∙ links.1 ∙ ap (λ (l : List (Place × Key)). l ++ (tree_of parts).names) added.no_names in
      let inodes : built.inodes ≡ (tree_of parts).inodes =
      same_entries key_cmp keys_total exact_keys built.inodes (tree_of parts).inodes (from_test (is_sorted key_cmp built.inodes) sound.order.inodes) (from_test (is_sorted key_cmp (tree_of parts).inodes) order.inodes) settled.each in
      let same : built ≡ tree_of parts =
      ap (λ (n : List (Place × Key)). record { names = n; inodes = built.inodes }) names ∙ ap (λ (i : List (Key × Inode)). record { names = (tree_of parts).names; inodes = i }) inodes in
      (same, subst IsSound same sound)

-- the names go after none
pub names_behind : (parts : List InodeParts) (begun : Tree) → begun.names ≡ [] → IsInOrder (tree_of parts) → is_sorted place_cmp (begun.names ++ (tree_of parts).names) ≡ true
names_behind parts begun none order = ap (λ (l : List (Place × Key)). is_sorted place_cmp (l ++ (tree_of parts).names)) none ∙ order.names
