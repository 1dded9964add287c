-- What was read is within the bounds of snapshots.
use Rattle.std.proofs.Common.{◌≡◌, ℕ, zero, suc, ◌+◌, ◌*◌, ◌≤◌, false, List, [], ◌∷◌, ◌++◌, Bool, length, map, refl, sym, ap, ◌∙◌, subst, arith, length-append}
use Rattle.std.specs.Prelude.{IsTrue}
use Rattle.std.specs.List.{AllByRecursion}
use Rattle.std.proofs.lemmas.List.{length-map}
use Rattle.ivy_base.specs.declared.key.Key.{Key}
use Rattle.ivy_base.specs.declared.operation.Kind.{Kind}
use Rattle.ivy_base.specs.declared.operation.Kind.TheVariants.{Reg, Dir, Lnk}
use Rattle.ivy_base.specs.Naming.{IsFileName}
use Rattle.tree_model.specs.Tree.{Tree, Inode, Place, inode_at, is_directory, listing}
use Rattle.log_model.specs.Spelling.{IsKey, IsTarget}
use Rattle.snapshot_model.specs.Blocks.{AreAttributes, AreEntries, InodeBlock, IsEntry, most_content_bytes, most_levels, most_entries}
use Rattle.snapshot_model.specs.Reading.{SnapshotPart, AnInode, Listing, HasBounds, IsBodyOf, IsWholeTree, item_of, top_of}
use Rattle.snapshot_model.proofs.OneBlock.{one_inode}
use Rattle.snapshot_model.proofs.OneNames.{one_said}
use Rattle.snapshot_model.proofs.SameNames.{Has, has_each, has_listed, directory_of}
use Rattle.snapshot_loading.specs.Forests.{Forest, nothing, block, flat, named_in, mades, Fits, joined, children, below_by}
use Rattle.snapshot_loading.specs.ShownInodes.{bytes_in, run_of}
use Rattle.snapshot_loading.proofs.Forests.{AllAre, children_are, fits_children, mades_joined}
use Rattle.snapshot_loading.specs.Picks.{picked}
use Rattle.snapshot_loading.specs.Contents.{HasContents}
use Rattle.snapshot_loading.specs.Inodes.{contained, item_in, IsInode, AreInodes}
use Rattle.snapshot_loading.proofs.Layers.{IsBottom, all_top, is_nothing, top_picked}
use Rattle.snapshot_loading.proofs.Sizes.{sized, count_named}
use Rattle.snapshot_loading.proofs.Stretches.{stretches}
use Rattle.snapshot_loading.proofs.Told.{item_bottom}
use Rattle.snapshot_loading.proofs.Trees.{contained_is, each_has}

-- what a directory contains
abbrev Directory : Type 0
Directory = List (List ℕ × Key)

-- ---- how many are at the bottom of a list

children_few : (level : ℕ) (item : SnapshotPart) (f : Forest) → AllAre (Listing level item) f → Fits f → length (mades (children f)) ≤ 512 * length (mades f)
children_few level item nothing are fits = omega arith
children_few level item (block part bytes below beside) are fits =
    let s = sized level item part bytes below are.0 fits.0 in
    let rest = children_few level item beside are.1 fits.2 in
    let count : length (mades (joined below (children beside))) ≡ length (mades below) + length (mades (children beside)) =
    ap length (mades_joined below (children beside)) ∙ length-append (mades below) (mades (children beside)) in
    omega (arith, s.few, rest, count)

count_bytes : (f : Forest) → length (bytes_in f) ≡ length (mades f)
count_bytes nothing = refl
count_bytes (block part bytes below beside) = ap suc (count_bytes beside)

module _ (inodes : Bool) (item : SnapshotPart) (bottom : IsBottom inodes item) where
  pub bottom_few : (level : ℕ) (top : Key) (below : Forest) → level ≤ 3 → named_in below ≡ top_of item level top → Fits below → length (bytes_in (below_by level below)) ≤ 134217728
  bottom_few zero top below three e fits =
      let none : length (bytes_in below) ≡ 0 = ap (λ (f : Forest). length (bytes_in f)) (is_nothing below e) in
      omega (arith, none)
  bottom_few (suc zero) top below three e fits =
      let one : length (mades below) ≡ 1 = sym (count_named below) ∙ ap length e in
      let are = all_top inodes item bottom 0 top below e in
      let first = children_few 1 item below are fits in
      omega (arith, one, first, count_bytes (children below))
  bottom_few (suc (suc zero)) top below three e fits =
      let one : length (mades below) ≡ 1 = sym (count_named below) ∙ ap length e in
      let are = all_top inodes item bottom 1 top below e in
      let first = children_few 2 item below are fits in
      let second = children_few 1 item (children below) (children_are 2 item below are fits) (fits_children below fits) in
      omega (arith, one, first, second, count_bytes (children (children below)))
  bottom_few (suc (suc (suc zero))) top below three e fits =
      let one : length (mades below) ≡ 1 = sym (count_named below) ∙ ap length e in
      let are = all_top inodes item bottom 2 top below e in
      let first = children_few 3 item below are fits in
      let lower = children_are 3 item below are fits in
      let second = children_few 2 item (children below) lower (fits_children below fits) in
      let third = children_few 1 item (children (children below)) (children_are 2 item (children below) lower (fits_children below fits)) (fits_children (children below) (fits_children below fits)) in
      omega (arith, one, first, second, third, count_bytes (children (children (children below))))
  bottom_few (suc (suc (suc (suc level)))) top below three e fits = absurd (omega (arith, three))

-- ---- what an inode contains

run_few : (each : List Directory) → AllByRecursion AreEntries each → length (run_of each) ≤ most_entries * length each
run_few [] h = omega arith
run_few (es ∷ each) h = omega (arith, length-append es (run_of each), run_few each h.1, h.0.few)

entries_good : (each : List Directory) → AllByRecursion AreEntries each → AllByRecursion IsEntry (run_of each)
entries_good [] h = tt
entries_good (es ∷ each) h = joined_good es (run_of each) h.0.each (entries_good each h.1)
  where
    joined_good : (xs ys : Directory) → AllByRecursion IsEntry xs → AllByRecursion IsEntry ys → AllByRecursion IsEntry (xs ++ ys)
    joined_good [] ys f g = g
    joined_good (x ∷ xs) ys f g = (f.0, joined_good xs ys f.1 g)

pub record AreBounded (kind : Kind) (blocks : List (List ℕ)) (body : List ℕ) (es : Directory) : Type 0 where
  pub fits : IsBodyOf kind body
  pub good : AllByRecursion IsEntry es
  pub few : length es ≤ most_entries * length blocks

contents_bounded : (kind : Kind) (said : InodeBlock) (blocks : List (List ℕ)) (body : List ℕ) (es : Directory) → said.size ≤ most_content_bytes kind → IsTarget kind said.target → HasContents kind said blocks body es → AreBounded kind blocks body es
contents_bounded Reg said blocks body es size target h = record {
  fits = omega (arith, size, h.3);
  good = subst (λ (l : Directory). AllByRecursion IsEntry l) (sym h.0) tt;
  few = let none : length es ≡ 0 = ap length h.0 in omega (arith, none);
}
contents_bounded Dir said blocks body es size target h = record {
  fits = h.0;
  good = subst (λ (l : Directory). AllByRecursion IsEntry l) h.1.run (entries_good h.1.each h.1.fit);
  few =
      let count : length blocks ≡ length h.1.each = ap length h.1.spelled ∙ length-map h.1.each _ in
      let size : length (run_of h.1.each) ≡ length es = ap length h.1.run in
      omega (arith, count, size, run_few h.1.each h.1.fit);
}
contents_bounded Lnk said blocks body es size target h = record {
  fits = subst (λ (l : List ℕ). IsTarget Lnk l) h.1 target;
  good = subst (λ (l : Directory). AllByRecursion IsEntry l) (sym h.0) tt;
  few = let none : length es ≡ 0 = ap length h.0 in omega (arith, none);
}

-- ---- inodes

pub record IsBounded (t : Tree) (i : Key × Inode) : Type 0 where
  pub key : IsKey i.0
  pub bounds : HasBounds i.1
  pub good : AllByRecursion IsEntry (contained i.1.kind (listing t i.0))
  pub few : length (contained i.1.kind (listing t i.0)) ≤ 4294967296

levels_few : (kind : Kind) → most_levels kind ≤ 3
levels_few Reg = omega arith
levels_few Dir = omega arith
levels_few Lnk = omega arith

inode_bounded : (t : Tree) (i : Key × Inode) (bytes : List ℕ) (below : Forest) → Fits (block AnInode bytes below nothing) → IsInode bytes (flat below) (item_in t i) → IsBounded t i
inode_bounded t i bytes below fits h =
    let one : fits.0.0 ≡ h.said = one_said one_inode fits.0.1 h.says in
    let named : named_in below ≡ top_of (item_of h.said.kind) h.said.items.level h.said.items.top = fits.0.2 ∙ ap (λ (b : InodeBlock). top_of (item_of b.kind) b.items.level b.items.top) one in
    let bottom = item_bottom h.said.kind in
    let count : length (picked false 0 (flat below)) ≡ length (bytes_in (below_by h.said.items.level below)) =
    ap length (top_picked false (item_of h.said.kind) bottom h.said.items.level h.said.items.top below named fits.1) in
    let most = bottom_few false (item_of h.said.kind) bottom h.said.items.level h.said.items.top below (omega (arith, h.says.fits.items.few, levels_few h.said.kind)) named fits.1 in
    let b = contents_bounded i.1.kind h.said (picked false 0 (flat below)) i.1.body (contained i.1.kind (listing t i.0))
    (subst (λ (k : Kind). h.said.size ≤ most_content_bytes k) h.kind h.says.fits.size) (subst (λ (k : Kind). IsTarget k h.said.target) h.kind h.says.fits.target) h.contents in
    record {
      key = subst IsKey h.number_is h.says.fits.number;
      bounds = record { attributes = subst AreAttributes h.attributes h.says.fits.attributes; body = b.fits };
      good = b.good;
      few = omega (arith, b.few, count, most);
    }

pub all_bounded : (t : Tree) (f : Forest) (inodes : List (Key × Inode)) → AllAre AnInode f → Fits f → AreInodes (stretches f) (map (item_in t) inodes) → AllByRecursion (IsBounded t) inodes
all_bounded t nothing [] are fits h = tt
all_bounded t nothing (i ∷ inodes) are fits h = absurd h
all_bounded t (block part bytes below beside) [] are fits h = absurd h
all_bounded t (block part bytes below beside) (i ∷ inodes) are fits h =
    (inode_bounded t i bytes below (subst (λ (p : SnapshotPart). Fits (block p bytes below nothing)) are.0 (fits.0, fits.1, tt)) h.0, all_bounded t beside inodes are.1 fits.2 h.1)

pub as_many : (t : Tree) (f : Forest) (inodes : List (Key × Inode)) → AreInodes (stretches f) (map (item_in t) inodes) → length inodes ≡ length (bytes_in f)
as_many t nothing [] h = refl
as_many t nothing (i ∷ inodes) h = absurd h
as_many t (block part bytes below beside) [] h = absurd h
as_many t (block part bytes below beside) (i ∷ inodes) h = ap suc (as_many t beside inodes h.1)

-- ---- names

name_bounded : (t : Tree) → IsWholeTree t → AllByRecursion (IsBounded t) t.inodes → (e : Place × Key) → Has t.names e → IsKey e.0.0 × IsFileName e.0.1 × IsKey e.1
name_bounded t w bounded e h =
    let parent = has_each (λ (e : Place × Key). IsTrue (is_directory (inode_at t e.0.0))) t.names e w.parents h in
    let dir = directory_of t.inodes e.0.0 parent in
    let b = has_each (IsBounded t) t.inodes (e.0.0, dir.inode) bounded dir.has in
    let good : AllByRecursion IsEntry (listing t e.0.0) = subst (λ (k : Kind). AllByRecursion IsEntry (contained k (listing t e.0.0))) dir.kind b.good in
    let entry = has_each IsEntry (listing t e.0.0) (e.0.1, e.1) good (has_listed t.names e.0.0 e.0.1 e.1 h) in
    (b.key, entry.0, entry.1)

pub names_bounded : (t : Tree) → IsWholeTree t → AllByRecursion (IsBounded t) t.inodes → AllByRecursion (λ e. IsKey e.0.0 × IsFileName e.0.1 × IsKey e.1) t.names
names_bounded t w bounded = each_has (λ e. IsKey e.0.0 × IsFileName e.0.1 × IsKey e.1) t.names (name_bounded t w bounded)

pub few_listed : (t : Tree) → IsWholeTree t → AllByRecursion (IsBounded t) t.inodes → AllByRecursion (λ i. length (listing t i.0) ≤ 4294967296) t.inodes
few_listed t w bounded =
    each_has (λ i. length (listing t i.0) ≤ 4294967296) t.inodes (λ i h. let b = has_each (IsBounded t) t.inodes i bounded h in let same = ap length (contained_is t w i h) in omega (arith, same, b.few))
