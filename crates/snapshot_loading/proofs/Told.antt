-- Inodes as they are shown and as they are told.
use Rattle.std.proofs.Common.{◌≡◌, ℕ, ◌≤◌, true, false, List, [], ◌∷◌, length, map, refl, sym, ap, ◌∙◌, subst, arith}
use Rattle.std.specs.List.{AllByRecursion}
use Rattle.ivy_base.specs.declared.key.Key.{Key}
use Rattle.ivy_base.specs.declared.operation.Kind.{Kind}
use Rattle.ivy_base.specs.declared.operation.Kind.TheVariants.{Reg, Dir, Lnk}
use Rattle.tree_model.specs.Tree.{Tree, Inode, Attributes, listing}
use Rattle.snapshot_model.specs.Blocks.{AreEntries, Ascend, InodeBlock, IsEntry, IsInodeBlock, Says, inode_block, most_entries}
use Rattle.snapshot_model.specs.Spelling.{in_pieces}
use Rattle.snapshot_model.specs.Reading.{SnapshotPart, AnInode, item_of, top_of}
use Rattle.snapshot_model.proofs.OneBlock.{one_inode}
use Rattle.snapshot_model.proofs.OneNames.{one_said}
use Rattle.snapshot_model.proofs.Pieces.{each_joined, short_pieces}
use Rattle.snapshot_loading.proofs.Fits.{some_each}
use Rattle.snapshot_loading.proofs.PiecesInOrder.{pieces_ascend}
use Rattle.snapshot_loading.specs.Forests.{Forest, nothing, block, flat, named_in, Fits, below_by}
use Rattle.snapshot_loading.specs.ShownInodes.{AreContents, ShowsInode, bytes_in}
use Rattle.snapshot_loading.specs.Wholes.{ShowInodes}
use Rattle.snapshot_loading.proofs.Forests.{AllAre}
use Rattle.snapshot_loading.proofs.Full.{full_pieces}
use Rattle.snapshot_loading.specs.Picks.{Blocks, picked}
use Rattle.snapshot_loading.specs.Evenness.{is_even}
use Rattle.snapshot_loading.specs.Contents.{HasContents}
use Rattle.snapshot_loading.specs.Inodes.{Item, contained, item_in, IsInode, AreInodes}
use Rattle.snapshot_loading.proofs.Layers.{IsBottom, entries_are, pieces_are, top_picked}
use Rattle.snapshot_loading.proofs.Sizes.{told_even, even_told}
use Rattle.snapshot_loading.proofs.Stretches.{stretches}
use Rattle.snapshot_loading.proofs.Runs.{one_have}

-- what a directory contains
abbrev Directory : Type 0
Directory = List (List ℕ × Key)

-- ---- contents

all_fit : (each : List Directory) → AllByRecursion (λ es. 1 ≤ length es) each → AllByRecursion (λ es. length es ≤ most_entries) each → AllByRecursion (AllByRecursion IsEntry) each → AllByRecursion Ascend each → AllByRecursion AreEntries each
all_fit [] some few good ascend = tt
all_fit (es ∷ each) some few good ascend = (record { some = some.0; few = few.0; each = good.0; in_order = ascend.0 }, all_fit each some.1 few.1 good.1 ascend.1)

pub contents_told : (kind : Kind) (said : InodeBlock) (items : Forest) (body : List ℕ) (es : Directory) → AllByRecursion IsEntry es → Ascend es → AreContents kind said items body es
    → HasContents kind said (bytes_in items) body (contained kind es)
contents_told Reg said items body es good ascend h = (refl, h.0, h.1, h.2)
contents_told Dir said items body es good ascend h =
    let each : h.1 ≡ in_pieces most_entries es = sym (full_pieces most_entries h.1 (omega arith) h.3) ∙ ap (λ (l : Directory). in_pieces most_entries l) h.4 in
    let fit : AllByRecursion AreEntries (in_pieces most_entries es) =
    all_fit (in_pieces most_entries es) (some_each (length es) most_entries es (omega arith)) (short_pieces (length es) most_entries es) (each_joined IsEntry (length es) most_entries es good) (pieces_ascend (length es) most_entries es ascend) in
    (h.0, record { each = h.1; spelled = h.2; fit = subst (λ (l : List Directory). AllByRecursion AreEntries l) (sym each) fit; full = h.3; run = h.4 })
contents_told Lnk said items body es good ascend h = (refl, h)

pub told_contents : (kind : Kind) (said : InodeBlock) (items : Forest) (body : List ℕ) (es : Directory) → HasContents kind said (bytes_in items) body (contained kind es) → AreContents kind said items body es
told_contents Reg said items body es h = (h.1, h.2, h.3)
told_contents Dir said items body es h = (h.0, h.1.each, h.1.spelled, h.1.full, h.1.run)
told_contents Lnk said items body es h = h.1

-- ---- an inode

pub item_bottom : (kind : Kind) → IsBottom false (item_of kind)
item_bottom Reg = pieces_are
item_bottom Dir = entries_are
item_bottom Lnk = entries_are

module _ (bytes : List ℕ) (below : Forest) (fits : Fits (block AnInode bytes below nothing)) where
  named_by_said : (said : InodeBlock) → fits.0.0 ≡ said → named_in below ≡ top_of (item_of said.kind) said.items.level said.items.top
  named_by_said said one = fits.0.2 ∙ ap (λ (b : InodeBlock). top_of (item_of b.kind) b.items.level b.items.top) one

  pub inode_told : (number : Key) (inode : Inode) (es : Directory) → AllByRecursion IsEntry es → Ascend es → ShowsInode bytes below number inode es → IsInode bytes (flat below) ((number, inode), contained inode.kind es)
  inode_told number inode es good ascend s =
      let named = named_by_said s.said (one_said one_inode fits.0.1 s.says) in
      let bottom = item_bottom s.said.kind in
      record {
        said = s.said;
        says = s.says;
        number_is = s.number_is;
        kind = s.kind;
        attributes = s.attributes;
        even = even_told false (item_of s.said.kind) bottom s.said.items.level s.said.items.top below named fits.1 s.even;
        contents = subst (λ (l : List (List ℕ)). HasContents inode.kind s.said l inode.body (contained inode.kind es)) (sym (top_picked false (item_of s.said.kind) bottom s.said.items.level s.said.items.top below named fits.1))
            (contents_told inode.kind s.said (below_by s.said.items.level below) inode.body es good ascend s.contents);
      }

  pub inode_shown : (number : Key) (inode : Inode) (es : Directory) → IsInode bytes (flat below) ((number, inode), contained inode.kind es) → ShowsInode bytes below number inode es
  inode_shown number inode es i =
      let named = named_by_said i.said (one_said one_inode fits.0.1 i.says) in
      let bottom = item_bottom i.said.kind in
      record {
        said = i.said;
        says = i.says;
        number_is = i.number_is;
        kind = i.kind;
        attributes = i.attributes;
        even = told_even false (item_of i.said.kind) bottom i.said.items.level i.said.items.top below named fits.1 i.even;
        contents = told_contents inode.kind i.said (below_by i.said.items.level below) inode.body es
            (subst (λ (l : List (List ℕ)). HasContents inode.kind i.said l inode.body (contained inode.kind es)) (top_picked false (item_of i.said.kind) bottom i.said.items.level i.said.items.top below named fits.1) i.contents);
      }

-- ---- all inodes

pub all_told : (t : Tree) (f : Forest) (inodes : List (Key × Inode)) → AllAre AnInode f → Fits f → ((d : Key) → AllByRecursion IsEntry (listing t d)) → ((d : Key) → Ascend (listing t d)) → ShowInodes t f inodes
    → AreInodes (stretches f) (map (item_in t) inodes)
all_told t nothing [] are fits good ascend h = tt
all_told t nothing (i ∷ inodes) are fits good ascend h = h
all_told t (block part bytes below beside) [] are fits good ascend h = h
all_told t (block part bytes below beside) (i ∷ inodes) are fits good ascend h = (
  inode_told bytes below (subst (λ (p : SnapshotPart). Fits (block p bytes below nothing)) are.0 (fits.0, fits.1, tt)) i.0 i.1 (listing t i.0) (good i.0) (ascend i.0) h.0,
  all_told t beside inodes are.1 fits.2 good ascend h.1,
)

pub all_shown : (t : Tree) (f : Forest) (inodes : List (Key × Inode)) → AllAre AnInode f → Fits f → AreInodes (stretches f) (map (item_in t) inodes) → ShowInodes t f inodes
all_shown t nothing [] are fits h = tt
all_shown t nothing (i ∷ inodes) are fits h = h
all_shown t (block part bytes below beside) [] are fits h = h
all_shown t (block part bytes below beside) (i ∷ inodes) are fits h = (
  inode_shown bytes below (subst (λ (p : SnapshotPart). Fits (block p bytes below nothing)) are.0 (fits.0, fits.1, tt)) i.0 i.1 (listing t i.0) h.0,
  all_shown t beside inodes are.1 fits.2 h.1,
)

-- ---- in one way

same_body : (kind : Kind) (said : InodeBlock) (blocks : List (List ℕ)) (body other : List ℕ) (es os : Directory) → HasContents kind said blocks body es → HasContents kind said blocks other os → (body ≡ other) × (es ≡ os)
same_body Reg said blocks body other es os h g = (sym h.2 ∙ g.2, h.0 ∙ sym g.0)
same_body Dir said blocks body other es os h g = (h.0 ∙ sym g.0, one_have blocks es os h.1 g.1)
same_body Lnk said blocks body other es os h g = (sym h.1 ∙ g.1, h.0 ∙ sym g.0)

abbrev ItemParts : Type 0
ItemParts = (((Key × Kind) × Attributes) × List ℕ) × Directory

abbrev item_with : ItemParts → Item
item_with p = ((p.0.0.0.0, record { kind = p.0.0.0.1; attributes = p.0.0.1; body = p.0.1 }), p.1)

one_item : (bytes : List ℕ) (blocks : Blocks) (i j : Item) → IsInode bytes blocks i → IsInode bytes blocks j → i ≡ j
one_item bytes blocks i j h g =
    let one : h.said ≡ g.said = one_said one_inode h.says g.says in
    let number : i.0.0 ≡ j.0.0 = sym h.number_is ∙ ap (λ (b : InodeBlock). b.number) one ∙ g.number_is in
    let kind : i.0.1.kind ≡ j.0.1.kind = sym h.kind ∙ ap (λ (b : InodeBlock). b.kind) one ∙ g.kind in
    let attributes : i.0.1.attributes ≡ j.0.1.attributes = sym h.attributes ∙ ap (λ (b : InodeBlock). b.attributes) one ∙ g.attributes in
    let other : HasContents j.0.1.kind g.said (picked false 0 blocks) i.0.1.body i.1 =
    subst (λ (b : InodeBlock). HasContents j.0.1.kind b (picked false 0 blocks) i.0.1.body i.1) one (subst (λ (k : Kind). HasContents k h.said (picked false 0 blocks) i.0.1.body i.1) kind h.contents) in
    let rest = same_body j.0.1.kind g.said (picked false 0 blocks) i.0.1.body j.0.1.body i.1 j.1 other g.contents in
    ap item_with (λ k. ((((number k, kind k), attributes k), rest.0 k), rest.1 k))

pub one_list : (blocks : List (List ℕ × Blocks)) (items others : List Item) → AreInodes blocks items → AreInodes blocks others → items ≡ others
one_list [] [] [] h g = refl
one_list [] [] (o ∷ others) h g = absurd g
one_list [] (i ∷ items) others h g = absurd h
one_list (b ∷ blocks) [] others h g = absurd h
one_list (b ∷ blocks) (i ∷ items) [] h g = absurd g
one_list (b ∷ blocks) (i ∷ items) (o ∷ others) h g =
    let first = one_item b.0 b.1 i o h.0 g.0 in
    let rest = one_list blocks items others h.1 g.1 in
    (λ k. first k ∷ rest k)

-- ---- and not told

module _ (bytes : List ℕ) (blocks : Blocks) (said : InodeBlock) (says : Says IsInodeBlock inode_block bytes said) (i : Item) (h : IsInode bytes blocks i) where
  is_said : h.said ≡ said
  is_said = one_said one_inode h.says says

  pub not_even : is_even false said.items.level blocks ≡ false → ⊥
  not_even none =
      let found : is_even false said.items.level blocks ≡ true = subst (λ (b : InodeBlock). is_even false b.items.level blocks ≡ true) is_said h.even in
      let both : true ≡ false = sym found ∙ none in
      cc both

  pub not_contents : (items : List (List ℕ)) → items ≡ picked false 0 blocks → ((body : List ℕ) (es : Directory) → HasContents said.kind said items body es → ⊥) → ⊥
  not_contents items same none =
      let kind : i.0.1.kind ≡ said.kind = sym h.kind ∙ ap (λ (b : InodeBlock). b.kind) is_said in
      none i.0.1.body i.1 (subst (λ (l : List (List ℕ)). HasContents said.kind said l i.0.1.body i.1) (sym same) (subst (λ (b : InodeBlock). HasContents said.kind b (picked false 0 blocks) i.0.1.body i.1) is_said
      (subst (λ (k : Kind). HasContents k h.said (picked false 0 blocks) i.0.1.body i.1) kind h.contents)))
