-- Inodes by what their blocks show.
use Rattle.std.proofs.Common.{◌≡◌, ℕ, zero, suc, ◌≤◌, List, [], ◌∷◌, map, refl, sym, ap, ◌∙◌, subst, arith}
use Rattle.ivy_base.specs.declared.key.Key.{Key}
use Rattle.ivy_base.specs.declared.operation.Kind.{Kind}
use Rattle.ivy_base.specs.declared.operation.Kind.TheVariants.{Reg, Dir, Lnk}
use Rattle.ivy_base.specs.Naming.{name}
use Rattle.tree_model.specs.Tree.{Attributes}
use Rattle.log_model.specs.Spelling.{IsTarget, no_name}
use Rattle.snapshot_model.specs.Blocks.{InodeBlock, NamedList, entries_block, inode_block, most_content_bytes, most_levels, most_entries}
use Rattle.snapshot_model.specs.Spelling.{Made, over, list_of, named_by, in_pieces, piece_made, entries_made, items_of, content_size as size_of, symbolic_link_text as target_of, inode_over}
use Rattle.snapshot_model.specs.Reading.{SnapshotPart, Piece, Entries, Listing, NamesParts, item_of, top_of}
use Rattle.snapshot_model.proofs.OneBlock.{one_inode}
use Rattle.snapshot_model.proofs.OneNames.{one_said}
use Rattle.snapshot_loading.specs.Forests.{Forest, nothing, block, named_in, mades, Fits, children, below_by}
use Rattle.snapshot_loading.specs.ShownInodes.{AreContents, IsEvenList, bytes_in}
use Rattle.snapshot_loading.specs.WholeLaws.{ShownInodesAreMade}
use Rattle.snapshot_loading.proofs.Forests.{AllAre, children_are, fits_children}
use Rattle.snapshot_loading.proofs.Full.{full_pieces}
use Rattle.snapshot_loading.proofs.Lists.{even_lists_are_lists}

-- ---- lists by their topmost block

-- what is named so is one list block, or nothing
record IsTop (item : SnapshotPart) (level : ℕ) (top : Key) (below : Forest) : Type 0 where
  bytes : List ℕ
  under : Forest
  same : below ≡ block (Listing level item) bytes under nothing
  named : name bytes ≡ top

is_nothing : (f : Forest) → named_in f ≡ [] → f ≡ nothing
is_nothing nothing e = refl
is_nothing (block part bytes below beside) e = cc

is_top : (item : SnapshotPart) (level : ℕ) (top : Key) (below : Forest) → named_in below ≡ (Listing level item, top) ∷ [] → IsTop item level top below
is_top item level top nothing e = cc
is_top item level top (block part bytes under beside) e =
    let head : ◌≡◌ {A = SnapshotPart × Key} (part, name bytes) (Listing level item, top) = cc in
    let tail : named_in beside ≡ [] = cc in
    record {
      bytes = bytes;
      under = under;
      same = ap (λ (p : SnapshotPart). block p bytes under beside) (ap (λ (p : SnapshotPart × Key). p.0) head) ∙ ap (λ (f : Forest). block (Listing level item) bytes under f) (is_nothing beside tail);
      named = ap (λ (p : SnapshotPart × Key). p.1) head;
    }

-- an even list is what a snapshot has over what is at its bottom, and named so
pub record IsSpelledList (level : ℕ) (top : Key) (below : Forest) : Type 0 where
  pub list : list_of (mades (below_by level below)) ≡ (level, mades below)
  pub named : named_by (level, mades below) ≡ record { level = level; top = top }

pub spelled_list : (item : SnapshotPart) (level : ℕ) (top : Key) (below : Forest) → level ≤ 3 → (level ≡ 0 → top ≡ no_name) → named_in below ≡ top_of item level top → Fits below → IsEvenList level below → IsSpelledList level top below
spelled_list item zero top below few none e fits even =
    let is = is_nothing below e in
    subst (λ (f : Forest). IsSpelledList 0 top f) (sym is) (record { list = refl; named = ap (λ (k : Key). record { level = 0; top = k }) (sym (none refl)) })
spelled_list item (suc level) top below few none e fits even =
    let t = is_top item (suc level) top below e in
    subst (λ (f : Forest). IsSpelledList (suc level) top f) (sym t.same) (record {
      list = (even_lists_are_lists item (suc level) t.bytes t.under (omega arith) few (subst Fits t.same fits)).0 (subst (λ (f : Forest). IsEvenList (suc level) f) t.same even);
      named = ap (λ (k : Key). record { level = suc level; top = k }) t.named;
    })

-- what is at the bottom are items
bottom_are : (item : SnapshotPart) (level : ℕ) (f : Forest) → AllAre (Listing (suc level) item) f → Fits f → AllAre item (below_by (suc level) f) × Fits (below_by (suc level) f)
bottom_are item zero f are fits = (children_are 1 item f are fits, fits_children f fits)
bottom_are item (suc level) f are fits = bottom_are item level (children f) (children_are (suc (suc level)) item f are fits) (fits_children f fits)

pub items_are : (item : SnapshotPart) (level : ℕ) (top : Key) (below : Forest) → named_in below ≡ top_of item level top → Fits below → AllAre item (below_by level below) × Fits (below_by level below)
items_are item zero top below e fits = let is = is_nothing below e in (subst (λ (f : Forest). AllAre item f) (sym is) tt, fits)
items_are item (suc level) top below e fits =
    let t = is_top item (suc level) top below e in
    bottom_are item level below (subst (λ (f : Forest). AllAre (Listing (suc level) item) f) (sym t.same) (refl, tt)) fits

-- ---- what is at the bottom

leaves : (f : Forest) → AllAre Piece f → Fits f → mades f ≡ map piece_made (bytes_in f)
leaves nothing are fits = refl
leaves (block part bytes below beside) are fits =
    let names = subst (λ (p : SnapshotPart). NamesParts p bytes (named_in below)) are.0 fits.0 in
    ap (λ (g : Forest). over bytes (mades g) ∷ mades beside) (is_nothing below names.1) ∙ ap (λ (ms : List Made). piece_made bytes ∷ ms) (leaves beside are.1 fits.2)

entry_leaves : (f : Forest) → AllAre Entries f → Fits f → mades f ≡ map piece_made (bytes_in f)
entry_leaves nothing are fits = refl
entry_leaves (block part bytes below beside) are fits =
    let names = subst (λ (p : SnapshotPart). NamesParts p bytes (named_in below)) are.0 fits.0 in
    ap (λ (g : Forest). over bytes (mades g) ∷ mades beside) (is_nothing below names.2) ∙ ap (λ (ms : List Made). piece_made bytes ∷ ms) (entry_leaves beside are.1 fits.2)

pub entries_as_pieces : (each : List (List (List ℕ × Key))) → map piece_made (map entries_block each) ≡ map entries_made each
entries_as_pieces [] = refl
entries_as_pieces (es ∷ each) = ap (λ (ms : List Made). entries_made es ∷ ms) (entries_as_pieces each)

no_level : (level : ℕ) (top : Key) (below : Forest) → level ≤ 0 → named_in below ≡ top_of Entries level top → mades (below_by level below) ≡ []
no_level zero top below few e = ap mades (is_nothing below e)
no_level (suc level) top below few e = absurd (omega (arith, few))

contents_are : (kind : Kind) (said : InodeBlock) (below : Forest) (body : List ℕ) (es : List (List ℕ × Key)) → said.items.level ≤ most_levels kind → named_in below ≡ top_of (item_of kind) said.items.level said.items.top → Fits below
    → AreContents kind said (below_by said.items.level below) body es → mades (below_by said.items.level below) ≡ items_of es body kind
contents_are Reg said below body es few e fits h =
    let are = items_are Piece said.items.level said.items.top below e fits in
    leaves (below_by said.items.level below) are.0 are.1
    ∙ ap (λ (ps : List (List ℕ)). map piece_made ps) (sym (full_pieces 8192 (bytes_in (below_by said.items.level below)) (omega arith) h.0) ∙ ap (λ (l : List ℕ). in_pieces 8192 l) h.1)
contents_are Dir said below body es few e fits h =
    let are = items_are Entries said.items.level said.items.top below e fits in
    entry_leaves (below_by said.items.level below) are.0 are.1 ∙ ap (λ (ps : List (List ℕ)). map piece_made ps) h.2 ∙ entries_as_pieces h.1
    ∙ ap (λ (gs : List (List (List ℕ × Key))). map entries_made gs) (sym (full_pieces most_entries h.1 (omega arith) h.3) ∙ ap (λ (l : List (List ℕ × Key)). in_pieces most_entries l) h.4)
contents_are Lnk said below body es few e fits h = no_level said.items.level said.items.top below few e

-- ---- the block

size_is : (kind : Kind) (said : InodeBlock) (items : Forest) (body : List ℕ) (es : List (List ℕ × Key)) → said.size ≤ most_content_bytes kind → AreContents kind said items body es → said.size ≡ size_of body kind
size_is Reg said items body es few h = h.2
size_is Dir said items body es few h = omega (arith, few)
size_is Lnk said items body es few h = omega (arith, few)

target_is : (kind : Kind) (said : InodeBlock) (items : Forest) (body : List ℕ) (es : List (List ℕ × Key)) → IsTarget kind said.target → AreContents kind said items body es → said.target ≡ target_of body kind
target_is Reg said items body es fits h = fits
target_is Dir said items body es fits h = fits
target_is Lnk said items body es fits h = h

abbrev BlockParts : Type 0
BlockParts = ((((Key × Kind) × Attributes) × ℕ) × List ℕ) × NamedList

abbrev block_with : BlockParts → InodeBlock
block_with p = record { number = p.0.0.0.0.0; kind = p.0.0.0.0.1; attributes = p.0.0.0.1; size = p.0.0.1; target = p.0.1; items = p.1 }

abbrev parts_with : InodeBlock → BlockParts
parts_with b = (((((b.number, b.kind), b.attributes), b.size), b.target), b.items)

pub shown_inodes_are_made : ShownInodesAreMade
shown_inodes_are_made number inode es bytes below fits s =
    let one : fits.0.0 ≡ s.said = one_said one_inode fits.0.1 s.says in
    let named : named_in below ≡ top_of (item_of s.said.kind) s.said.items.level s.said.items.top = fits.0.2 ∙ ap (λ (b : InodeBlock). top_of (item_of b.kind) b.items.level b.items.top) one in
    let named_kind : named_in below ≡ top_of (item_of inode.kind) s.said.items.level s.said.items.top = named ∙ ap (λ (k : Kind). top_of (item_of k) s.said.items.level s.said.items.top) s.kind in
    let few : s.said.items.level ≤ most_levels inode.kind = subst (λ (k : Kind). s.said.items.level ≤ most_levels k) s.kind s.says.fits.items.few in
    let three : s.said.items.level ≤ 3 = at_most inode.kind s.said.items.level few in
    let list = spelled_list (item_of inode.kind) s.said.items.level s.said.items.top below three s.says.fits.items.none named_kind fits.1 s.even in
    let items : mades (below_by s.said.items.level below) ≡ items_of es inode.body inode.kind = contents_are inode.kind s.said below inode.body es few named_kind fits.1 s.contents in
    let whole : list_of (items_of es inode.body inode.kind) ≡ (s.said.items.level, mades below) = ap list_of (sym items) ∙ list.list in
    let size : s.said.size ≡ size_of inode.body inode.kind = size_is inode.kind s.said (below_by s.said.items.level below) inode.body es (subst (λ (k : Kind). s.said.size ≤ most_content_bytes k) s.kind s.says.fits.size) s.contents in
    let target : s.said.target ≡ target_of inode.body inode.kind =
    target_is inode.kind s.said (below_by s.said.items.level below) inode.body es (subst (λ (k : Kind). IsTarget k s.said.target) s.kind s.says.fits.target) s.contents in
    let parts : parts_with s.said ≡ (((((number, inode.kind), inode.attributes), size_of inode.body inode.kind), target_of inode.body inode.kind), named_by (s.said.items.level, mades below)) =
    rw (s.number_is, s.kind, s.attributes, size, target, list.named) refl in
    ap (λ (b : List ℕ). over b (mades below) ∷ []) (s.says.spelled ∙ ap (λ (p : BlockParts). inode_block (block_with p)) parts) ∙ ap (λ (p : ℕ × List Made). inode_over number inode p ∷ []) (sym whole)
  where
    at_most : (kind : Kind) (level : ℕ) → level ≤ most_levels kind → level ≤ 3
    at_most Reg level h = h
    at_most Dir level h = h
    at_most Lnk level h = omega (arith, h)
