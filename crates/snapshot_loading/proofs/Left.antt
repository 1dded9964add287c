-- How much may still be wanted falls with each block.
use Rattle.std.proofs.Common.{◌≡◌, ℕ, zero, suc, ◌+◌, ◌*◌, ◌<◌, ◌≤◌, List, [], ◌∷◌, ◌++◌, length, map, refl, sym, subst, arith}
use Rattle.ivy_base.specs.declared.key.Key.{Key}
use Rattle.ivy_base.specs.declared.operation.Kind.{Kind}
use Rattle.ivy_base.specs.declared.operation.Kind.TheVariants.{Reg, Dir, Lnk}
use Rattle.snapshot_model.specs.Blocks.{most_levels}
use Rattle.snapshot_model.specs.Reading.{SnapshotPart, Root, Listing, AnInode, Piece, Entries, NamesParts, item_of, part_below, top_of}
use Rattle.snapshot_loading.specs.Loading.{most_of_list, most_of, most_in}

pub most_append : (parts others : List (SnapshotPart × Key)) → most_in (parts ++ others) ≡ most_in parts + most_in others
most_append [] others = omega arith
most_append (p ∷ parts) others = let rest = most_append parts others in omega (arith, rest)

-- at most so many blocks of one kind
most_each : (part : SnapshotPart) (keys : List Key) (count : ℕ) → length keys ≤ count → most_in (map (λ k. (part, k)) keys) ≤ count * most_of part
most_each part [] count few = omega arith
most_each part (k ∷ keys) zero few = absurd (omega (arith, few))
most_each part (k ∷ keys) (suc count) few = let rest = most_each part keys count (omega (arith, few)) in omega (arith, rest)

most_below : (level : ℕ) (item : SnapshotPart) → 512 * most_of (part_below level item) < most_of (Listing level item)
most_below zero item = omega arith
most_below (suc zero) item = omega arith
most_below (suc (suc level)) item = omega arith

most_top : (item : SnapshotPart) (each level : ℕ) (top : Key) → most_of item ≡ each → level ≤ 3 → most_in (top_of item level top) ≤ most_of_list 3 each
most_top item each zero top e few = omega arith
most_top item each (suc zero) top e few = omega (arith, e)
most_top item each (suc (suc zero)) top e few = omega (arith, e)
most_top item each (suc (suc (suc zero))) top e few = omega (arith, e)
most_top item each (suc (suc (suc (suc level)))) top e few = absurd (omega (arith, few))

most_item : (kind : Kind) → most_of (item_of kind) ≡ 1
most_item Reg = refl
most_item Dir = refl
most_item Lnk = refl

three_levels : (kind : Kind) → most_levels kind ≤ 3
three_levels Reg = omega arith
three_levels Dir = omega arith
three_levels Lnk = omega arith

-- what a block names takes less than the block
pub names_fewer : (part : SnapshotPart) (block : List ℕ) (named : List (SnapshotPart × Key)) → NamesParts part block named → most_in named < most_of part
names_fewer Root block named h =
    let top = most_top AnInode (most_of AnInode) h.0.inodes.level h.0.inodes.top refl h.1.fits.inodes.few in
    subst (λ (parts : List (SnapshotPart × Key)). most_in parts < most_of Root) (sym h.2) (omega (arith, top))
names_fewer (Listing level item) block named h =
    let each = most_each (part_below level item) h.0 512 h.1.fits.few in
    let below = most_below level item in
    subst (λ (parts : List (SnapshotPart × Key)). most_in parts < most_of (Listing level item)) (sym h.2) (omega (arith, each, below))
names_fewer AnInode block named h =
    let kind = three_levels h.0.kind in
    let few = h.1.fits.items.few in
    let top = most_top (item_of h.0.kind) 1 h.0.items.level h.0.items.top (most_item h.0.kind) (omega (arith, kind, few)) in
    subst (λ (parts : List (SnapshotPart × Key)). most_in parts < most_of AnInode) (sym h.2) (omega (arith, top))
names_fewer Piece block named h = subst (λ (parts : List (SnapshotPart × Key)). most_in parts < most_of Piece) (sym h.1) (omega arith)
names_fewer Entries block named h = subst (λ (parts : List (SnapshotPart × Key)). most_in parts < most_of Entries) (sym h.2) (omega arith)

list_some : (level each : ℕ) → 1 ≤ most_of_list level each
list_some zero each = omega arith
list_some (suc zero) each = omega arith
list_some (suc (suc level)) each = omega arith

pub some_of : (part : SnapshotPart) → 1 ≤ most_of part
some_of Root = omega arith
some_of (Listing level item) = list_some level (most_of item)
some_of AnInode = omega arith
some_of Piece = omega arith
some_of Entries = omega arith
