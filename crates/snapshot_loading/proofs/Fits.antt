-- Each block of a snapshot that was made names those below it.
use Rattle.std.proofs.Common.{◌≡◌, ℕ, zero, suc, ◌+◌, ◌<◌, ◌≤◌, Bool, true, false, List, [], ◌∷◌, ◌++◌, length, map, take, drop, refl, sym, ap, ◌∙◌, subst, arith}
use Rattle.std.specs.Prelude.{nat_le, if◌then◌else◌}
use Rattle.std.specs.List.{AllByRecursion}
use Rattle.std.proofs.lemmas.List.{length-map, length-take, take-map, drop-map}
use Rattle.std.proofs.lemmas.Bool.{leb-true}
use Rattle.ivy_base.specs.declared.key.Key.{Key}
use Rattle.ivy_base.specs.declared.operation.Kind.{Kind}
use Rattle.ivy_base.specs.declared.operation.Kind.TheVariants.{Reg, Dir, Lnk}
use Rattle.tree_model.specs.Tree.{Tree, Inode, listing}
use Rattle.log_model.specs.Spelling.{IsKey, IsTarget}
use Rattle.turn_model.specs.Basis.{Basis}
use Rattle.snapshot_model.specs.Blocks.{InodeBlock, RootBlock, list_block, entries_block, inode_block, root_block, Ascend, AreNamed, IsEntry, IsInodeBlock, IsListed, IsRootBlock, most_content_bytes, most_levels, most_entries}
use Rattle.snapshot_model.specs.Spelling.{Made, over, made_name, list_made, list_blocks_over, list_of, named_by, pieces, in_pieces, piece_made, entries_made, items_of, content_size, symbolic_link_text, inode_over, inode_made, snapshot_named}
use Rattle.snapshot_model.specs.Reading.{SnapshotPart, Root, Listing, AnInode, Piece, Entries, NamesParts, item_of, part_below, top_of, HasBounds, IsBodyOf, IsBasisSpelled, IsWholeTree}
use Rattle.snapshot_model.proofs.Pieces.{few_pieces, short_pieces, each_joined}
use Rattle.snapshot_model.proofs.MadeLists.{is_key, is_listed, most_under, few_below}
use Rattle.snapshot_model.proofs.SameNames.{listed_fit}
use Rattle.snapshot_loading.proofs.PiecesInOrder.{pieces_ascend, listed_ascend}

-- ---- blocks with those below them

abbrev pub names_of : List (SnapshotPart × Made) → List (SnapshotPart × Key)
names_of ms = map (λ p. (p.0, made_name p.1)) ms

abbrev pub mades : List (SnapshotPart × Made) → List Made
mades ms = map (λ p. p.1) ms

-- each is that part, and names those below it, which do so too
pub data FitAll : List (SnapshotPart × Made) → Type 0 where
  none : FitAll []
  and : {part : SnapshotPart} {rest : List (SnapshotPart × Made)} (bytes : List ℕ) (below : List (SnapshotPart × Made)) → NamesParts part bytes (names_of below) → FitAll below → FitAll rest
      → FitAll ((part, over bytes (mades below)) ∷ rest)

pub fit_both : {ms others : List (SnapshotPart × Made)} → FitAll ms → FitAll others → FitAll (ms ++ others)
fit_both none g = g
fit_both (and bytes below names fit rest) g = and bytes below names fit (fit_both rest g)

fit_cut : (n : ℕ) {ms : List (SnapshotPart × Made)} → FitAll ms → FitAll (take n ms) × FitAll (drop n ms)
fit_cut zero h = (none, h)
fit_cut (suc n) none = (none, none)
fit_cut (suc n) (and bytes below names fit rest) = let w = fit_cut n rest in (and bytes below names fit w.0, w.1)

-- ---- lists

abbrev as_part : SnapshotPart → List Made → List (SnapshotPart × Made)
as_part part ms = map (λ m. (part, m)) ms

mades_as : (part : SnapshotPart) (ms : List Made) → mades (as_part part ms) ≡ ms
mades_as part [] = refl
mades_as part (m ∷ ms) = ap (λ l. m ∷ l) (mades_as part ms)

names_as : (part : SnapshotPart) (ms : List Made) → names_of (as_part part ms) ≡ map (λ k. (part, k)) (map made_name ms)
names_as part [] = refl
names_as part (m ∷ ms) = ap (λ l. (part, made_name m) ∷ l) (names_as part ms)

keys_fit : (ms : List Made) → AllByRecursion IsKey (map made_name ms)
keys_fit [] = tt
keys_fit (m ∷ ms) = (is_key m.bytes, keys_fit ms)

list_fits : (level : ℕ) (item : SnapshotPart) (ms : List Made) {rest : List (SnapshotPart × Made)} → 1 ≤ length ms → length ms ≤ 512 → FitAll (as_part (part_below level item) ms) → FitAll rest
    → FitAll ((Listing level item, list_made level ms) ∷ rest)
list_fits level item ms {rest = rest} some few fit more =
    let part = part_below level item in
    let named : AreNamed (map made_name ms) = record { some = omega (arith, length-map ms made_name, some); few = omega (arith, length-map ms made_name, few); each = keys_fit ms } in
    subst (λ (below : List Made). FitAll ((Listing level item, over (list_block level (map made_name ms)) below) ∷ rest)) (mades_as part ms)
    (and (list_block level (map made_name ms)) (as_part part ms) (map made_name ms, record { fits = named; spelled = refl }, names_as part ms) fit more)

lists_fit : (level : ℕ) (item : SnapshotPart) (n : ℕ) (ms : List Made) → FitAll (as_part (part_below level item) ms) → FitAll (as_part (Listing level item) (map (list_made level) (pieces n 512 ms)))
lists_fit level item zero ms fit = none
lists_fit level item (suc n) [] fit = none
lists_fit level item (suc n) (m ∷ ms) fit =
    let f : Made → SnapshotPart × Made = λ x. (part_below level item, x) in
    let cut = fit_cut 512 fit in
    list_fits level item (take 512 (m ∷ ms)) (omega arith) (omega (arith, length-take 512 (m ∷ ms)))
    (subst (λ (l : List (SnapshotPart × Made)). FitAll l) (take-map f 512 (m ∷ ms)) cut.0)
    (lists_fit level item n (drop 512 (m ∷ ms)) (subst (λ (l : List (SnapshotPart × Made)). FitAll l) (drop-map f 512 (m ∷ ms)) cut.1))

-- a list that is named so
record FitsList (item : SnapshotPart) (p : ℕ × List Made) : Type 0 where
  below : List (SnapshotPart × Made)
  same : mades below ≡ p.1
  named : names_of below ≡ top_of item (named_by p).level (named_by p).top
  fit : FitAll below

abbrev by_size : ℕ → ℕ → List Made → Bool → ℕ × List Made
by_size n level items b = if b then (level, list_made level items ∷ []) else list_blocks_over n (level + 1) (map (list_made level) (in_pieces 512 items))

not_few : (len : ℕ) → false ≡ nat_le len 512 → 512 < len
not_few len e = grind (arith, e)

level_above : (level before : ℕ) (item : SnapshotPart) → level ≡ suc before → part_below (level + 1) item ≡ Listing level item
level_above level before item e =
    let next : level + 1 ≡ suc (suc before) = omega (arith, e) in
    ap (λ k. part_below k item) next ∙ ap (λ k. Listing k item) (sym e)

levels_fit : (n level before : ℕ) → level ≡ suc before → (item : SnapshotPart) (ms : List Made) → FitAll (as_part (part_below level item) ms) → length ms ≤ most_under n → FitsList item (list_blocks_over n level ms)
levels_fit zero level before e item [] fit few = record { below = []; same = refl; named = refl; fit = none }
levels_fit zero level before e item (m ∷ ms) fit few = absurd (omega (arith, few))
levels_fit (suc n) level before e item [] fit few = record { below = []; same = refl; named = refl; fit = none }
levels_fit (suc n) level before e item (m ∷ ms) fit few =
    by (nat_le (length (m ∷ ms)) 512) refl
    (λ fewer. levels_fit n (level + 1) (suc before) (omega (arith, e)) item (map (list_made level) (in_pieces 512 (m ∷ ms)))
    (subst (λ (part : SnapshotPart). FitAll (as_part part (map (list_made level) (in_pieces 512 (m ∷ ms))))) (sym (level_above level before item e)) (lists_fit level item (length (m ∷ ms)) (m ∷ ms) fit))
    (omega (arith, fewer, length-map (in_pieces 512 (m ∷ ms)) (list_made level))))
  where
    by : (b : Bool) → b ≡ nat_le (length (m ∷ ms)) 512 → (length (in_pieces 512 (m ∷ ms)) ≤ most_under n → FitsList item (list_blocks_over n (level + 1) (map (list_made level) (in_pieces 512 (m ∷ ms)))))
        → FitsList item (by_size n level (m ∷ ms) b)
    by true t above = record {
      below = (Listing level item, list_made level (m ∷ ms)) ∷ [];
      same = refl;
      named = ap (λ k. (Listing k item, made_name (list_made level (m ∷ ms))) ∷ []) e ∙ ap (λ k. top_of item k (made_name (list_made level (m ∷ ms)))) (sym e);
      fit = list_fits level item (m ∷ ms) (omega arith) (omega (arith, leb-true (length (m ∷ ms)) 512 (sym t))) fit none;
    }
    by false t above = above (few_below n (m ∷ ms) few (not_few (length (m ∷ ms)) t))

-- ---- what an inode contains

pub some_each : {A : Type 0} (n size : ℕ) (xs : List A) → 1 ≤ size → AllByRecursion (λ ys. 1 ≤ length ys) (pieces n size xs)
some_each zero size xs h = tt
some_each (suc n) size [] h = tt
some_each (suc n) size (x ∷ xs) h = (omega (arith, length-take size (x ∷ xs), h), some_each n size (drop size (x ∷ xs)) h)

pieces_fit : (each : List (List ℕ)) → AllByRecursion (λ ys. 1 ≤ length ys) each → AllByRecursion (λ ys. length ys ≤ 8192) each → FitAll (as_part Piece (map piece_made each))
pieces_fit [] some few = none
pieces_fit (p ∷ each) some few = and p [] ((some.0, few.0), refl) none (pieces_fit each some.1 few.1)

entries_fit : (each : List (List (List ℕ × Key))) → AllByRecursion (λ ys. 1 ≤ length ys) each → AllByRecursion (λ ys. length ys ≤ most_entries) each → AllByRecursion (AllByRecursion IsEntry) each → AllByRecursion Ascend each
    → FitAll (as_part Entries (map entries_made each))
entries_fit [] some few good ascend = none
entries_fit (es ∷ each) some few good ascend =
    and (entries_block es) [] (es, record { fits = record { some = some.0; few = few.0; each = good.0; in_order = ascend.0 }; spelled = refl }, refl) none (entries_fit each some.1 few.1 good.1 ascend.1)

-- the entries of a directory have these bounds
pub record AreListed (es : List (List ℕ × Key)) : Type 0 where
  pub each : AllByRecursion IsEntry es
  pub ascend : Ascend es
  pub few : length es ≤ 4294967296

items_fit : (kind : Kind) (body : List ℕ) (es : List (List ℕ × Key)) → IsBodyOf kind body → AreListed es → FitAll (as_part (item_of kind) (items_of es body kind))
items_fit Reg body es h l = pieces_fit (in_pieces 8192 body) (some_each (length body) 8192 body (omega arith)) (short_pieces (length body) 8192 body)
items_fit Dir body es h l =
    entries_fit (in_pieces most_entries es) (some_each (length es) most_entries es (omega arith)) (short_pieces (length es) most_entries es) (each_joined IsEntry (length es) most_entries es l.each) (pieces_ascend (length es) most_entries es l.ascend)
items_fit Lnk body es h l = none

few_items : (kind : Kind) (body : List ℕ) (es : List (List ℕ × Key)) → IsBodyOf kind body → AreListed es → length (items_of es body kind) ≤ most_under 3
few_items Reg body es h l = let few = few_pieces (length body) 8192 body 2048 (omega (arith, h)) in omega (arith, few, length-map (in_pieces 8192 body) piece_made)
few_items Dir body es h l = let few = few_pieces (length es) most_entries es 134217728 (omega (arith, l.few)) in omega (arith, few, length-map (in_pieces most_entries es) entries_made)
few_items Lnk body es h l = omega arith

-- ---- inodes

abbrev pub block_of : Key → Inode → List (List ℕ × Key) → InodeBlock
block_of number inode es = record {
  number = number;
  kind = inode.kind;
  attributes = inode.attributes;
  size = content_size inode.body inode.kind;
  target = symbolic_link_text inode.body inode.kind;
  items = named_by (list_of (items_of es inode.body inode.kind));
}

pub size_fits : (kind : Kind) (body : List ℕ) → IsBodyOf kind body → content_size body kind ≤ most_content_bytes kind
size_fits Reg body h = h
size_fits Dir body h = omega arith
size_fits Lnk body h = omega arith

pub target_fits : (kind : Kind) (body : List ℕ) → IsBodyOf kind body → IsTarget kind (symbolic_link_text body kind)
target_fits Reg body h = refl
target_fits Dir body h = refl
target_fits Lnk body h = h

pub items_listed : (kind : Kind) (body : List ℕ) (es : List (List ℕ × Key)) → IsListed (most_levels kind) (named_by (list_of (items_of es body kind)))
items_listed Reg body es = is_listed (items_of es body Reg)
items_listed Dir body es = is_listed (items_of es body Dir)
items_listed Lnk body es = let l = is_listed [] in record { few = omega arith; top = l.top; none = l.none }

inode_fits : (number : Key) (inode : Inode) (es : List (List ℕ × Key)) {rest : List (SnapshotPart × Made)} → IsKey number → HasBounds inode → AreListed es → FitAll rest
    → FitAll ((AnInode, inode_over number inode (list_of (items_of es inode.body inode.kind))) ∷ rest)
inode_fits number inode es {rest = rest} key bounds l more =
    let items = items_of es inode.body inode.kind in
    let p = levels_fit 3 1 0 refl (item_of inode.kind) items (items_fit inode.kind inode.body es bounds.body l) (few_items inode.kind inode.body es bounds.body l) in
    let fits : IsInodeBlock (block_of number inode es) = record {
      number = key;
      attributes = bounds.attributes;
      size = size_fits inode.kind inode.body bounds.body;
      target = target_fits inode.kind inode.body bounds.body;
      items = items_listed inode.kind inode.body es;
    } in
    subst (λ (below : List Made). FitAll ((AnInode, over (inode_block (block_of number inode es)) below) ∷ rest)) p.same
    (and (inode_block (block_of number inode es)) p.below (block_of number inode es, record { fits = fits; spelled = refl }, p.named) p.fit more)

inodes_fit : (t : Tree) (inodes : List (Key × Inode)) → AllByRecursion (λ i. IsKey i.0 × HasBounds i.1) inodes → ((d : Key) → AllByRecursion IsEntry (listing t d)) → ((d : Key) → Ascend (listing t d))
    → AllByRecursion (λ i. length (listing t i.0) ≤ 4294967296) inodes → FitAll (as_part AnInode (map (inode_made t) inodes))
inodes_fit t [] bounds each ascend few = none
inodes_fit t (i ∷ inodes) bounds each ascend few =
    inode_fits i.0 i.1 (listing t i.0) bounds.0.0 bounds.0.1 (record { each = each i.0; ascend = ascend i.0; few = few.0 }) (inodes_fit t inodes bounds.1 each ascend few.1)

-- ---- the whole

abbrev pub root_of : Key → Basis → RootBlock
root_of view b = record { view = view; front = b.front; tide = b.tide; inodes = named_by (list_of (map (inode_made b.tree) b.tree.inodes)) }

pub snapshot_fits : (view : Key) (b : Basis) → IsKey view → IsWholeTree b.tree → IsBasisSpelled b → FitAll ((Root, snapshot_named view b) ∷ [])
snapshot_fits view b key whole spelled =
    let t = b.tree in
    let ms = map (inode_made t) t.inodes in
    let p = levels_fit 3 1 0 refl AnInode ms
    (inodes_fit t t.inodes spelled.inodes (λ d. listed_fit t.names d spelled.names) (λ d. listed_ascend t.names d whole.in_order.names) spelled.few_names)
    (omega (arith, spelled.few, length-map t.inodes (inode_made t))) in
    let fits : IsRootBlock (root_of view b) = record { view = key; front = spelled.front; tide = spelled.tide; inodes = is_listed ms } in
    subst (λ (below : List Made). FitAll ((Root, over (root_block (root_of view b)) below) ∷ [])) p.same
    (and (root_block (root_of view b)) p.below (root_of view b, record { fits = fits; spelled = refl }, p.named) p.fit none)
