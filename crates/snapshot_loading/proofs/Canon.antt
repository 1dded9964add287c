-- A snapshot that was made shows its basis.
use Rattle.std.proofs.Common.{◌≡◌, ℕ, suc, ◌<◌, ◌≤◌, Bool, true, false, List, [], ◌∷◌, length, map, refl, sym, ap, ◌∙◌, subst, arith}
use Rattle.std.specs.List.{AllByRecursion}
use Rattle.std.proofs.lemmas.List.{length-map}
use Rattle.ivy_base.specs.declared.key.Key.{Key}
use Rattle.ivy_base.specs.declared.operation.Kind.{Kind}
use Rattle.ivy_base.specs.declared.operation.Kind.TheVariants.{Reg, Dir, Lnk}
use Rattle.tree_model.specs.Tree.{Tree, Inode, listing}
use Rattle.log_model.specs.Spelling.{IsKey}
use Rattle.turn_model.specs.Basis.{Basis}
use Rattle.snapshot_model.specs.Blocks.{InodeBlock, Ascend, IsEntry, IsInodeBlock, IsRootBlock, entries_block, inode_block, list_block, root_block, most_entries}
use Rattle.snapshot_model.specs.Spelling.{Made, made_name, list_made, list_of, named_by, in_pieces, piece_made, entries_made, items_of, content_size, symbolic_link_text, inode_made, snapshot_named}
use Rattle.snapshot_model.specs.Reading.{SnapshotPart, Root, AnInode, Piece, Entries, NamesParts, item_of, part_below, top_of, HasBounds, IsBodyOf, IsBasisSpelled, IsWholeTree, AreOf}
use Rattle.snapshot_model.proofs.Pieces.{few_pieces, short_pieces, each_joined, join-in_pieces}
use Rattle.snapshot_model.proofs.MadeLists.{is_listed}
use Rattle.snapshot_model.proofs.SameNames.{listed_fit}
use Rattle.snapshot_loading.proofs.Fits.{AreListed, block_of, root_of, items_listed, size_fits, some_each, target_fits}
use Rattle.snapshot_loading.proofs.PiecesInOrder.{pieces_ascend, listed_ascend}
use Rattle.snapshot_loading.specs.Forests.{Forest, nothing, block, flat, named_in, mades, Fits, children, below_by, AreFull}
use Rattle.snapshot_loading.specs.ShownInodes.{AreContents, IsEvenList, ShowsInode, bytes_in, run_of}
use Rattle.snapshot_loading.specs.Wholes.{ShowInodes, ShowsBasis}
use Rattle.snapshot_loading.specs.WholeLaws.{LoadedIsShown}
use Rattle.snapshot_loading.proofs.Forests.{AllAre}
use Rattle.snapshot_loading.proofs.Full.{pieces_full}
use Rattle.snapshot_loading.proofs.Even.{up, enough, not_enough}
use Rattle.snapshot_loading.proofs.Lists.{AreUp, are_up, ups, list_over, names_list, child, some_up, fits_one, few_by, many_by, even_lists_are_lists}
use Rattle.snapshot_loading.proofs.OneForest.{forest_is_unique}
use Rattle.snapshot_loading.proofs.ShownInodes.{entries_as_pieces}
use Rattle.snapshot_loading.proofs.Bases.{inodes_made, shown_are_loaded, shown_reading}

-- ---- lists

record ListForest (item : SnapshotPart) (g : Forest) (p : ℕ × List Made) : Type 0 where
  top : Forest
  named : named_in top ≡ top_of item (named_by p).level (named_by p).top
  fits : Fits top
  bottom : below_by (named_by p).level top ≡ g
  even : IsEvenList (named_by p).level top

-- over blocks of which one list block is enough
over_some : (item : SnapshotPart) (g h : Forest) (l : ℕ) → suc l ≤ 3 → AllAre (part_below (suc l) item) h → Fits h → 1 ≤ length (mades h) → length (mades h) ≤ 512 → below_by l h ≡ g
    → list_of (mades g) ≡ (suc l, list_made (suc l) (mades h) ∷ []) → ListForest item g (suc l, list_made (suc l) (mades h) ∷ [])
over_some item g h l three are fits some few bottom is =
    let top = list_over (suc l) item h nothing in
    let names = names_list (suc l) item h are some few in
    let down : below_by (suc l) top ≡ g = ap (λ (f : Forest). below_by l f) (child (suc l) item (list_block (suc l) (map made_name (mades h))) h) ∙ bottom in
    record {
      top = top;
      named = refl;
      fits = (names, fits, tt);
      bottom = down;
      even = (even_lists_are_lists item (suc l) (list_block (suc l) (map made_name (mades h))) h (omega arith) three (names, fits, tt)).1 (ap (λ (f : Forest). list_of (mades f)) down ∙ is);
    }

list_forest : (item : SnapshotPart) (g : Forest) → AllAre item g → Fits g → length (mades g) ≤ 134217728 → ListForest item g (list_of (mades g))
list_forest item nothing are fits few = record { top = nothing; named = refl; fits = tt; bottom = refl; even = tt }
list_forest item (block part bytes below beside) are fits few = by (fits_one ms) refl
  where
    g : Forest
    g = block part bytes below beside

    ms : List Made
    ms = mades (block part bytes below beside)

    first : AreUp 1 item (block part bytes below beside) (length ms) (ups (length ms) 1 item (block part bytes below beside))
    first = are_up (length ms) 1 item (block part bytes below beside) are fits (omega arith)

    lower : Forest
    lower = ups (length ms) 1 item (block part bytes below beside)

    upper : (b : Bool) → fits_one (up 1 ms) ≡ b → 512 < length ms → ListForest item (block part bytes below beside) (list_of ms)
    upper true is many =
        let some = some_up 1 ms many in
        let count : length (mades lower) ≡ length (up 1 ms) = ap length first.made in
        let here : list_of ms ≡ (2, list_made 2 (mades lower) ∷ []) =
        not_enough 2 1 ms many ∙ enough 1 2 (up 1 ms) (omega (arith, some)) (few_by (up 1 ms) is) ∙ ap (λ (xs : List Made). (2, list_made 2 xs ∷ [])) (sym first.made) in
        let short = few_by (up 1 ms) is in
        subst (λ (p : ℕ × List Made). ListForest item (block part bytes below beside) p) (sym here)
        (over_some item (block part bytes below beside) lower 1 (omega arith) first.are first.fits (omega (arith, count, some)) (omega (arith, count, short)) first.under here)
    upper false is many =
        let more = many_by (up 1 ms) is in
        let k = length (mades lower) in
        let second = are_up k 2 item lower first.are first.fits (omega arith) in
        let tops : mades (ups k 2 item lower) ≡ up 2 (up 1 ms) = second.made ∙ ap (λ (xs : List Made). up 2 xs) first.made in
        let count : length (mades (ups k 2 item lower)) ≡ length (up 2 (up 1 ms)) = ap length tops in
        let some = some_up 2 (up 1 ms) more in
        let few_lower = few_pieces (length ms) 512 ms 262144 (omega (arith, few)) in
        let size_lower = length-map (in_pieces 512 ms) (list_made 1) in
        let few_upper = few_pieces (length (up 1 ms)) 512 (up 1 ms) 512 (omega (arith, few_lower, size_lower)) in
        let size_upper = length-map (in_pieces 512 (up 1 ms)) (list_made 2) in
        let here : list_of ms ≡ (3, list_made 3 (mades (ups k 2 item lower)) ∷ []) =
        not_enough 2 1 ms many ∙ not_enough 1 2 (up 1 ms) more ∙ enough 0 3 (up 2 (up 1 ms)) (omega (arith, some)) (omega (arith, few_upper, size_upper)) ∙ ap (λ (xs : List Made). (3, list_made 3 xs ∷ [])) (sym tops) in
        subst (λ (p : ℕ × List Made). ListForest item (block part bytes below beside) p) (sym here)
        (over_some item (block part bytes below beside) (ups k 2 item lower) 2 (omega arith) second.are second.fits (omega (arith, count, some)) (omega (arith, count, few_upper, size_upper)) (ap children second.under ∙ first.under) here)

    by : (b : Bool) → fits_one ms ≡ b → ListForest item (block part bytes below beside) (list_of ms)
    by true is =
        let here : list_of ms ≡ (1, list_made 1 ms ∷ []) = enough 2 1 ms (omega arith) (few_by ms is) in
        subst (λ (p : ℕ × List Made). ListForest item (block part bytes below beside) p) (sym here)
        (over_some item (block part bytes below beside) (block part bytes below beside) 0 (omega arith) are fits (omega arith) (few_by ms is) refl here)
    by false is = upper (fits_one (up 1 ms)) refl (many_by ms is)

-- ---- leaves

leaf_forest : SnapshotPart → List (List ℕ) → Forest
leaf_forest part [] = nothing
leaf_forest part (bytes ∷ others) = block part bytes nothing (leaf_forest part others)

record AreLeaves (part : SnapshotPart) (each : List (List ℕ)) (f : Forest) : Type 0 where
  made : mades f ≡ map piece_made each
  are : AllAre part f
  fits : Fits f
  in_them : bytes_in f ≡ each

are_leaves : (part : SnapshotPart) (each : List (List ℕ)) → AllByRecursion (λ b. NamesParts part b []) each → AreLeaves part each (leaf_forest part each)
unfolding leaf_forest
are_leaves part [] h = record { made = refl; are = tt; fits = tt; in_them = refl }
are_leaves part (bytes ∷ others) h =
    let rest = are_leaves part others h.1 in
    record { made = ap (λ (ms : List Made). piece_made bytes ∷ ms) rest.made; are = (refl, rest.are); fits = (h.0, tt, rest.fits); in_them = ap (λ (l : List (List ℕ)). bytes ∷ l) rest.in_them }

pieces_named : (each : List (List ℕ)) → AllByRecursion (λ ys. 1 ≤ length ys) each → AllByRecursion (λ ys. length ys ≤ 8192) each → AllByRecursion (λ b. NamesParts Piece b []) each
pieces_named [] some few = tt
pieces_named (p ∷ each) some few = (((some.0, few.0), refl), pieces_named each some.1 few.1)

abbrev Entry : Type 0
Entry = List ℕ × Key

entries_named : (each : List (List Entry)) → AllByRecursion (λ ys. 1 ≤ length ys) each → AllByRecursion (λ ys. length ys ≤ most_entries) each → AllByRecursion (AllByRecursion IsEntry) each → AllByRecursion Ascend each
    → AllByRecursion (λ b. NamesParts Entries b []) (map entries_block each)
entries_named [] some few good ascend = tt
entries_named (es ∷ each) some few good ascend =
    ((es, record { fits = record { some = some.0; few = few.0; each = good.0; in_order = ascend.0 }; spelled = refl }, refl), entries_named each some.1 few.1 good.1 ascend.1)

-- ---- what an inode contains

record HasContents (kind : Kind) (body : List ℕ) (es : List Entry) : Type 0 where
  forest : Forest
  made : mades forest ≡ items_of es body kind
  are : AllAre (item_of kind) forest
  fits : Fits forest
  few : length (mades forest) ≤ 134217728
  shows : (said : InodeBlock) → said.size ≡ content_size body kind → said.target ≡ symbolic_link_text body kind → AreContents kind said forest body es

has_contents : (kind : Kind) (body : List ℕ) (es : List Entry) → IsBodyOf kind body → AreListed es → HasContents kind body es
has_contents Reg body es h l =
    let each = in_pieces 8192 body in
    let f = are_leaves Piece each (pieces_named each (some_each (length body) 8192 body (omega arith)) (short_pieces (length body) 8192 body)) in
    let few = few_pieces (length body) 8192 body 2048 (omega (arith, h)) in
    let count : length (mades (leaf_forest Piece each)) ≡ length (map piece_made each) = ap length f.made in
    record {
      forest = leaf_forest Piece each;
      made = f.made;
      are = f.are;
      fits = f.fits;
      few = omega (arith, count, few, length-map each piece_made);
      shows = λ said size target. (
        subst (λ (ps : List (List ℕ)). AreFull 8192 ps) (sym f.in_them) (pieces_full (length body) 8192 body (omega arith) (omega arith)),
        ap (λ (ps : List (List ℕ)). run_of ps) f.in_them ∙ join-in_pieces 8192 body (omega arith),
        size,
      );
    }
has_contents Dir body es h l =
    let each = in_pieces most_entries es in
    let f = are_leaves Entries (map entries_block each)
    (entries_named each (some_each (length es) most_entries es (omega arith)) (short_pieces (length es) most_entries es) (each_joined IsEntry (length es) most_entries es l.each) (pieces_ascend (length es) most_entries es l.ascend)) in
    let few = few_pieces (length es) most_entries es 134217728 (omega (arith, l.few)) in
    let made : mades (leaf_forest Entries (map entries_block each)) ≡ map entries_made each = f.made ∙ entries_as_pieces each in
    let count : length (mades (leaf_forest Entries (map entries_block each))) ≡ length (map entries_made each) = ap length made in
    record {
      forest = leaf_forest Entries (map entries_block each);
      made = made;
      are = f.are;
      fits = f.fits;
      few = omega (arith, count, few, length-map each entries_made);
      shows = λ said size target. (h, each, f.in_them, pieces_full (length es) most_entries es (omega arith) (omega arith), join-in_pieces most_entries es (omega arith));
    }
has_contents Lnk body es h l = record { forest = nothing; made = refl; are = tt; fits = tt; few = omega arith; shows = λ said size target. target }

-- ---- inodes

record InodeForest (number : Key) (inode : Inode) (es : List Entry) : Type 0 where
  bytes : List ℕ
  below : Forest
  fits : Fits (block AnInode bytes below nothing)
  shows : ShowsInode bytes below number inode es

inode_forest : (number : Key) (inode : Inode) (es : List Entry) → IsKey number → HasBounds inode → AreListed es → InodeForest number inode es
inode_forest number inode es key bounds l =
    let c = has_contents inode.kind inode.body es bounds.body l in
    let t = subst (λ (p : ℕ × List Made). ListForest (item_of inode.kind) c.forest p) (ap (λ (ms : List Made). list_of ms) c.made) (list_forest (item_of inode.kind) c.forest c.are c.fits c.few) in
    let ib = block_of number inode es in
    let fits : IsInodeBlock ib = record {
      number = key;
      attributes = bounds.attributes;
      size = size_fits inode.kind inode.body bounds.body;
      target = target_fits inode.kind inode.body bounds.body;
      items = items_listed inode.kind inode.body es;
    } in
    record {
      bytes = inode_block ib;
      below = t.top;
      fits = ((ib, record { fits = fits; spelled = refl }, t.named), t.fits, tt);
      shows = record {
        said = ib;
        says = record { fits = fits; spelled = refl };
        number_is = refl;
        kind = refl;
        attributes = refl;
        even = t.even;
        contents = subst (λ (f : Forest). AreContents inode.kind ib f inode.body es) (sym t.bottom) (c.shows ib refl refl);
      };
    }

record InodesForest (t : Tree) (inodes : List (Key × Inode)) : Type 0 where
  forest : Forest
  are : AllAre AnInode forest
  fits : Fits forest
  shows : ShowInodes t forest inodes

inodes_forest : (t : Tree) (inodes : List (Key × Inode)) → AllByRecursion (λ i. IsKey i.0 × HasBounds i.1) inodes → ((d : Key) → AllByRecursion IsEntry (listing t d)) → ((d : Key) → Ascend (listing t d))
    → AllByRecursion (λ i. length (listing t i.0) ≤ 4294967296) inodes → InodesForest t inodes
inodes_forest t [] bounds each ascend few = record { forest = nothing; are = tt; fits = tt; shows = tt }
inodes_forest t (i ∷ inodes) bounds each ascend few =
    let one = inode_forest i.0 i.1 (listing t i.0) bounds.0.0 bounds.0.1 (record { each = each i.0; ascend = ascend i.0; few = few.0 }) in
    let rest = inodes_forest t inodes bounds.1 each ascend few.1 in
    record {
      forest = block AnInode one.bytes one.below rest.forest;
      are = (refl, rest.are);
      fits = (one.fits.0, one.fits.1, rest.fits);
      shows = (one.shows, rest.shows);
    }

-- ---- the whole

record BasisForest (view : Key) (b : Basis) : Type 0 where
  bytes : List ℕ
  below : Forest
  fits : Fits (block Root bytes below nothing)
  shows : ShowsBasis bytes below b
  viewed : shows.said.view ≡ view

basis_forest : (view : Key) (b : Basis) → IsKey view → IsWholeTree b.tree → IsBasisSpelled b → BasisForest view b
basis_forest view b key whole spelled =
    let t = b.tree in
    let items = inodes_forest t t.inodes spelled.inodes (λ d. listed_fit t.names d spelled.names) (λ d. listed_ascend t.names d whole.in_order.names) spelled.few_names in
    let made : mades items.forest ≡ map (inode_made t) t.inodes = inodes_made t items.forest t.inodes items.are items.fits items.shows in
    let count : length (mades items.forest) ≡ length (map (inode_made t) t.inodes) = ap length made in
    let list = subst (λ (p : ℕ × List Made). ListForest AnInode items.forest p) (ap (λ (ms : List Made). list_of ms) made) (list_forest AnInode items.forest items.are items.fits (omega (arith, count, spelled.few, length-map t.inodes (inode_made t)))) in
    let r = root_of view b in
    let fits : IsRootBlock r = record { view = key; front = spelled.front; tide = spelled.tide; inodes = is_listed (map (inode_made t) t.inodes) } in
    record {
      bytes = root_block r;
      below = list.top;
      fits = ((r, record { fits = fits; spelled = refl }, list.named), list.fits, tt);
      shows = record {
        said = r;
        says = record { fits = fits; spelled = refl };
        front = refl;
        tide = refl;
        even = list.even;
        inodes = subst (λ (f : Forest). ShowInodes t f t.inodes) (sym list.bottom) items.shows;
      };
      viewed = refl;
    }

-- the blocks of a snapshot are a root with all below it, and it shows the basis
pub record AreForest (blocks : List (List ℕ)) (b : Basis) : Type 0 where
  pub bytes : List ℕ
  pub below : Forest
  pub fits : Fits (block Root bytes below nothing)
  pub order : map (λ p. p.1) (flat (block Root bytes below nothing)) ≡ blocks
  pub shows : ShowsBasis bytes below b

pub are_forest : (blocks : List (List ℕ)) (b : Basis) → AreOf blocks b → AreForest blocks b
are_forest blocks b are =
    let g = basis_forest are.view b are.is_key are.whole are.bounds in
    record {
      bytes = g.bytes;
      below = g.below;
      fits = g.fits;
      order = sym (shown_reading g.bytes g.below b g.fits g.shows) ∙ ap (λ (v : Key). (snapshot_named v b).reading) g.viewed ∙ are.spelled;
      shows = g.shows;
    }

pub loaded_is_shown : LoadedIsShown
loaded_is_shown bytes below b fits = (
  λ are.
      let g = are_forest (map (λ p. p.1) (flat (block Root bytes below nothing))) b are in
      let one = forest_is_unique g.bytes bytes g.below below g.fits fits g.order in
      (are.whole, are.bounds, subst (λ (x : List ℕ). ShowsBasis x below b) one.0 (subst (λ (f : Forest). ShowsBasis g.bytes f b) one.1 g.shows)),
  λ w. shown_are_loaded bytes below b fits w.0 w.1 w.2,
)
