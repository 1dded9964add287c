-- Blocks of a level, among all that were read.
use Rattle.std.proofs.Common.{◌≡◌, ℕ, zero, suc, ◌<◌, Bool, true, false, ◌&&◌, List, [], ◌∷◌, ◌++◌, map, refl, sym, ap, ◌∙◌, subst, arith}
use Rattle.std.specs.Prelude.{if◌then◌else◌, nat_eq}
use Rattle.std.specs.List.{AllByRecursion}
use Rattle.std.proofs.lemmas.List.{append_assoc}
use Rattle.ivy_base.specs.declared.key.Key.{Key}
use Rattle.ivy_base.specs.declared.operation.Kind.{Kind}
use Rattle.ivy_base.specs.declared.operation.Kind.TheVariants.{Reg, Dir, Lnk}
use Rattle.ivy_base.specs.Naming.{name}
use Rattle.snapshot_model.specs.Reading.{SnapshotPart, Root, Listing, AnInode, Piece, Entries, NamesParts, item_of, part_below, top_of}
use Rattle.snapshot_loading.specs.Forests.{Forest, nothing, block, flat, named_in, Fits, joined, children, below_by}
use Rattle.snapshot_loading.specs.ShownInodes.{bytes_in}
use Rattle.snapshot_loading.proofs.Forests.{AllAre, children_are, fits_children}
use Rattle.snapshot_loading.specs.Picks.{Blocks, of_inodes, level_of, is_among, is_at, picked}

-- ---- forests beside one another

pub flat_joined : (f g : Forest) → flat (joined f g) ≡ flat f ++ flat g
flat_joined nothing g = refl
flat_joined (block part bytes below beside) g =
    ap (λ (l : Blocks). (part, bytes) ∷ flat below ++ l) (flat_joined beside g) ∙ ap (λ (l : Blocks). (part, bytes) ∷ l) (sym (append_assoc (flat below) (flat beside) (flat g)))

pub is_nothing : (f : Forest) → named_in f ≡ [] → f ≡ nothing
is_nothing nothing e = refl
is_nothing (block part bytes below beside) e = cc

no_first : (xs ys : List (List ℕ)) → xs ++ ys ≡ [] → xs ≡ []
no_first [] ys e = refl
no_first (x ∷ xs) ys e = cc

no_second : (xs ys : List (List ℕ)) → xs ++ ys ≡ [] → ys ≡ []
no_second [] ys e = e
no_second (x ∷ xs) ys e = cc

-- ---- picked, or not

module _ (inodes : Bool) (level : ℕ) where
  abbrev pub taken : Bool → List ℕ → List (List ℕ) → List (List ℕ)
  taken found bytes rest = if found then bytes ∷ rest else rest

  pub picked_append : (xs ys : Blocks) → picked inodes level (xs ++ ys) ≡ picked inodes level xs ++ picked inodes level ys
  picked_append [] ys = refl
  picked_append (x ∷ xs) ys = by (is_at inodes level x.0) (picked_append xs ys)
    where
      by : (b : Bool) → picked inodes level (xs ++ ys) ≡ picked inodes level xs ++ picked inodes level ys
          → taken b x.1 (picked inodes level (xs ++ ys)) ≡ taken b x.1 (picked inodes level xs) ++ picked inodes level ys
      by true e = ap (λ (l : List (List ℕ)). x.1 ∷ l) e
      by false e = e

  -- blocks of another level give way to those below them
  pub skips : (part : SnapshotPart) (f : Forest) → is_at inodes level part ≡ false → AllAre part f → picked inodes level (flat f) ≡ picked inodes level (flat (children f))
  skips part nothing absent are = refl
  skips part (block other bytes below beside) absent are =
      let none : is_at inodes level other ≡ false = ap (λ (p : SnapshotPart). is_at inodes level p) are.0 ∙ absent in
      ap (λ (b : Bool). taken b bytes (picked inodes level (flat below ++ flat beside))) none ∙ picked_append (flat below) (flat beside)
      ∙ ap (λ (l : List (List ℕ)). picked inodes level (flat below) ++ l) (skips part beside absent are.1)
      ∙ sym (picked_append (flat below) (flat (children beside))) ∙ ap (λ (l : Blocks). picked inodes level l) (sym (flat_joined below (children beside)))

  -- and those of this level are all, where none is below them
  pub takes : (part : SnapshotPart) (f : Forest) → is_at inodes level part ≡ true → AllAre part f → picked inodes level (flat (children f)) ≡ [] → picked inodes level (flat f) ≡ bytes_in f
  takes part nothing found are none = refl
  takes part (block other bytes below beside) found are none =
      let is : is_at inodes level other ≡ true = ap (λ (p : SnapshotPart). is_at inodes level p) are.0 ∙ found in
      let both : picked inodes level (flat below) ++ picked inodes level (flat (children beside)) ≡ [] =
      sym (picked_append (flat below) (flat (children beside))) ∙ ap (λ (l : Blocks). picked inodes level l) (sym (flat_joined below (children beside))) ∙ none in
      let here = no_first (picked inodes level (flat below)) (picked inodes level (flat (children beside))) both in
      let rest = takes part beside found are.1 (no_second (picked inodes level (flat below)) (picked inodes level (flat (children beside))) both) in
      ap (λ (b : Bool). taken b bytes (picked inodes level (flat below ++ flat beside))) is
      ∙ ap (λ (l : List (List ℕ)). bytes ∷ l) (picked_append (flat below) (flat beside) ∙ (λ i. here i ++ rest i))

  -- none of those that an inode has is of the list of all inodes
  pub none_inside : inodes ≡ true → (xs : Blocks) → AllByRecursion (λ b. of_inodes b.0 ≡ false) xs → picked inodes level xs ≡ []
  none_inside is [] h = refl
  none_inside is (x ∷ xs) h =
      let absent : is_at inodes level x.0 ≡ false = ap (λ (i : Bool). is_at i level x.0) is ∙ ap (λ (b : Bool). b && nat_eq (level_of x.0) level) h.0 in
      ap (λ (b : Bool). taken b x.1 (picked inodes level xs)) absent ∙ none_inside is xs h.1

-- ---- what an inode has

abbrev pub AreInside : Blocks → Type 0
AreInside blocks = AllByRecursion (λ b. of_inodes b.0 ≡ false) blocks

abbrev pub NamedInside : List (SnapshotPart × Key) → Type 0
NamedInside named = AllByRecursion (λ p. of_inodes p.0 ≡ false) named

below_inside : (level : ℕ) (item : SnapshotPart) → of_inodes item ≡ false → of_inodes (part_below level item) ≡ false
below_inside zero item h = h
below_inside (suc zero) item h = h
below_inside (suc (suc level)) item h = h

each_inside : (part : SnapshotPart) (keys : List Key) → of_inodes part ≡ false → NamedInside (map {B = SnapshotPart × Key} (λ k. (part, k)) keys)
each_inside part [] h = tt
each_inside part (k ∷ keys) h = (h, each_inside part keys h)

top_inside : (kind : Kind) (level : ℕ) (top : Key) → NamedInside (top_of (item_of kind) level top)
top_inside kind zero top = tt
top_inside Reg (suc level) top = (refl, tt)
top_inside Dir (suc level) top = (refl, tt)
top_inside Lnk (suc level) top = (refl, tt)

names_inside : (part : SnapshotPart) (bytes : List ℕ) (named : List (SnapshotPart × Key)) → of_inodes part ≡ false → NamesParts part bytes named → NamedInside named
names_inside Root bytes named absent n = cc
names_inside (Listing level item) bytes named absent n = subst NamedInside (sym n.2) (each_inside (part_below level item) n.0 (below_inside level item absent))
names_inside AnInode bytes named absent n = cc
names_inside Piece bytes named absent n = subst NamedInside (sym n.1) tt
names_inside Entries bytes named absent n = subst NamedInside (sym n.2) tt

both_inside : (xs ys : Blocks) → AreInside xs → AreInside ys → AreInside (xs ++ ys)
both_inside [] ys h g = g
both_inside (x ∷ xs) ys h g = (h.0, both_inside xs ys h.1 g)

pub all_inside : (f : Forest) → Fits f → NamedInside (named_in f) → AreInside (flat f)
all_inside nothing fits h = tt
all_inside (block part bytes below beside) fits h =
    (h.0, both_inside (flat below) (flat beside) (all_inside below fits.1 (names_inside part bytes (named_in below) h.0 fits.0)) (all_inside beside fits.2 h.1))

-- all below an inode
pub inode_has : (bytes : List ℕ) (below : Forest) → NamesParts AnInode bytes (named_in below) → Fits below → AreInside (flat below)
inode_has bytes below n fits = all_inside below fits (subst NamedInside (sym n.2) (top_inside n.0.kind n.0.items.level n.0.items.top))

-- ---- what is at the bottom of a list

-- nothing of these levels is below the items
pub record IsBottom (inodes : Bool) (item : SnapshotPart) : Type 0 where
  pub level : level_of item ≡ 0
  pub among : is_among inodes item ≡ true
  pub none : (level : ℕ) (f : Forest) → AllAre item f → Fits f → picked inodes level (flat (children f)) ≡ []

no_children : (f : Forest) → AllAre Piece f → Fits f → children f ≡ nothing
no_children nothing are fits = refl
no_children (block part bytes below beside) are fits =
    let names = subst (λ (p : SnapshotPart). NamesParts p bytes (named_in below)) are.0 fits.0 in
    ap (λ (f : Forest). joined f (children beside)) (is_nothing below names.1) ∙ no_children beside are.1 fits.2

no_children_either : (f : Forest) → AllAre Entries f → Fits f → children f ≡ nothing
no_children_either nothing are fits = refl
no_children_either (block part bytes below beside) are fits =
    let names = subst (λ (p : SnapshotPart). NamesParts p bytes (named_in below)) are.0 fits.0 in
    ap (λ (f : Forest). joined f (children beside)) (is_nothing below names.2) ∙ no_children_either beside are.1 fits.2

pub pieces_are : IsBottom false Piece
pieces_are = record { level = refl; among = refl; none = λ level f are fits. ap (λ (g : Forest). picked false level (flat g)) (no_children f are fits) }

pub entries_are : IsBottom false Entries
entries_are = record { level = refl; among = refl; none = λ level f are fits. ap (λ (g : Forest). picked false level (flat g)) (no_children_either f are fits) }

none_in_inodes : (level : ℕ) (f : Forest) → AllAre AnInode f → Fits f → picked true level (flat (children f)) ≡ []
none_in_inodes level nothing are fits = refl
none_in_inodes level (block part bytes below beside) are fits =
    let names = subst (λ (p : SnapshotPart). NamesParts p bytes (named_in below)) are.0 fits.0 in
    ap (λ (l : Blocks). picked true level l) (flat_joined below (children beside)) ∙ picked_append true level (flat below) (flat (children beside))
    ∙ (λ i. none_inside true level refl (flat below) (inode_has bytes below names fits.1) i ++ none_in_inodes level beside are.1 fits.2 i)

pub inodes_are : IsBottom true AnInode
inodes_are = record { level = refl; among = refl; none = none_in_inodes }

-- ---- the levels of a list

among_list : (inodes : Bool) (level : ℕ) (item : SnapshotPart) → is_among inodes (Listing level item) ≡ is_among inodes item
among_list true level item = refl
among_list false level item = refl

module _ (inodes : Bool) (item : SnapshotPart) (bottom : IsBottom inodes item) where
  list_at : (level other : ℕ) → is_at inodes other (Listing level item) ≡ nat_eq level other
  list_at level other = ap (λ (b : Bool). b && nat_eq level other) (among_list inodes level item ∙ bottom.among)

  item_at : (other : ℕ) → is_at inodes other item ≡ nat_eq 0 other
  item_at other = ap (λ (b : Bool). b && nat_eq (level_of item) other) bottom.among ∙ ap (λ (n : ℕ). nat_eq n other) bottom.level

  pub items_picked : (f : Forest) → AllAre item f → Fits f → picked inodes 0 (flat f) ≡ bytes_in f
  items_picked f are fits = takes inodes 0 item f (item_at 0) are (bottom.none 0 f are fits)

  no_items : (level : ℕ) (f : Forest) → AllAre item f → Fits f → picked inodes (suc level) (flat f) ≡ []
  no_items level f are fits = skips inodes (suc level) item f (item_at (suc level) ∙ grind arith) are ∙ bottom.none (suc level) f are fits

  -- from a higher level
  pub lower : (level other : ℕ) (f : Forest) → other < suc level → AllAre (Listing (suc level) item) f → picked inodes other (flat f) ≡ picked inodes other (flat (children f))
  lower level other f less are = skips inodes other (Listing (suc level) item) f (list_at (suc level) other ∙ grind (arith, less)) are

  none_above : (level other : ℕ) (f : Forest) → level < other → AllAre (Listing (suc level) item) f → Fits f → picked inodes (suc other) (flat f) ≡ []
  none_above zero other f less are fits =
      skips inodes (suc other) (Listing 1 item) f (list_at 1 (suc other) ∙ grind (arith, less)) are ∙ no_items other (children f) (children_are 1 item f are fits) (fits_children f fits)
  none_above (suc level) other f less are fits =
      skips inodes (suc other) (Listing (suc (suc level)) item) f (list_at (suc (suc level)) (suc other) ∙ grind (arith, less)) are
      ∙ none_above level other (children f) (omega (arith, less)) (children_are (suc (suc level)) item f are fits) (fits_children f fits)

  none_below : (level : ℕ) (f : Forest) → AllAre (Listing (suc level) item) f → Fits f → picked inodes (suc level) (flat (children f)) ≡ []
  none_below zero f are fits = no_items 0 (children f) (children_are 1 item f are fits) (fits_children f fits)
  none_below (suc level) f are fits = none_above level (suc level) (children f) (omega arith) (children_are (suc (suc level)) item f are fits) (fits_children f fits)

  pub lists_picked : (level : ℕ) (f : Forest) → AllAre (Listing (suc level) item) f → Fits f → picked inodes (suc level) (flat f) ≡ bytes_in f
  lists_picked level f are fits = takes inodes (suc level) (Listing (suc level) item) f (list_at (suc level) (suc level) ∙ grind arith) are (none_below level f are fits)

  pub bottom_picked : (level : ℕ) (f : Forest) → AllAre (Listing (suc level) item) f → Fits f → picked inodes 0 (flat f) ≡ bytes_in (below_by (suc level) f)
  bottom_picked zero f are fits = lower 0 0 f (omega arith) are ∙ items_picked (children f) (children_are 1 item f are fits) (fits_children f fits)
  bottom_picked (suc level) f are fits =
      lower (suc level) 0 f (omega arith) are ∙ bottom_picked level (children f) (children_are (suc (suc level)) item f are fits) (fits_children f fits)

  pub all_top : (level : ℕ) (top : Key) (below : Forest) → named_in below ≡ top_of item (suc level) top → AllAre (Listing (suc level) item) below
  all_top level top nothing e = tt
  all_top level top (block part bytes below beside) e =
      let head : ◌≡◌ {A = SnapshotPart × Key} (part, name bytes) (Listing (suc level) item, top) = cc in
      let tail : named_in beside ≡ [] = cc in
      (ap (λ (p : SnapshotPart × Key). p.0) head, subst (λ (f : Forest). AllAre (Listing (suc level) item) f) (sym (is_nothing beside tail)) tt)

  -- the same by the topmost block
  pub top_picked : (level : ℕ) (top : Key) (below : Forest) → named_in below ≡ top_of item level top → Fits below → picked inodes 0 (flat below) ≡ bytes_in (below_by level below)
  top_picked zero top below e fits = let is = is_nothing below e in ap (λ (f : Forest). picked inodes 0 (flat f)) is ∙ sym (ap bytes_in is)
  top_picked (suc level) top below e fits = bottom_picked level below (all_top level top below e) fits
