-- From inode to inode.
use Rattle.std.proofs.Common.{◌≡◌, ℕ, zero, suc, Bool, true, false, List, [], ◌∷◌, ◌++◌, refl, sym, ap, ◌∙◌, subst}
use Rattle.std.specs.Prelude.{if◌then◌else◌}
use Rattle.ivy_base.specs.declared.key.Key.{Key}
use Rattle.snapshot_model.specs.Reading.{SnapshotPart, Root, Listing, AnInode, Piece, Entries, NamesParts, part_below, top_of}
use Rattle.snapshot_loading.specs.Forests.{Forest, nothing, block, flat, named_in, Fits, children, below_by}
use Rattle.snapshot_loading.proofs.Forests.{AllAre, children_are, fits_children}
use Rattle.snapshot_loading.specs.Picks.{Blocks, of_inodes, is_inode, within, inodes_in}
use Rattle.snapshot_loading.proofs.Layers.{AreInside, all_top, flat_joined, inode_has, inodes_are, is_nothing}

abbrev Stretch : Type 0
Stretch = List ℕ × Blocks

-- ---- any blocks

abbrev kept : Bool → SnapshotPart × List ℕ → Blocks → Blocks
kept ends b rest = if ends then [] else b ∷ rest

abbrev begun : Bool → Stretch → List Stretch → List Stretch
begun begins s rest = if begins then s ∷ rest else rest

within_first : (xs ys : Blocks) → within ys ≡ [] → within (xs ++ ys) ≡ within xs
within_first [] ys h = h
within_first (x ∷ xs) ys h = by (of_inodes x.0) (within_first xs ys h)
  where
    by : (b : Bool) → within (xs ++ ys) ≡ within xs → kept b x (within (xs ++ ys)) ≡ kept b x (within xs)
    by true e = refl
    by false e = ap (λ (l : Blocks). x ∷ l) e

within_all : (xs : Blocks) → AreInside xs → within xs ≡ xs
within_all [] h = refl
within_all (x ∷ xs) h = ap (λ (b : Bool). kept b x (within xs)) h.0 ∙ ap (λ (l : Blocks). x ∷ l) (within_all xs h.1)

inodes_append : (xs ys : Blocks) → within ys ≡ [] → inodes_in (xs ++ ys) ≡ inodes_in xs ++ inodes_in ys
inodes_append [] ys h = refl
inodes_append (x ∷ xs) ys h = by (is_inode x.0) (inodes_append xs ys h)
  where
    by : (b : Bool) → inodes_in (xs ++ ys) ≡ inodes_in xs ++ inodes_in ys
        → begun b (x.1, within (xs ++ ys)) (inodes_in (xs ++ ys)) ≡ begun b (x.1, within xs) (inodes_in xs) ++ inodes_in ys
    by true e = (λ i. (x.1, within_first xs ys h i) ∷ e i)
    by false e = e

inside_is_none : (part : SnapshotPart) → of_inodes part ≡ false → is_inode part ≡ false
inside_is_none Root h = refl
inside_is_none (Listing level item) h = refl
inside_is_none AnInode h = cc
inside_is_none Piece h = refl
inside_is_none Entries h = refl

no_inodes : (xs : Blocks) → AreInside xs → inodes_in xs ≡ []
no_inodes [] h = refl
no_inodes (x ∷ xs) h = ap (λ (b : Bool). begun b (x.1, within xs) (inodes_in xs)) (inside_is_none x.0 h.0) ∙ no_inodes xs h.1

-- ---- forests

first_ends : (part : SnapshotPart) (f : Forest) → of_inodes part ≡ true → AllAre part f → within (flat f) ≡ []
first_ends part nothing h are = refl
first_ends part (block other bytes below beside) h are = ap (λ (b : Bool). kept b (other, bytes) (within (flat below ++ flat beside))) (ap of_inodes are.0 ∙ h)

-- each block with what is below it
abbrev pub stretches : Forest → List Stretch
stretches nothing = []
stretches (block part bytes below beside) = (bytes, flat below) ∷ stretches beside

at_bottom : (f : Forest) → AllAre AnInode f → Fits f → inodes_in (flat f) ≡ stretches f
at_bottom nothing are fits = refl
at_bottom (block part bytes below beside) are fits =
    let names = subst (λ (p : SnapshotPart). NamesParts p bytes (named_in below)) are.0 fits.0 in
    let inside = inode_has bytes below names fits.1 in
    let ends = first_ends AnInode beside refl are.1 in
    let here : within (flat below ++ flat beside) ≡ flat below = within_first (flat below) (flat beside) ends ∙ within_all (flat below) inside in
    let rest : inodes_in (flat below ++ flat beside) ≡ stretches beside =
    inodes_append (flat below) (flat beside) ends ∙ ap (λ (l : List Stretch). l ++ inodes_in (flat beside)) (no_inodes (flat below) inside) ∙ at_bottom beside are.1 fits.2 in
    ap (λ (b : Bool). begun b (bytes, within (flat below ++ flat beside)) (inodes_in (flat below ++ flat beside))) (ap is_inode are.0) ∙ (λ i. (bytes, here i) ∷ rest i)

below_list : (level : ℕ) → of_inodes (part_below level AnInode) ≡ true
below_list zero = refl
below_list (suc zero) = refl
below_list (suc (suc level)) = refl

lower : (level : ℕ) (f : Forest) → AllAre (Listing level AnInode) f → Fits f → inodes_in (flat f) ≡ inodes_in (flat (children f))
lower level nothing are fits = refl
lower level (block part bytes below beside) are fits =
    let later = first_ends (part_below level AnInode) (children beside) (below_list level) (children_are level AnInode beside are.1 fits.2) in
    ap (λ (b : Bool). begun b (bytes, within (flat below ++ flat beside)) (inodes_in (flat below ++ flat beside))) (ap is_inode are.0)
    ∙ inodes_append (flat below) (flat beside) (first_ends (Listing level AnInode) beside refl are.1)
    ∙ ap (λ (l : List Stretch). inodes_in (flat below) ++ l) (lower level beside are.1 fits.2)
    ∙ sym (inodes_append (flat below) (flat (children beside)) later) ∙ ap inodes_in (sym (flat_joined below (children beside)))

by_levels : (level : ℕ) (f : Forest) → AllAre (Listing (suc level) AnInode) f → Fits f → inodes_in (flat f) ≡ stretches (below_by (suc level) f)
by_levels zero f are fits = lower 1 f are fits ∙ at_bottom (children f) (children_are 1 AnInode f are fits) (fits_children f fits)
by_levels (suc level) f are fits =
    lower (suc (suc level)) f are fits ∙ by_levels level (children f) (children_are (suc (suc level)) AnInode f are fits) (fits_children f fits)

-- each inode of the list has what is below it
pub inodes_stretch : (level : ℕ) (top : Key) (below : Forest) → named_in below ≡ top_of AnInode level top → Fits below → inodes_in (flat below) ≡ stretches (below_by level below)
inodes_stretch zero top below e fits = let is = is_nothing below e in ap (λ (f : Forest). inodes_in (flat f)) is ∙ sym (ap stretches is)
inodes_stretch (suc level) top below e fits = by_levels level below (all_top true AnInode inodes_are level top below e) fits
