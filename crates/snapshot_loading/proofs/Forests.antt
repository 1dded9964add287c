-- Blocks with those below them.
use Rattle.std.proofs.Common.{◌≡◌, ℕ, ◌≤◌, List, [], ◌∷◌, ◌++◌, length, map, flat_map, refl, sym, ap, ◌∙◌, subst, arith}
use Rattle.std.proofs.lemmas.List.{length-map}
use Rattle.ivy_base.specs.declared.key.Key.{Key}
use Rattle.ivy_base.specs.Naming.{name}
use Rattle.snapshot_model.specs.Blocks.{list_block}
use Rattle.snapshot_model.specs.Spelling.{Made, made_name, over, list_made}
use Rattle.snapshot_model.specs.Reading.{SnapshotPart, Listing, NamesParts, part_below}
use Rattle.snapshot_loading.specs.Forests.{Forest, nothing, block, named_in, mades, Fits, joined, children, groups}

-- ---- forests beside one another

pub mades_joined : (f g : Forest) → mades (joined f g) ≡ mades f ++ mades g
mades_joined nothing g = refl
mades_joined (block part bytes below beside) g = ap (λ (ms : List Made). over bytes (mades below) ∷ ms) (mades_joined beside g)

pub fits_joined : (f g : Forest) → Fits f → Fits g → Fits (joined f g)
fits_joined nothing g h k = k
fits_joined (block part bytes below beside) g h k = (h.0, h.1, fits_joined beside g h.2 k)

abbrev pub flattened : {A : Type 0} → List (List A) → List A
flattened xss = flat_map (λ xs. xs) xss

pub mades_children : (f : Forest) → mades (children f) ≡ flattened (groups f)
mades_children nothing = refl
mades_children (block part bytes below beside) = mades_joined below (children beside) ∙ ap (λ (ms : List Made). mades below ++ ms) (mades_children beside)

pub fits_children : (f : Forest) → Fits f → Fits (children f)
fits_children nothing h = tt
fits_children (block part bytes below beside) h = fits_joined below (children beside) h.1 (fits_children beside h.2)

-- all are to be that
abbrev pub AllAre : SnapshotPart → Forest → Type 0
AllAre part nothing = Unit {0}
AllAre part (block other bytes below beside) = (other ≡ part) × AllAre part beside

pub are_joined : (part : SnapshotPart) (f g : Forest) → AllAre part f → AllAre part g → AllAre part (joined f g)
are_joined part nothing g h k = k
are_joined part (block other bytes below beside) g h k = (h.0, are_joined part beside g h.1 k)

pub keys_named : (f : Forest) → map (λ p. p.1) (named_in f) ≡ map made_name (mades f)
keys_named nothing = refl
keys_named (block part bytes below beside) = ap (λ (ks : List Key). name bytes ∷ ks) (keys_named beside)

seconds : (part : SnapshotPart) (keys : List Key) → map (λ p. p.1) (map {B = SnapshotPart × Key} (λ k. (part, k)) keys) ≡ keys
seconds part [] = refl
seconds part (k ∷ keys) = ap (λ (ks : List Key). k ∷ ks) (seconds part keys)

pub named_are : (part : SnapshotPart) (f : Forest) (keys : List Key) → named_in f ≡ map {B = SnapshotPart × Key} (λ k. (part, k)) keys → AllAre part f
named_are part nothing keys e = tt
named_are part (block other bytes below beside) [] e = cc
named_are part (block other bytes below beside) (k ∷ keys) e =
    let head : ◌≡◌ {A = SnapshotPart × Key} (other, name bytes) (part, k) = cc in
    let tail : named_in beside ≡ map {B = SnapshotPart × Key} (λ q. (part, q)) keys = cc in
    (ap (λ (p : SnapshotPart × Key). p.0) head, named_are part beside keys tail)

-- ---- list blocks

-- what is below a list block
pub record IsList (level : ℕ) (item : SnapshotPart) (bytes : List ℕ) (below : Forest) : Type 0 where
  pub spelled : over bytes (mades below) ≡ list_made level (mades below)
  pub items : AllAre (part_below level item) below
  pub some : 1 ≤ length (mades below)
  pub few : length (mades below) ≤ 512

pub is_list : (level : ℕ) (item : SnapshotPart) (bytes : List ℕ) (below : Forest) → NamesParts (Listing level item) bytes (named_in below) → IsList level item bytes below
is_list level item bytes below h =
    let keys : h.0 ≡ map made_name (mades below) = sym (seconds (part_below level item) h.0) ∙ ap (λ (ps : List (SnapshotPart × Key)). map (λ p. p.1) ps) (sym h.2) ∙ keys_named below in
    let count : length h.0 ≡ length (mades below) = ap length keys ∙ length-map (mades below) made_name in
    record {
      spelled = ap (λ (b : List ℕ). over b (mades below)) (h.1.spelled ∙ ap (λ (ks : List Key). list_block level ks) keys);
      items = named_are (part_below level item) below h.0 h.2;
      some = omega (arith, count, h.1.fits.some);
      few = omega (arith, count, h.1.fits.few);
    }

-- so list blocks beside one another are made of what is below each
pub lists_made : (level : ℕ) (item : SnapshotPart) (f : Forest) → AllAre (Listing level item) f → Fits f → mades f ≡ map (list_made level) (groups f)
lists_made level item nothing are fits = refl
lists_made level item (block part bytes below beside) are fits =
    let one = is_list level item bytes below (subst (λ (p : SnapshotPart). NamesParts p bytes (named_in below)) are.0 fits.0) in
    ap (λ (m : Made). m ∷ mades beside) one.spelled ∙ ap (λ (ms : List Made). list_made level (mades below) ∷ ms) (lists_made level item beside are.1 fits.2)

pub children_are : (level : ℕ) (item : SnapshotPart) (f : Forest) → AllAre (Listing level item) f → Fits f → AllAre (part_below level item) (children f)
children_are level item nothing are fits = tt
children_are level item (block part bytes below beside) are fits =
    let one = is_list level item bytes below (subst (λ (p : SnapshotPart). NamesParts p bytes (named_in below)) are.0 fits.0) in
    are_joined (part_below level item) below (children beside) one.items (children_are level item beside are.1 fits.2)
