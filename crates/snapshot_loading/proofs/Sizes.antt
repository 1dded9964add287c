-- Even lists, determined by the bytes of their blocks.
use Rattle.std.proofs.Common.{◌≡◌, ℕ, zero, suc, ◌+◌, ◌*◌, ◌<◌, ◌≤◌, Bool, true, ◌&&◌, List, [], ◌∷◌, ◌++◌, length, flat_map, refl, sym, ap, ◌∙◌, subst, arith, length-append}
use Rattle.std.specs.Prelude.{nat_eq, nat_le}
use Rattle.std.specs.List.{AllByRecursion}
use Rattle.std.proofs.lemmas.List.{length-map}
use Rattle.std.proofs.lemmas.Bool.{leb-true}
use Rattle.ivy_base.specs.declared.key.Key.{Key}
use Rattle.tree_model.proofs.Sound.{both_true}
use Rattle.log_model.proofs.Lists.{both}
use Rattle.log_model.specs.Spelling.{IsKey}
use Rattle.wire_model.specs.Xdr.{word}
use Rattle.wire_model.proofs.OneReading.{word_length}
use Rattle.snapshot_model.specs.Blocks.{list_block}
use Rattle.snapshot_model.specs.Reading.{SnapshotPart, Listing, NamesParts, part_below, top_of}
use Rattle.snapshot_loading.specs.Forests.{Forest, nothing, block, flat, named_in, mades, Fits, joined, children, groups, AreFull, IsEven, IsLeast}
use Rattle.snapshot_loading.specs.ShownInodes.{IsEvenList, bytes_in}
use Rattle.snapshot_loading.proofs.Forests.{AllAre, children_are, fits_children, is_list, mades_joined}
use Rattle.snapshot_loading.specs.Picks.{Blocks, picked}
use Rattle.snapshot_loading.specs.Evenness.{is_some, full_after, are_full, full_down, is_least, is_even}
use Rattle.snapshot_loading.proofs.Layers.{IsBottom, all_top, is_nothing, lists_picked, lower}

-- ---- the test of full lists

pub is_same : (a b : ℕ) → nat_eq a b ≡ true → a ≡ b
is_same a b h = grind (arith, h)

pub same_is : (a b : ℕ) → a ≡ b → nat_eq a b ≡ true
same_is a b h = grind (arith, h)

pub at_least : (a b : ℕ) → nat_le a b ≡ true → a ≤ b
at_least a b h = leb-true a b h

pub least_at : (a b : ℕ) → a ≤ b → nat_le a b ≡ true
least_at a b h = grind (arith, h)

pub some_is : (size n : ℕ) → 1 ≤ n → n ≤ size → is_some size n ≡ true
some_is size n some few = both (nat_le 1 n) (nat_le n size) (least_at 1 n some) (least_at n size few)

module _ {A : Type 0} (size : ℕ) where
  pub full_is : (before : ℕ) (xss : List (List A)) → full_after size before xss ≡ true → AreFull size xss
  full_is before [] h = tt
  full_is before (xs ∷ []) h =
      let parts = both_true (nat_eq before size && is_some size (length xs)) true h in
      let here = both_true (nat_eq before size) (is_some size (length xs)) parts.0 in
      let bounds = both_true (nat_le 1 (length xs)) (nat_le (length xs) size) here.1 in
      (at_least 1 (length xs) bounds.0, at_least (length xs) size bounds.1)
  full_is before (xs ∷ ys ∷ others) h =
      let parts = both_true (nat_eq before size && is_some size (length xs)) (full_after size (length xs) (ys ∷ others)) h in
      let next = both_true (nat_eq (length xs) size && is_some size (length ys)) (full_after size (length ys) others) parts.1 in
      let here = both_true (nat_eq (length xs) size) (is_some size (length ys)) next.0 in
      (is_same (length xs) size here.0, full_is (length xs) (ys ∷ others) parts.1)

  pub is_full : 1 ≤ size → (before : ℕ) (xss : List (List A)) → before ≡ size → AreFull size xss → full_after size before xss ≡ true
  is_full some before [] e h = refl
  is_full some before (xs ∷ []) e h =
      both (nat_eq before size && is_some size (length xs)) true (both (nat_eq before size) (is_some size (length xs)) (same_is before size e) (some_is size (length xs) h.0 h.1)) refl
  is_full some before (xs ∷ ys ∷ others) e h =
      both (nat_eq before size && is_some size (length xs)) (full_after size (length xs) (ys ∷ others))
      (both (nat_eq before size) (is_some size (length xs)) (same_is before size e) (some_is size (length xs) (omega (arith, h.0, some)) (omega (arith, h.0)))) (is_full some (length xs) (ys ∷ others) h.0 h.1)

-- ---- list blocks

keys_length : (keys : List Key) → AllByRecursion IsKey keys → length (flat_map (λ (k : Key). k.0) keys) ≡ 20 * length keys
keys_length [] h = refl
keys_length (k ∷ keys) h = omega (arith, length-append k.0 (flat_map (λ (k : Key). k.0) keys), keys_length keys h.1, h.0.size)

block_length : (level : ℕ) (keys : List Key) → AllByRecursion IsKey keys → length (list_block level keys) ≡ 12 + 20 * length keys
block_length level keys h =
    let front = length-append (word level) (word (length keys) ++ flat_map (λ (k : Key). k.0) keys) in
    let after = length-append (word (length keys)) (flat_map (λ (k : Key). k.0) keys) in
    omega (arith, front, after, word_length level, word_length (length keys), keys_length keys h)

-- so many bytes tell how many are below
pub record IsSized (bytes : List ℕ) (below : Forest) : Type 0 where
  pub size : length bytes ≡ 12 + 20 * length (mades below)
  pub some : 1 ≤ length (mades below)
  pub few : length (mades below) ≤ 512

pub count_named : (f : Forest) → length (named_in f) ≡ length (mades f)
count_named nothing = refl
count_named (block part bytes below beside) = ap suc (count_named beside)

pub is_sized : (level : ℕ) (item : SnapshotPart) (bytes : List ℕ) (below : Forest) → NamesParts (Listing level item) bytes (named_in below) → IsSized bytes below
is_sized level item bytes below h =
    let l = is_list level item bytes below h in
    let count : length h.0 ≡ length (mades below) = sym (length-map h.0 (λ (k : Key). (part_below level item, k))) ∙ sym (ap length h.2) ∙ count_named below in
    let long : length bytes ≡ 12 + 20 * length h.0 = ap length h.1.spelled ∙ block_length level h.0 h.1.fits.each in
    record { size = omega (arith, count, long); some = l.some; few = l.few }

pub sized : (level : ℕ) (item part : SnapshotPart) (bytes : List ℕ) (below : Forest) → part ≡ Listing level item → NamesParts part bytes (named_in below) → IsSized bytes below
sized level item part bytes below e h = is_sized level item bytes below (subst (λ (p : SnapshotPart). NamesParts p bytes (named_in below)) e h)

module _ (level : ℕ) (item : SnapshotPart) where
  full_by_bytes : (f : Forest) → AllAre (Listing level item) f → Fits f → AreFull 10252 (bytes_in f) → AreFull 512 (groups f)
  full_by_bytes nothing are fits h = tt
  full_by_bytes (block part bytes below nothing) are fits h = let s = sized level item part bytes below are.0 fits.0 in (s.some, s.few)
  full_by_bytes (block part bytes below (block p b u rest)) are fits h =
      let s = sized level item part bytes below are.0 fits.0 in
      (omega (arith, s.size, h.0), full_by_bytes (block p b u rest) are.1 fits.2 h.1)

  full_by_names : (f : Forest) → AllAre (Listing level item) f → Fits f → AreFull 512 (groups f) → AreFull 10252 (bytes_in f)
  full_by_names nothing are fits h = tt
  full_by_names (block part bytes below nothing) are fits h = let s = sized level item part bytes below are.0 fits.0 in (omega (arith, s.size, s.some), omega (arith, s.size, s.few))
  full_by_names (block part bytes below (block p b u rest)) are fits h =
      let s = sized level item part bytes below are.0 fits.0 in
      (omega (arith, s.size, h.0), full_by_names (block p b u rest) are.1 fits.2 h.1)

-- ---- the levels

same_down : (inodes : Bool) (level : ℕ) (xs ys : Blocks) → ((other : ℕ) → other < suc level → picked inodes other xs ≡ picked inodes other ys) → full_down inodes level xs ≡ full_down inodes level ys
same_down inodes zero xs ys same = refl
same_down inodes (suc level) xs ys same =
    let here = same (suc level) (omega arith) in
    let rest = same_down inodes level xs ys (λ other less. same other (omega (arith, less))) in
    (λ i. are_full 10252 (here i) && rest i)

module _ (inodes : Bool) (item : SnapshotPart) (bottom : IsBottom inodes item) where
  -- of one level, and of those below it
  full_here : (level : ℕ) (f : Forest) → AllAre (Listing (suc level) item) f → Fits f → full_down inodes (suc level) (flat f) ≡ true → AreFull 512 (groups f) × (full_down inodes level (flat (children f)) ≡ true)
  full_here level f are fits h =
      let parts = both_true (are_full 10252 (picked inodes (suc level) (flat f))) (full_down inodes level (flat f)) h in
      let here : are_full 10252 (bytes_in f) ≡ true = ap (λ (l : List (List ℕ)). are_full 10252 l) (sym (lists_picked inodes item bottom level f are fits)) ∙ parts.0 in (
        full_by_bytes (suc level) item f are fits (full_is 10252 10252 (bytes_in f) here),
        sym (same_down inodes level (flat f) (flat (children f)) (λ other less. lower inodes item bottom level other f less are)) ∙ parts.1,
      )

  here_full : (level : ℕ) (f : Forest) → AllAre (Listing (suc level) item) f → Fits f → AreFull 512 (groups f) → full_down inodes level (flat (children f)) ≡ true → full_down inodes (suc level) (flat f) ≡ true
  here_full level f are fits h rest =
      both (are_full 10252 (picked inodes (suc level) (flat f))) (full_down inodes level (flat f))
      (ap (λ (l : List (List ℕ)). are_full 10252 l) (lists_picked inodes item bottom level f are fits) ∙ is_full 10252 (omega arith) 10252 (bytes_in f) refl (full_by_names (suc level) item f are fits h))
      (same_down inodes level (flat f) (flat (children f)) (λ other less. lower inodes item bottom level other f less are) ∙ rest)

  down_is_even : (level : ℕ) (f : Forest) → AllAre (Listing (suc level) item) f → Fits f → full_down inodes (suc level) (flat f) ≡ true → IsEven (suc level) f
  down_is_even zero f are fits h = ((full_here 0 f are fits h).0, tt)
  down_is_even (suc level) f are fits h =
      let parts = full_here (suc level) f are fits h in
      (parts.0, down_is_even level (children f) (children_are (suc (suc level)) item f are fits) (fits_children f fits) parts.1)

  even_is_down : (level : ℕ) (f : Forest) → AllAre (Listing (suc level) item) f → Fits f → IsEven (suc level) f → full_down inodes (suc level) (flat f) ≡ true
  even_is_down zero f are fits h = here_full 0 f are fits h.0 refl
  even_is_down (suc level) f are fits h = here_full (suc level) f are fits h.0 (even_is_down level (children f) (children_are (suc (suc level)) item f are fits) (fits_children f fits) h.1)

  -- ---- the whole list

  under_top : (under beside : Forest) → beside ≡ nothing → length (mades (joined under (children beside))) ≡ length (mades under)
  under_top under beside e =
      ap (λ (f : Forest). length (mades (joined under (children f)))) e ∙ ap length (mades_joined under nothing) ∙ length-append (mades under) [] ∙ omega arith

  least_is : (level : ℕ) (top : Key) (below : Forest) → named_in below ≡ top_of item (suc level) top → Fits below → is_least (suc level) (flat below) ≡ true → IsLeast (suc level) below
  least_is zero top below e fits h = tt
  least_is (suc level) top nothing e fits h = cc
  least_is (suc level) top (block part bytes under beside) e fits h =
      let tail : named_in beside ≡ [] = cc in
      let are = all_top inodes item bottom (suc level) top (block part bytes under beside) e in
      let s = sized (suc (suc level)) item part bytes under are.0 fits.0 in
      omega (arith, at_least 52 (length bytes) h, s.size, under_top under beside (is_nothing beside tail))

  is_the_least : (level : ℕ) (top : Key) (below : Forest) → named_in below ≡ top_of item (suc level) top → Fits below → IsLeast (suc level) below → is_least (suc level) (flat below) ≡ true
  is_the_least zero top below e fits h = refl
  is_the_least (suc level) top nothing e fits h = refl
  is_the_least (suc level) top (block part bytes under beside) e fits h =
      let tail : named_in beside ≡ [] = cc in
      let are = all_top inodes item bottom (suc level) top (block part bytes under beside) e in
      let s = sized (suc (suc level)) item part bytes under are.0 fits.0 in
      least_at 52 (length bytes) (omega (arith, h, s.size, under_top under beside (is_nothing beside tail)))

  pub told_even : (level : ℕ) (top : Key) (below : Forest) → named_in below ≡ top_of item level top → Fits below → is_even inodes level (flat below) ≡ true → IsEvenList level below
  told_even zero top below e fits h = tt
  told_even (suc level) top below e fits h =
      let parts = both_true (full_down inodes (suc level) (flat below)) (is_least (suc level) (flat below)) h in
      (down_is_even level below (all_top inodes item bottom level top below e) fits parts.0, least_is level top below e fits parts.1)

  pub even_told : (level : ℕ) (top : Key) (below : Forest) → named_in below ≡ top_of item level top → Fits below → IsEvenList level below → is_even inodes level (flat below) ≡ true
  even_told zero top below e fits h = refl
  even_told (suc level) top below e fits h =
      both (full_down inodes (suc level) (flat below)) (is_least (suc level) (flat below)) (even_is_down level below (all_top inodes item bottom level top below e) fits h.0) (is_the_least level top below e fits h.1)
