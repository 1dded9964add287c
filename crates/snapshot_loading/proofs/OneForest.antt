-- What was read is one forest.
use Rattle.std.proofs.Common.{◌≡◌, ℕ, zero, suc, List, [], ◌∷◌, ◌++◌, length, map, take, drop, refl, sym, ap, ◌∙◌, subst, append_assoc}
use Rattle.std.proofs.lemmas.List.{map-append}
use Rattle.ivy_base.specs.declared.key.Key.{Key}
use Rattle.ivy_base.specs.Naming.{name}
use Rattle.snapshot_model.specs.Reading.{SnapshotPart, Root, NamesParts}
use Rattle.snapshot_model.proofs.MadeLists.{readings}
use Rattle.snapshot_loading.specs.declared.role.Wanted.{Wanted}
use Rattle.snapshot_loading.specs.declared.load.Read.{Read}
use Rattle.snapshot_loading.specs.Roles.{part_of, parts_of}
use Rattle.snapshot_loading.specs.Loading.{HasRead}
use Rattle.snapshot_loading.specs.Loading.HasRead.{nothing as nothing_read, block as block_read}
use Rattle.snapshot_loading.specs.Forests.{Forest, nothing, block, flat, named_in, mades, Fits}
use Rattle.snapshot_loading.specs.WholeLaws.{ForestIsUnique, IsRead, ReadIsForest, blocks_read}
use Rattle.snapshot_loading.proofs.Full.{take_first, drop_first}
use Rattle.snapshot_loading.proofs.Lists.{taken, dropped, fits_taken, fits_dropped}
use Rattle.snapshot_loading.proofs.Same.{same}

-- ---- the first of a forest, and the others

named_taken : (n : ℕ) (f : Forest) → named_in (taken n f) ≡ take n (named_in f)
named_taken zero f = refl
named_taken (suc n) nothing = refl
named_taken (suc n) (block part bytes below beside) = ap (λ (l : List (SnapshotPart × Key)). (part, name bytes) ∷ l) (named_taken n beside)

named_dropped : (n : ℕ) (f : Forest) → named_in (dropped n f) ≡ drop n (named_in f)
named_dropped zero f = refl
named_dropped (suc n) nothing = refl
named_dropped (suc n) (block part bytes below beside) = named_dropped n beside

flat_cut : (n : ℕ) (f : Forest) → flat f ≡ flat (taken n f) ++ flat (dropped n f)
flat_cut zero f = refl
flat_cut (suc n) nothing = refl
flat_cut (suc n) (block part bytes below beside) =
    ap (λ (l : List (SnapshotPart × List ℕ)). (part, bytes) ∷ flat below ++ l) (flat_cut n beside) ∙ ap (λ (l : List (SnapshotPart × List ℕ)). (part, bytes) ∷ l) (sym (append_assoc (flat below) (flat (taken n beside)) (flat (dropped n beside))))

-- ---- what was read

record IsForest (first : List Wanted) (read : List Read) : Type 0 where
  forest : Forest
  named : named_in forest ≡ parts_of first
  fits : Fits forest
  order : flat forest ≡ blocks_read read

forest_of : {first left : List Wanted} {read : List Read} → HasRead first read left → left ≡ [] → IsForest first read
forest_of nothing_read e = record { forest = nothing; named = sym (ap parts_of e); fits = tt; order = refl }
forest_of (block_read {role = role} {key = key} {todo = todo} {read = read} bytes named names is rest) e =
    let r = forest_of rest e in
    let n = length (parts_of named) in
    let all : named_in r.forest ≡ parts_of named ++ parts_of todo = r.named ∙ map-append (λ (w : Wanted). (part_of w.role, w.key)) named todo in
    let under : named_in (taken n r.forest) ≡ parts_of named = named_taken n r.forest ∙ ap (λ (l : List (SnapshotPart × Key)). take n l) all ∙ take_first (parts_of named) (parts_of todo) in
    let beside : named_in (dropped n r.forest) ≡ parts_of todo = named_dropped n r.forest ∙ ap (λ (l : List (SnapshotPart × Key)). drop n l) all ∙ drop_first (parts_of named) (parts_of todo) in
    record {
      forest = block (part_of role) bytes (taken n r.forest) (dropped n r.forest);
      named = ap (λ (k : Key). (part_of role, k) ∷ named_in (dropped n r.forest)) is ∙ ap (λ (l : List (SnapshotPart × Key)). (part_of role, key) ∷ l) beside;
      fits = (subst (λ (l : List (SnapshotPart × Key)). NamesParts (part_of role) bytes l) (sym under) names, fits_taken n r.forest r.fits, fits_dropped n r.forest r.fits);
      order = ap (λ (l : List (SnapshotPart × List ℕ)). (part_of role, bytes) ∷ l) (sym (flat_cut n r.forest) ∙ r.order);
    }

pub read_is_forest : ReadIsForest
read_is_forest root read h = let f = forest_of h refl in by f.forest f.named f.fits f.order
  where
    by : (forest : Forest) → named_in forest ≡ (Root, root) ∷ [] → Fits forest → flat forest ≡ blocks_read read → IsRead root read
    by nothing e fits order = cc
    by (block part bytes below (block p b u s)) e fits order = cc
    by (block part bytes below nothing) e fits order =
        let head : ◌≡◌ {A = SnapshotPart × Key} (part, name bytes) (Root, root) = cc in
        let is_root : part ≡ Root = ap (λ (p : SnapshotPart × Key). p.0) head in
        record {
          bytes = bytes;
          below = below;
          named = ap (λ (p : SnapshotPart × Key). p.1) head;
          fits = subst (λ (p : SnapshotPart). Fits (block p bytes below nothing)) is_root fits;
          order = subst (λ (p : SnapshotPart). flat (block p bytes below nothing) ≡ blocks_read read) is_root order;
        }

-- ---- in one way

pub reads_flat : (f : Forest) → readings (mades f) ≡ map (λ b. b.1) (flat f)
reads_flat nothing = refl
reads_flat (block part bytes below beside) =
    ap (λ (l : List (List ℕ)). bytes ∷ l) (ap (λ (l : List (List ℕ)). l ++ readings (mades beside)) (reads_flat below) ∙ ap (λ (l : List (List ℕ)). map (λ b. b.1) (flat below) ++ l) (reads_flat beside)
    ∙ sym (map-append (λ (b : SnapshotPart × List ℕ). b.1) (flat below) (flat beside)))

pub forest_is_unique : ForestIsUnique
forest_is_unique bytes others below under h k e =
    let f = block Root bytes below nothing in
    let g = block Root others under nothing in
    let reads : readings (mades f) ≡ readings (mades g) = reads_flat f ∙ e ∙ sym (reads_flat g) in
    let first : bytes ≡ others = by_first reads in
    let s = same f g h k (ap (λ (b : List ℕ). (Root, name b) ∷ []) first) [] [] (ap (λ (l : List (List ℕ)). l ++ []) reads) in
    (first, ap below_of s.forests)
  where
    below_of : Forest → Forest
    below_of nothing = nothing
    below_of (block part b u s) = u

    head_of : List (List ℕ) → List ℕ
    head_of [] = []
    head_of (b ∷ bs) = b

    by_first : readings (mades (block Root bytes below nothing)) ≡ readings (mades (block Root others under nothing)) → bytes ≡ others
    by_first r = ap head_of r
