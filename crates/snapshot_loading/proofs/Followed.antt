-- Where names tell blocks apart, what is read by a made snapshot's names are its blocks.
use Rattle.std.proofs.Common.{◌≡◌, ℕ, List, [], ◌∷◌, ◌++◌, refl, sym, ap, ◌∙◌, subst, append-nil, Contains}
use Rattle.std.specs.List.{AllByRecursion}
use Rattle.std.proofs.lemmas.List.{map-append}
use Rattle.std.proofs.lemmas.Grind.{flat_map-append}
use Rattle.std.proofs.lemmas.List.Elements.{Contains-append_left, Contains-append_right}
use Rattle.ivy_base.specs.declared.key.Key.{Key}
use Rattle.ivy_base.specs.Naming.{name, IsCollisionFree}
use Rattle.log_model.proofs.Lists.{each_from}
use Rattle.snapshot_model.specs.Spelling.{Made, over, made_name, snapshot_named}
use Rattle.snapshot_model.specs.Reading.{SnapshotPart, Root, NamesParts}
use Rattle.snapshot_model.proofs.MadeLists.{readings}
use Rattle.snapshot_model.proofs.OneNames.{names_are_unique}
use Rattle.snapshot_loading.specs.declared.role.Wanted.{Wanted}
use Rattle.snapshot_loading.specs.declared.load.Read.{Read}
use Rattle.snapshot_loading.specs.Roles.{part_of, parts_of}
use Rattle.snapshot_loading.specs.Loading.{HasRead, bytes_of, root_alone}
use Rattle.snapshot_loading.specs.Loading.HasRead.{nothing, block}
use Rattle.snapshot_loading.specs.Laws.{MadeIsLoaded}
use Rattle.snapshot_loading.proofs.Fits.{FitAll, names_of, mades, fit_both, snapshot_fits}
use Rattle.snapshot_loading.proofs.Fits.FitAll.{none, and}

-- these blocks were read, and those are left
record Follows (ms : List (SnapshotPart × Made)) (read : List Read) (todo : List Wanted) : Type 0 where
  left : List (SnapshotPart × Made)
  named : parts_of todo ≡ names_of left
  blocks : readings (mades ms) ≡ bytes_of read ++ readings (mades left)

-- the blocks below come before the others
reading_of : (bytes : List ℕ) (below rest : List (SnapshotPart × Made)) → bytes ∷ readings (mades (below ++ rest)) ≡ (over bytes (mades below)).reading ++ readings (mades rest)
reading_of bytes below rest =
    ap (λ (l : List (List ℕ)). bytes ∷ l)
    (ap readings (map-append (λ (p : SnapshotPart × Made). p.1) below rest) ∙ flat_map-append (λ (m : Made). m.reading) (mades below) (mades rest))

module _ (met : List (List ℕ)) (apart : IsCollisionFree met) where
  abbrev AreMet : List (List ℕ) → Type 0
  AreMet blocks = AllByRecursion (Contains met) blocks

  follow : {first todo : List Wanted} {read : List Read} → HasRead first read todo → {ms : List (SnapshotPart × Made)} → FitAll ms → parts_of first ≡ names_of ms → AreMet (bytes_of read) → AreMet (readings (mades ms))
      → Follows ms read todo
  follow nothing {ms = ms} fit e here there = record { left = ms; named = e; blocks = refl }
  follow (block bytes named names is more) none e here there = cc
  follow (block {role = role} {key = key} {todo = todo} {left = left} {read = read} bytes named names is more) (and {part = part} {rest = rest} made below names_made fit fits) e here there =
      let head : ◌≡◌ {A = SnapshotPart × Key} (part_of role, key) (part, name made) = cc in
      let tail : parts_of todo ≡ names_of rest = cc in
      let same_part : part_of role ≡ part = ap (λ (p : SnapshotPart × Key). p.0) head in
      let same_key : key ≡ name made = ap (λ (p : SnapshotPart × Key). p.1) head in
      let same : bytes ≡ made = apart bytes made here.0 there.0 (is ∙ same_key) in
      let one : parts_of named ≡ names_of below = names_are_unique part made (parts_of named) (names_of below)
      (subst (λ (b : List ℕ). NamesParts part b (parts_of named)) same (subst (λ (p : SnapshotPart). NamesParts p bytes (parts_of named)) same_part names)) names_made in
      let next = follow more (fit_both fit fits)
      (map-append (λ (w : Wanted). (part_of w.role, w.key)) named todo ∙ ap (λ (l : List (SnapshotPart × Key)). l ++ parts_of todo) one ∙ ap (λ (l : List (SnapshotPart × Key)). names_of below ++ l) tail
      ∙ sym (map-append (λ (p : SnapshotPart × Made). (p.0, made_name p.1)) below rest))
      here.1 (subst (λ (l : List (List ℕ)). AreMet l) (sym (ap readings (map-append (λ (p : SnapshotPart × Made). p.1) below rest) ∙ flat_map-append (λ (m : Made). m.reading) (mades below) (mades rest))) there.1) in
      record {
        left = next.left;
        named = next.named;
        blocks = sym (reading_of made below rest) ∙ ap (λ (b : List ℕ). b ∷ readings (mades (below ++ rest))) (sym same) ∙ ap (λ (l : List (List ℕ)). bytes ∷ l) next.blocks;
      }

nothing_left : (ms : List (SnapshotPart × Made)) → [] ≡ names_of ms → readings (mades ms) ≡ []
nothing_left [] e = refl
nothing_left (p ∷ ms) e = cc

pub made_is_loaded : MadeIsLoaded
made_is_loaded view b l read key whole spelled named apart has =
    let reading = (snapshot_named view b).reading in
    let met = bytes_of read ++ reading in
    let end : readings (snapshot_named view b ∷ []) ≡ reading = append-nil reading in
    let first : parts_of (root_alone l.root) ≡ names_of ((Root, snapshot_named view b) ∷ []) = ap (λ (k : Key). (Root, k) ∷ []) named in
    let f = follow met apart has.whole (snapshot_fits view b key whole spelled) first
    (each_from (Contains met) (bytes_of read) (λ x c. Contains-append_left (bytes_of read) reading x c))
    (subst (λ (blocks : List (List ℕ)). AllByRecursion (Contains met) blocks) (sym end) (each_from (Contains met) reading (λ x c. Contains-append_right (bytes_of read) reading x c))) in
    let all : reading ≡ bytes_of read = sym end ∙ f.blocks ∙ ap (λ (r : List (List ℕ)). bytes_of read ++ r) (nothing_left f.left f.named) ∙ append-nil (bytes_of read) in
    has.of_one b (record { whole = whole; bounds = spelled; view = view; is_key = key; spelled = all })
