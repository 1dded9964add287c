-- How loading ends.
use Rattle.std.proofs.Common.{◌≡◌, ℕ, List, [], ◌∷◌, map, refl, sym, ap, ◌∙◌, subst}
use Rattle.snapshot_model.specs.Reading.{SnapshotPart, Root, AreOf}
use Rattle.snapshot_loading.specs.declared.load.Read.{Read}
use Rattle.snapshot_loading.specs.Loading.{bytes_of}
use Rattle.snapshot_loading.specs.Forests.{nothing, block, flat}
use Rattle.snapshot_loading.specs.WholeLaws.{LoadingEnds, blocks_read}
use Rattle.snapshot_loading.proofs.OneForest.{read_is_forest}
use Rattle.snapshot_loading.proofs.Canon.{loaded_is_shown}
use Rattle.snapshot_loading.proofs.SoundTrees.{whole_trees_are_sound}

bytes_read : (read : List Read) → map (λ p. p.1) (blocks_read read) ≡ bytes_of read
bytes_read [] = refl
bytes_read (r ∷ read) = ap (λ (l : List (List ℕ)). r.bytes ∷ l) (bytes_read read)

pub loading_ends : LoadingEnds
loading_ends l read h =
    let w = read_is_forest l.root read h.whole in
    let same : map (λ p. p.1) (flat (block Root w.bytes w.below nothing)) ≡ bytes_of read = ap (λ (bs : List (SnapshotPart × List ℕ)). map (λ p. p.1) bs) w.order ∙ bytes_read read in
    record {
      whole = w;
      of_one = λ b sound spelled shows.
          h.of_one b (subst (λ (bs : List (List ℕ)). AreOf bs b) same ((loaded_is_shown w.bytes w.below b w.fits).1 ((whole_trees_are_sound b.tree).1 sound, spelled, shows)));
      of_none = λ none. h.of_none (λ b are.
          let shown = (loaded_is_shown w.bytes w.below b w.fits).0 (subst (λ (bs : List (List ℕ)). AreOf bs b) (sym same) are) in
          none b ((whole_trees_are_sound b.tree).0 shown.0) shown.1 shown.2);
    }
