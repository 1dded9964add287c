-- Blocks that are put one after the other.
use Rattle.std.proofs.Common.{◌≡◌, ℕ, List, [], ◌∷◌, ◌++◌, sym, ap, ◌∙◌}
use Rattle.std.specs.List.{flat_map, fold}
use Rattle.std.proofs.lemmas.List.{append-nil}
use Rattle.std.proofs.lemmas.List.Sums.{fold-append}
use Rattle.std.proofs.lemmas.Grind.{flat_map-append}
use Rattle.snapshot_model.specs.Spelling.{Made, over, with_block}
use Rattle.snapshot_store.specs.Puts.{put_all}

abbrev puttings : List Made → List (List ℕ)
puttings ms = flat_map (λ (m : Made). m.putting) ms

-- some and then others are put as all
pub put_both : (before : List (List ℕ)) (xs ys : List Made) → put_all (put_all before xs) ys ≡ put_all before (xs ++ ys)
put_both before xs ys = sym (fold-append with_block before (puttings xs) (puttings ys)) ∙ ap (fold with_block before) (sym (flat_map-append (λ (m : Made). m.putting) xs ys))

-- a block over others is put after them
pub put_above : (before : List (List ℕ)) (below : List Made) (bytes : List ℕ) → with_block (put_all before below) bytes ≡ put_all before (over bytes below ∷ [])
put_above before below bytes =
    sym (fold-append with_block before (puttings below) (bytes ∷ []))
    ∙ ap (fold with_block before) (sym (append-nil (puttings below ++ bytes ∷ [])))

-- likewise where further ones were put before
pub put_over : (before : List (List ℕ)) (others below : List Made) (bytes : List ℕ) → with_block (put_all before (others ++ below)) bytes ≡ put_all before (others ++ over bytes below ∷ [])
put_over before others below bytes =
    ap (λ blocks. with_block blocks bytes) (sym (put_both before others below))
    ∙ put_above (put_all before others) below bytes
    ∙ put_both before others (over bytes below ∷ [])
