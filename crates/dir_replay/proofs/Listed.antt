-- Entries that are borrowed in a row, copied one after the other.
use Rattle.std.proofs.Common.{◌≡◌, ℕ, ◌+◌, ◌<◌, List, [], ◌∷◌, ◌++◌, Bor, length, map, take, get_or, sym, ap, ◌∙◌}
use Rattle.std.proofs.lemmas.Grind.{take_at_read}
use Rattle.std.proofs.lemmas.List.{take-map, map-append}
use Rattle.ivy_base.specs.declared.key.Key.{Key}

abbrev pub lent : Bor (List ℕ) × Bor Key → List ℕ × Key
lent e = (e.0.now, e.1.now)

-- one more
pub one_listed : (all : List (Bor (List ℕ) × Bor Key)) (seen pairs more : List (List ℕ × Key)) (i : ℕ) (e : Bor (List ℕ) × Bor Key) (bytes : List ℕ)
    → map lent all ≡ seen → pairs ≡ take i seen → i < length all → e ≡ get_or all i e → bytes ≡ e.0.now → more ≡ pairs ++ (bytes, e.1.now) ∷ [] → more ≡ take (i + 1) seen
one_listed all seen pairs more i e bytes is told here at same pushed =
    pushed
    ∙ (λ j. (told ∙ ap (take i) (sym is) ∙ take-map lent i all) j ++ (same j, e.1.now) ∷ [])
    ∙ ap (λ x. map lent (take i all) ++ lent x ∷ []) at
    ∙ sym (map-append lent (take i all) (get_or all i e ∷ []))
    ∙ ap (map lent) (sym (take_at_read all i e here).1)
    ∙ sym (take-map lent (i + 1) all)
    ∙ ap (take (i + 1)) is
