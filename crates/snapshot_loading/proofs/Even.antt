-- Even list blocks are the list over what is at their bottom.
use Rattle.std.proofs.Common.{◌≡◌, ℕ, suc, ◌+◌, ◌<◌, ◌≤◌, Bool, true, false, List, [], ◌∷◌, length, map, refl, sym, ap, ◌∙◌, subst, arith}
use Rattle.std.specs.Prelude.{nat_le, if◌then◌else◌}
use Rattle.std.proofs.lemmas.List.{length-map}
use Rattle.std.proofs.lemmas.Bool.{leb-true}
use Rattle.snapshot_model.specs.Spelling.{Made, list_made, list_blocks_over, list_of, in_pieces}
use Rattle.snapshot_model.specs.Reading.{SnapshotPart, Listing}
use Rattle.snapshot_model.proofs.Pieces.{few_pieces}
use Rattle.snapshot_loading.specs.Forests.{Forest, nothing, block, mades, Fits, children, groups, AreFull}
use Rattle.snapshot_loading.proofs.Forests.{AllAre, is_list, lists_made, children_are, fits_children, mades_children}
use Rattle.snapshot_loading.proofs.Full.{full_pieces}

-- the list blocks of that level over such blocks
abbrev pub up : ℕ → List Made → List Made
up level ms = map (list_made level) (in_pieces 512 ms)

pub even_up : (level : ℕ) (item : SnapshotPart) (f : Forest) → AllAre (Listing level item) f → Fits f → AreFull 512 (groups f) → mades f ≡ up level (mades (children f))
even_up level item f are fits full =
    lists_made level item f are fits ∙ ap (λ (gs : List (List Made)). map (list_made level) gs) (sym (full_pieces 512 (groups f) (omega arith) full)) ∙ ap (λ (ms : List Made). up level ms) (sym (mades_children f))

-- more than one block has more than 512 below
many_below : (level : ℕ) (ms : List Made) → 2 ≤ length (up level ms) → 512 < length ms
many_below level ms h = by (nat_le (length ms) 512) refl
  where
    by : (b : Bool) → nat_le (length ms) 512 ≡ b → 512 < length ms
    by true e =
        let few = few_pieces (length ms) 512 ms 1 (omega (arith, leb-true (length ms) 512 e)) in
        let count = length-map (in_pieces 512 ms) (list_made level) in
        absurd (omega (arith, h, few, count))
    by false e = grind (arith, e)

-- one block is enough, or not
pub enough : (n level : ℕ) (ms : List Made) → 1 ≤ length ms → length ms ≤ 512 → list_blocks_over (suc n) level ms ≡ (level, list_made level ms ∷ [])
enough n level [] some few = absurd (omega (arith, some))
enough n level (m ∷ ms) some few = let is : nat_le (length (m ∷ ms)) 512 ≡ true = grind (arith, few) in ap (λ (b : Bool). if b then (level, list_made level (m ∷ ms) ∷ []) else list_blocks_over n (level + 1) (up level (m ∷ ms))) is

pub not_enough : (n level : ℕ) (ms : List Made) → 512 < length ms → list_blocks_over (suc n) level ms ≡ list_blocks_over n (level + 1) (up level ms)
not_enough n level [] many = absurd (omega (arith, many))
not_enough n level (m ∷ ms) many = let is : nat_le (length (m ∷ ms)) 512 ≡ false = grind (arith, many) in ap (λ (b : Bool). if b then (level, list_made level (m ∷ ms) ∷ []) else list_blocks_over n (level + 1) (up level (m ∷ ms))) is

module _ (item : SnapshotPart) where
  -- ---- by levels

  pub one_level : (bytes : List ℕ) (below : Forest) → Fits (block (Listing 1 item) bytes below nothing) → list_of (mades below) ≡ (1, mades (block (Listing 1 item) bytes below nothing))
  one_level bytes below fits =
      let l = is_list 1 item bytes below fits.0 in
      enough 2 1 (mades below) l.some l.few ∙ ap (λ (m : Made). (1, m ∷ [])) (sym l.spelled)

  pub two_levels : (bytes : List ℕ) (below : Forest) → Fits (block (Listing 2 item) bytes below nothing) → AreFull 512 (groups below) → 2 ≤ length (mades below)
      → list_of (mades (children below)) ≡ (2, mades (block (Listing 2 item) bytes below nothing))
  two_levels bytes below fits full least =
      let l = is_list 2 item bytes below fits.0 in
      let first : mades below ≡ up 1 (mades (children below)) = even_up 1 item below l.items fits.1 full in
      not_enough 2 1 (mades (children below)) (many_below 1 (mades (children below)) (subst (λ (ms : List Made). 2 ≤ length ms) first least))
      ∙ ap (λ (ms : List Made). list_blocks_over 2 2 ms) (sym first) ∙ enough 1 2 (mades below) l.some l.few ∙ ap (λ (m : Made). (2, m ∷ [])) (sym l.spelled)

  pub three_levels : (bytes : List ℕ) (below : Forest) → Fits (block (Listing 3 item) bytes below nothing) → AreFull 512 (groups below) → AreFull 512 (groups (children below)) → 2 ≤ length (mades below)
      → list_of (mades (children (children below))) ≡ (3, mades (block (Listing 3 item) bytes below nothing))
  three_levels bytes below fits full fuller least =
      let l = is_list 3 item bytes below fits.0 in
      let second : mades below ≡ up 2 (mades (children below)) = even_up 2 item below l.items fits.1 full in
      let first : mades (children below) ≡ up 1 (mades (children (children below))) = even_up 1 item (children below) (children_are 2 item below l.items fits.1) (fits_children below fits.1) fuller in
      let many : 512 < length (mades (children below)) = many_below 2 (mades (children below)) (subst (λ (ms : List Made). 2 ≤ length ms) second least) in
      not_enough 2 1 (mades (children (children below))) (many_below 1 (mades (children (children below))) (subst (λ (ms : List Made). 2 ≤ length ms) first (omega (arith, many))))
      ∙ ap (λ (ms : List Made). list_blocks_over 2 2 ms) (sym first) ∙ not_enough 1 2 (mades (children below)) many ∙ ap (λ (ms : List Made). list_blocks_over 1 3 ms) (sym second)
      ∙ enough 0 3 (mades below) l.some l.few ∙ ap (λ (m : Made). (3, m ∷ [])) (sym l.spelled)
