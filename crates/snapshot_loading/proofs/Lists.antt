-- Lists are even.
use Rattle.std.proofs.Common.{◌≡◌, ℕ, zero, suc, ◌+◌, ◌<◌, ◌≤◌, Bool, true, false, List, [], ◌∷◌, length, map, take, drop, refl, sym, ap, ◌∙◌, subst, arith, length-drop}
use Rattle.std.specs.Prelude.{nat_le}
use Rattle.std.specs.List.{AllByRecursion}
use Rattle.std.specs.Prelude.{◌↔◌}
use Rattle.std.proofs.lemmas.Bool.{leb-true}
use Rattle.std.proofs.lemmas.List.{length-map, length-take}
use Rattle.ivy_base.specs.declared.key.Key.{Key}
use Rattle.ivy_base.specs.Naming.{name}
use Rattle.log_model.specs.Spelling.{IsKey}
use Rattle.snapshot_model.specs.Blocks.{AreNamed, list_block}
use Rattle.snapshot_model.specs.Spelling.{Made, over, made_name, list_made, list_blocks_over as listed, list_of, pieces, in_pieces}
use Rattle.snapshot_model.specs.Reading.{SnapshotPart, Listing, NamesParts, part_below}
use Rattle.snapshot_model.proofs.MadeLists.{is_key}
use Rattle.snapshot_loading.specs.Forests.{Forest, nothing, block, named_in, mades, Fits, joined, children, below_by, groups, AreFull, IsEven, IsLeast}
use Rattle.snapshot_loading.specs.WholeLaws.{EvenListsAreLists}
use Rattle.snapshot_loading.proofs.Forests.{AllAre, is_list, children_are, fits_children}
use Rattle.snapshot_loading.proofs.Even.{up, enough, not_enough, one_level, two_levels, three_levels}
use Rattle.snapshot_loading.proofs.Full.{pieces_full, two_pieces}
use Rattle.snapshot_loading.proofs.Same.{same_forest}

-- ---- forests in pieces

abbrev pub taken : ℕ → Forest → Forest
taken zero f = nothing
taken (suc n) nothing = nothing
taken (suc n) (block part bytes below beside) = block part bytes below (taken n beside)

abbrev pub dropped : ℕ → Forest → Forest
dropped zero f = f
dropped (suc n) nothing = nothing
dropped (suc n) (block part bytes below beside) = dropped n beside

mades_taken : (n : ℕ) (f : Forest) → mades (taken n f) ≡ take n (mades f)
mades_taken zero f = refl
mades_taken (suc n) nothing = refl
mades_taken (suc n) (block part bytes below beside) = ap (λ (ms : List Made). over bytes (mades below) ∷ ms) (mades_taken n beside)

mades_dropped : (n : ℕ) (f : Forest) → mades (dropped n f) ≡ drop n (mades f)
mades_dropped zero f = refl
mades_dropped (suc n) nothing = refl
mades_dropped (suc n) (block part bytes below beside) = mades_dropped n beside

pub fits_taken : (n : ℕ) (f : Forest) → Fits f → Fits (taken n f)
fits_taken zero f h = tt
fits_taken (suc n) nothing h = tt
fits_taken (suc n) (block part bytes below beside) h = (h.0, h.1, fits_taken n beside h.2)

pub fits_dropped : (n : ℕ) (f : Forest) → Fits f → Fits (dropped n f)
fits_dropped zero f h = h
fits_dropped (suc n) nothing h = tt
fits_dropped (suc n) (block part bytes below beside) h = fits_dropped n beside h.2

are_taken : (part : SnapshotPart) (n : ℕ) (f : Forest) → AllAre part f → AllAre part (taken n f)
are_taken part zero f h = tt
are_taken part (suc n) nothing h = tt
are_taken part (suc n) (block other bytes below beside) h = (h.0, are_taken part n beside h.1)

are_dropped : (part : SnapshotPart) (n : ℕ) (f : Forest) → AllAre part f → AllAre part (dropped n f)
are_dropped part zero f h = h
are_dropped part (suc n) nothing h = tt
are_dropped part (suc n) (block other bytes below beside) h = are_dropped part n beside h.1

rejoined : (n : ℕ) (f : Forest) → joined (taken n f) (dropped n f) ≡ f
rejoined zero f = refl
rejoined (suc n) nothing = refl
rejoined (suc n) (block part bytes below beside) = ap (λ (f : Forest). block part bytes below f) (rejoined n beside)

named_by_keys : (part : SnapshotPart) (f : Forest) → AllAre part f → named_in f ≡ map {B = SnapshotPart × Key} (λ k. (part, k)) (map made_name (mades f))
named_by_keys part nothing h = refl
named_by_keys part (block other bytes below beside) h = rw (h.0, named_by_keys part beside h.1) refl

-- ---- list blocks over a forest

keys_fit : (ms : List Made) → AllByRecursion IsKey (map made_name ms)
keys_fit [] = tt
keys_fit (m ∷ ms) = (is_key m.bytes, keys_fit ms)

abbrev pub list_over : ℕ → SnapshotPart → Forest → Forest → Forest
list_over level item below beside = block (Listing level item) (list_block level (map made_name (mades below))) below beside

pub names_list : (level : ℕ) (item : SnapshotPart) (below : Forest) → AllAre (part_below level item) below → 1 ≤ length (mades below) → length (mades below) ≤ 512
    → NamesParts (Listing level item) (list_block level (map made_name (mades below))) (named_in below)
names_list level item below are some few =
    let named : AreNamed (map made_name (mades below)) = record { some = omega (arith, length-map (mades below) made_name, some); few = omega (arith, length-map (mades below) made_name, few); each = keys_fit (mades below) } in
    (map made_name (mades below), record { fits = named; spelled = refl }, named_by_keys (part_below level item) below are)

-- the list blocks of that level over these, in full pieces
abbrev pub ups : ℕ → ℕ → SnapshotPart → Forest → Forest
ups zero level item f = nothing
ups (suc n) level item nothing = nothing
ups (suc n) level item (block part bytes below beside) = list_over level item (taken 512 (block part bytes below beside)) (ups n level item (dropped 512 (block part bytes below beside)))

pub record AreUp (level : ℕ) (item : SnapshotPart) (f : Forest) (n : ℕ) (g : Forest) : Type 0 where
  pub made : mades g ≡ map (list_made level) (pieces n 512 (mades f))
  pub grouped : groups g ≡ pieces n 512 (mades f)
  pub under : children g ≡ f
  pub fits : Fits g
  pub are : AllAre (Listing level item) g

size_of : (f : Forest) → ℕ
size_of f = length (mades f)

pub are_up : (n level : ℕ) (item : SnapshotPart) (f : Forest) → AllAre (part_below level item) f → Fits f → length (mades f) ≤ n → AreUp level item f n (ups n level item f)
are_up zero level item nothing are fits long = record { made = refl; grouped = refl; under = refl; fits = tt; are = tt }
are_up zero level item (block part bytes below beside) are fits long = absurd (omega (arith, long))
are_up (suc n) level item nothing are fits long = record { made = refl; grouped = refl; under = refl; fits = tt; are = tt }
are_up (suc n) level item (block part bytes below beside) are fits long =
    let f = block part bytes below beside in
    let here : mades (taken 512 f) ≡ take 512 (mades f) = mades_taken 512 f in
    let there : mades (dropped 512 f) ≡ drop 512 (mades f) = mades_dropped 512 f in
    let size_here : length (mades (taken 512 f)) ≡ length (take 512 (mades f)) = ap length here in
    let size_there : length (mades (dropped 512 f)) ≡ length (drop 512 (mades f)) = ap length there in
    let rest = are_up n level item (dropped 512 f) (are_dropped (part_below level item) 512 f are) (fits_dropped 512 f fits) (omega (arith, size_there, length-drop 512 (mades f), long)) in
    record {
      made = ap (λ (ms : List Made). list_made level ms ∷ mades (ups n level item (dropped 512 f))) here
          ∙ ap (λ (ms : List Made). list_made level (take 512 (mades f)) ∷ ms) (rest.made ∙ ap (λ (ms : List Made). map (list_made level) (pieces n 512 ms)) there);
      grouped = ap (λ (ms : List Made). ms ∷ groups (ups n level item (dropped 512 f))) here
          ∙ ap (λ (gs : List (List Made)). take 512 (mades f) ∷ gs) (rest.grouped ∙ ap (λ (ms : List Made). pieces n 512 ms) there);
      under = ap (λ (g : Forest). joined (taken 512 f) g) rest.under ∙ rejoined 512 f;
      fits = (names_list level item (taken 512 f) (are_taken (part_below level item) 512 f are) (omega (arith, size_here, length-take 512 (mades f))) (omega (arith, size_here, length-take 512 (mades f))), fits_taken 512 f fits, rest.fits);
      are = (refl, rest.are);
    }

-- ---- what a list of that level is

level_is : (l k : ℕ) (tops others : List Made) → ◌≡◌ {A = ℕ × List Made} (l, tops) (k, others) → l ≡ k
level_is l k tops others e = ap (λ (p : ℕ × List Made). p.0) e

tops_are : (l k : ℕ) (tops others : List Made) → ◌≡◌ {A = ℕ × List Made} (l, tops) (k, others) → tops ≡ others
tops_are l k tops others e = ap (λ (p : ℕ × List Made). p.1) e

pub some_up : (level : ℕ) (ms : List Made) → 512 < length ms → 2 ≤ length (up level ms)
some_up level ms many = let two = two_pieces 512 ms (omega arith) many in omega (arith, two, length-map (in_pieces 512 ms) (list_made level))

record HasTwo (ms tops : List Made) : Type 0 where
  many : 512 < length ms
  few : length (up 1 ms) ≤ 512
  top : list_made 2 (up 1 ms) ∷ [] ≡ tops

record HasThree (ms tops : List Made) : Type 0 where
  many : 512 < length ms
  more : 512 < length (up 1 ms)
  few : length (up 2 (up 1 ms)) ≤ 512
  top : list_made 3 (up 2 (up 1 ms)) ∷ [] ≡ tops

abbrev pub fits_one : List Made → Bool
fits_one ms = nat_le (length ms) 512

pub few_by : (ms : List Made) → fits_one ms ≡ true → length ms ≤ 512
few_by ms e = leb-true (length ms) 512 e

pub many_by : (ms : List Made) → fits_one ms ≡ false → 512 < length ms
many_by ms e = grind (arith, e)

no_level : (k : ℕ) (tops : List Made) → 1 ≤ k → list_of [] ≡ (k, tops) → ⊥
no_level k tops some e = let zero_is = level_is 0 k [] tops e in absurd (omega (arith, zero_is, some))

-- the last level has no block above
past : (level k : ℕ) (ms tops : List Made) → k < level → 512 < length ms → listed 1 level ms ≡ (k, tops) → ⊥
past level k ms tops less many e =
    let is : listed 1 level ms ≡ listed 0 (level + 1) (up level ms) = not_enough 0 level ms many in
    by (up level ms) (sym is ∙ e) (some_up level ms many)
  where
    by : (others : List Made) → listed 0 (level + 1) others ≡ (k, tops) → 2 ≤ length others → ⊥
    by [] f some = absurd (omega (arith, some))
    by (m ∷ others) f some = let is = level_is (level + 1) k [] tops f in absurd (omega (arith, is, less))

two_by : (ms tops : List Made) → list_of ms ≡ (2, tops) → HasTwo ms tops
two_by [] tops e = absurd (no_level 2 tops (omega arith) e)
two_by (m ∷ ms) tops e = by (fits_one (m ∷ ms)) refl
  where
    all : List Made
    all = m ∷ ms

    upper : (b : Bool) → fits_one (up 1 all) ≡ b → 512 < length all → HasTwo all tops
    upper true is many =
        let some = some_up 1 all many in
        let here : listed 3 1 all ≡ (2, list_made 2 (up 1 all) ∷ []) = not_enough 2 1 all many ∙ enough 1 2 (up 1 all) (omega (arith, some)) (few_by (up 1 all) is) in
        record { many = many; few = few_by (up 1 all) is; top = tops_are 2 2 (list_made 2 (up 1 all) ∷ []) tops (sym here ∙ e) }
    upper false is many =
        let more = many_by (up 1 all) is in
        let here : listed 3 1 all ≡ listed 1 3 (up 2 (up 1 all)) = not_enough 2 1 all many ∙ not_enough 1 2 (up 1 all) more in
        absurd (third (fits_one (up 2 (up 1 all))) refl more (sym here ∙ e))
      where
        third : (b : Bool) → fits_one (up 2 (up 1 all)) ≡ b → 512 < length (up 1 all) → listed 1 3 (up 2 (up 1 all)) ≡ (2, tops) → ⊥
        third true is more f =
            let some = some_up 2 (up 1 all) more in
            let l = level_is 3 2 (list_made 3 (up 2 (up 1 all)) ∷ []) tops (sym (enough 0 3 (up 2 (up 1 all)) (omega (arith, some)) (few_by (up 2 (up 1 all)) is)) ∙ f) in
            absurd (omega (arith, l))
        third false is more f = past 3 2 (up 2 (up 1 all)) tops (omega arith) (many_by (up 2 (up 1 all)) is) f

    by : (b : Bool) → fits_one all ≡ b → HasTwo all tops
    by true is = let l = level_is 1 2 (list_made 1 all ∷ []) tops (sym (enough 2 1 all (omega arith) (few_by all is)) ∙ e) in absurd (omega (arith, l))
    by false is = upper (fits_one (up 1 all)) refl (many_by all is)

three_by : (ms tops : List Made) → list_of ms ≡ (3, tops) → HasThree ms tops
three_by [] tops e = absurd (no_level 3 tops (omega arith) e)
three_by (m ∷ ms) tops e = by (fits_one (m ∷ ms)) refl
  where
    all : List Made
    all = m ∷ ms

    third : (b : Bool) → fits_one (up 2 (up 1 all)) ≡ b → 512 < length all → 512 < length (up 1 all) → listed 1 3 (up 2 (up 1 all)) ≡ (3, tops) → HasThree all tops
    third true is many more f =
        let some = some_up 2 (up 1 all) more in
        record { many = many; more = more; few = few_by (up 2 (up 1 all)) is; top = tops_are 3 3 (list_made 3 (up 2 (up 1 all)) ∷ []) tops (sym (enough 0 3 (up 2 (up 1 all)) (omega (arith, some)) (few_by (up 2 (up 1 all)) is)) ∙ f) }
    third false is many more f = absurd (beyond (up 2 (up 1 all)) (many_by (up 2 (up 1 all)) is) f)
      where
        beyond : (others : List Made) → 512 < length others → listed 1 3 others ≡ (3, tops) → ⊥
        beyond others lots g = by_top (up 3 others) (sym (not_enough 0 3 others lots) ∙ g) (some_up 3 others lots)
          where
            by_top : (rest : List Made) → listed 0 4 rest ≡ (3, tops) → 2 ≤ length rest → ⊥
            by_top [] h some = absurd (omega (arith, some))
            by_top (n ∷ rest) h some = let l = level_is 4 3 [] tops h in absurd (omega (arith, l))

    upper : (b : Bool) → fits_one (up 1 all) ≡ b → 512 < length all → HasThree all tops
    upper true is many =
        let some = some_up 1 all many in
        let l = level_is 2 3 (list_made 2 (up 1 all) ∷ []) tops (sym (not_enough 2 1 all many ∙ enough 1 2 (up 1 all) (omega (arith, some)) (few_by (up 1 all) is)) ∙ e) in
        absurd (omega (arith, l))
    upper false is many =
        let more = many_by (up 1 all) is in
        third (fits_one (up 2 (up 1 all))) refl many more (sym (not_enough 2 1 all many ∙ not_enough 1 2 (up 1 all) more) ∙ e)

    by : (b : Bool) → fits_one all ≡ b → HasThree all tops
    by true is = let l = level_is 1 3 (list_made 1 all ∷ []) tops (sym (enough 2 1 all (omega arith) (few_by all is)) ∙ e) in absurd (omega (arith, l))
    by false is = upper (fits_one (up 1 all)) refl (many_by all is)

-- ---- even

joined_nothing : (f : Forest) → joined f nothing ≡ f
joined_nothing nothing = refl
joined_nothing (block part bytes below beside) = ap (λ (g : Forest). block part bytes below g) (joined_nothing beside)

abbrev one_block : ℕ → SnapshotPart → List ℕ → Forest → Forest
one_block level item bytes below = block (Listing level item) bytes below nothing

pub child : (level : ℕ) (item : SnapshotPart) (bytes : List ℕ) (below : Forest) → children (one_block level item bytes below) ≡ below
child level item bytes below = joined_nothing below

-- a block that is made as this one is this one
is_made : (level : ℕ) (item : SnapshotPart) (bytes : List ℕ) (below made : Forest) → Fits (one_block level item bytes below) → AllAre (part_below level item) made → Fits made → 1 ≤ length (mades made) → length (mades made) ≤ 512
    → list_made level (mades made) ∷ [] ≡ mades (one_block level item bytes below) → below ≡ made
is_made level item bytes below made fits are made_fits some few e =
    let bytes_are : list_block level (map made_name (mades made)) ≡ bytes = cc_bytes e in
    let same_all : one_block level item bytes below ≡ list_over level item made nothing =
    same_forest (one_block level item bytes below) (list_over level item made nothing) fits (names_list level item made are some few, made_fits, tt)
    (ap (λ (b : List ℕ). (Listing level item, name b) ∷ []) (sym bytes_are)) (sym e) in
    ap below_of same_all
  where
    below_of : Forest → Forest
    below_of nothing = nothing
    below_of (block part b under beside) = under

    first_bytes : List Made → List ℕ
    first_bytes [] = []
    first_bytes (m ∷ ms) = m.bytes

    cc_bytes : list_made level (mades made) ∷ [] ≡ mades (one_block level item bytes below) → list_block level (map made_name (mades made)) ≡ bytes
    cc_bytes f = ap first_bytes f

module _ (item : SnapshotPart) where
  abbrev Even : ℕ → List ℕ → Forest → Type 0
  Even level bytes below = IsEven level (one_block level item bytes below) × IsLeast level (one_block level item bytes below)

  even_one : (bytes : List ℕ) (below : Forest) → Fits (one_block 1 item bytes below) → Even 1 bytes below
  even_one bytes below fits = let l = is_list 1 item bytes below fits.0 in (((l.some, l.few), tt), tt)

  even_two : (bytes : List ℕ) (below : Forest) → Fits (one_block 2 item bytes below) → list_of (mades (children below)) ≡ (2, mades (one_block 2 item bytes below)) → Even 2 bytes below
  even_two bytes below fits e =
      let l = is_list 2 item bytes below fits.0 in
      let h = two_by (mades (children below)) (mades (one_block 2 item bytes below)) e in
      let items = children below in
      let n = length (mades items) in
      let u = are_up n 1 item items (children_are 1 item below l.items fits.1) (fits_children below fits.1) (omega arith) in
      let g = ups n 1 item items in
      let count : length (mades g) ≡ length (up 1 (mades items)) = ap length u.made in
      let some = some_up 1 (mades items) h.many in
      let is : below ≡ g = is_made 2 item bytes below g fits u.are u.fits (omega (arith, count, some)) (omega (arith, count, h.few)) (ap (λ (ms : List Made). list_made 2 ms ∷ []) u.made ∙ h.top) in
      let full : AreFull 512 (groups below) = subst (λ (f : Forest). AreFull 512 (groups f)) (sym is) (subst (λ (gs : List (List Made)). AreFull 512 gs) (sym u.grouped) (pieces_full n 512 (mades items) (omega arith) (omega arith))) in
      let size : length (mades below) ≡ length (mades g) = ap (λ (f : Forest). length (mades f)) is in (
        ((l.some, l.few), (subst (λ (f : Forest). AreFull 512 (groups f)) (sym (child 2 item bytes below)) full, tt)),
        subst (λ (f : Forest). 2 ≤ length (mades f)) (sym (child 2 item bytes below)) (omega (arith, size, count, some)),
      )

  even_three : (bytes : List ℕ) (below : Forest) → Fits (one_block 3 item bytes below) → list_of (mades (children (children below))) ≡ (3, mades (one_block 3 item bytes below)) → Even 3 bytes below
  even_three bytes below fits e =
      let l = is_list 3 item bytes below fits.0 in
      let items = children (children below) in
      let h = three_by (mades items) (mades (one_block 3 item bytes below)) e in
      let n = length (mades items) in
      let are = children_are 2 item below l.items fits.1 in
      let fits_under = fits_children below fits.1 in
      let u = are_up n 1 item items (children_are 1 item (children below) are fits_under) (fits_children (children below) fits_under) (omega arith) in
      let g = ups n 1 item items in
      let k = length (mades g) in
      let v = are_up k 2 item g u.are u.fits (omega arith) in
      let t = ups k 2 item g in
      let tops : mades t ≡ up 2 (up 1 (mades items)) = v.made ∙ ap (λ (ms : List Made). up 2 ms) u.made in
      let count : length (mades t) ≡ length (up 2 (up 1 (mades items))) = ap length tops in
      let some = some_up 2 (up 1 (mades items)) h.more in
      let is : below ≡ t = is_made 3 item bytes below t fits v.are v.fits (omega (arith, count, some)) (omega (arith, count, h.few)) (ap (λ (ms : List Made). list_made 3 ms ∷ []) tops ∙ h.top) in
      let under : children below ≡ g = ap children is ∙ v.under in
      let full : AreFull 512 (groups below) = subst (λ (f : Forest). AreFull 512 (groups f)) (sym is) (subst (λ (gs : List (List Made)). AreFull 512 gs) (sym v.grouped) (pieces_full k 512 (mades g) (omega arith) (omega arith))) in
      let fuller : AreFull 512 (groups (children below)) = subst (λ (f : Forest). AreFull 512 (groups f)) (sym under) (subst (λ (gs : List (List Made)). AreFull 512 gs) (sym u.grouped) (pieces_full n 512 (mades items) (omega arith) (omega arith))) in
      let size : length (mades below) ≡ length (mades t) = ap (λ (f : Forest). length (mades f)) is in (
        ((l.some, l.few), subst (λ (f : Forest). IsEven 2 f) (sym (child 3 item bytes below)) (full, (fuller, tt))),
        subst (λ (f : Forest). 2 ≤ length (mades f)) (sym (child 3 item bytes below)) (omega (arith, size, count, some)),
      )

  abbrev Spelled : ℕ → List ℕ → Forest → Type 0
  Spelled level bytes below = list_of (mades (below_by level (one_block level item bytes below))) ≡ (level, mades (one_block level item bytes below))

  law_one : (bytes : List ℕ) (below : Forest) → Fits (one_block 1 item bytes below) → Even 1 bytes below ↔ Spelled 1 bytes below
  law_one bytes below fits =
      (λ even. ap (λ (f : Forest). list_of (mades f)) (child 1 item bytes below) ∙ one_level item bytes below fits, λ e. even_one bytes below fits)

  law_two : (bytes : List ℕ) (below : Forest) → Fits (one_block 2 item bytes below) → Even 2 bytes below ↔ Spelled 2 bytes below
  law_two bytes below fits =
      let down : children (children (one_block 2 item bytes below)) ≡ children below = ap children (child 2 item bytes below) in (
        λ even. ap (λ (f : Forest). list_of (mades f)) down ∙ two_levels item bytes below fits
            (subst (λ (f : Forest). AreFull 512 (groups f)) (child 2 item bytes below) even.0.1.0) (subst (λ (f : Forest). 2 ≤ length (mades f)) (child 2 item bytes below) even.1),
        λ e. even_two bytes below fits (ap (λ (f : Forest). list_of (mades f)) (sym down) ∙ e),
      )

  law_three : (bytes : List ℕ) (below : Forest) → Fits (one_block 3 item bytes below) → Even 3 bytes below ↔ Spelled 3 bytes below
  law_three bytes below fits =
      let down : children (children (children (one_block 3 item bytes below))) ≡ children (children below) = ap (λ (f : Forest). children (children f)) (child 3 item bytes below) in (
        λ even.
            let levels = subst (λ (f : Forest). IsEven 2 f) (child 3 item bytes below) even.0.1 in
            ap (λ (f : Forest). list_of (mades f)) down ∙ three_levels item bytes below fits levels.0 levels.1.0 (subst (λ (f : Forest). 2 ≤ length (mades f)) (child 3 item bytes below) even.1),
        λ e. even_three bytes below fits (ap (λ (f : Forest). list_of (mades f)) (sym down) ∙ e),
      )

pub even_lists_are_lists : EvenListsAreLists
even_lists_are_lists item zero bytes below some few fits = absurd (omega (arith, some))
even_lists_are_lists item (suc zero) bytes below some few fits = law_one item bytes below fits
even_lists_are_lists item (suc (suc zero)) bytes below some few fits = law_two item bytes below fits
even_lists_are_lists item (suc (suc (suc zero))) bytes below some few fits = law_three item bytes below fits
even_lists_are_lists item (suc (suc (suc (suc level)))) bytes below some few fits = absurd (omega (arith, few))
