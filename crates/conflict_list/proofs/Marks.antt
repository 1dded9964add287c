-- What touches a record has a mark under which that record looks.
use Rattle.std.proofs.Common.{◌≡◌, ◌⊎◌, inl, inr, ⊎_elim, ℕ, ◌+◌, ◌-◌, ◌/◌, ◌<◌, ◌≤◌, Bool, true, false, cond, ◌||◌, ◌==◌, List, [], ◌∷◌, length, map, Option, Some, None, refl, sym, ap, ◌∙◌, subst, arith, Contains, leb-true, ltb-true}
use Rattle.ivy_base.specs.declared.key.Key.{Key}
use Rattle.ivy_base.specs.declared.operation.Change.{Change}
use Rattle.ivy_base.specs.declared.operation.Op.{Op}
use Rattle.ivy_base.specs.declared.operation.Op.TheVariants as op
use Rattle.tree_model.specs.Tree.{Place}
use Rattle.log_model.specs.Spelling.{OperationFits}
use Rattle.log_model.proofs.Lists.{here, there, in_cons, in_nothing, or_cases}
use Rattle.std.specs.Prelude.{max, nat_le, nat_lt, option_map}
use Rattle.std.proofs.lemmas.Bool.{eqb-true}
use Rattle.std.proofs.lemmas.Bool.Decides.{leb_tells}
use Rattle.tree_model.proofs.Sound.{both_true}
use Rattle.conflict_list.proofs.Shared.{in_both, meet}
use Rattle.log_model.specs.Touching.{Span, overlap, places, share_bytes, share_entry, span, spans_overlap}
use Rattle.conflict_list.specs.Marks.{Mark, Cut, Entry, Page, Written, all_bytes, both_pages, cut, looks, marks, page, pages}

in_entries : (ps : List Place) (p : Place) → Contains ps p → Contains (map Entry ps) (Entry p)
in_entries [] p c = absurd (in_nothing p c)
in_entries (q ∷ ps) p c = ⊎_elim
    (λ e. subst (λ (z : Place). Contains (map Entry (q ∷ ps)) (Entry z)) e (here (Entry q) (map Entry ps)))
    (λ d. there (Entry q) (map Entry ps) (Entry p) (in_entries ps p d)) (in_cons q ps p c)

pub place_is_marked : (o : Op) (p : Place) → Contains (places o) p → Contains (marks o) (Entry p)
place_is_marked (op.Inode number kind mode uid gid target) p c = absurd (in_nothing p c)
place_is_marked (op.Write number offset bytes) p c = absurd (in_nothing p c)
place_is_marked (op.Link dir name number) p c = in_entries ((dir, name) ∷ []) p c
place_is_marked (op.Unlink dir name) p c = in_entries ((dir, name) ∷ []) p c
place_is_marked (op.Rename dir name to_dir to_name) p c = in_entries ((dir, name) ∷ (to_dir, to_name) ∷ []) p c
place_is_marked (op.Prepare dir name verifier) p c = absurd (in_nothing p c)
place_is_marked (op.Cancel seq) p c = absurd (in_nothing p c)
place_is_marked (op.SetAttrs number change) p c = absurd (in_nothing p c)
place_is_marked op.End p c = absurd (in_nothing p c)

pub place_is_looked_for : (o : Op) (p : Place) → Contains (places o) p → Contains (looks o) (Entry p)
place_is_looked_for (op.Inode number kind mode uid gid target) p c = absurd (in_nothing p c)
place_is_looked_for (op.Write number offset bytes) p c = absurd (in_nothing p c)
place_is_looked_for (op.Link dir name number) p c = in_entries ((dir, name) ∷ []) p c
place_is_looked_for (op.Unlink dir name) p c = in_entries ((dir, name) ∷ []) p c
place_is_looked_for (op.Rename dir name to_dir to_name) p c = in_entries ((dir, name) ∷ (to_dir, to_name) ∷ []) p c
place_is_looked_for (op.Prepare dir name verifier) p c = absurd (in_nothing p c)
place_is_looked_for (op.Cancel seq) p c = absurd (in_nothing p c)
place_is_looked_for (op.SetAttrs number change) p c = absurd (in_nothing p c)
place_is_looked_for op.End p c = absurd (in_nothing p c)

-- a place of at most 8,192 bytes is in the piece of the first or of the last
one_of_two : (a n b : ℕ) → a ≤ n → n < b → b ≤ a + 8192 → (n / 8192 ≡ a / 8192) ⊎ (n / 8192 ≡ (b - 1) / 8192)
one_of_two a n b low high short = ⊎_elim (λ k. inl (omega (arith, k.1, low))) (λ k. inr (omega (arith, k.1, low, high, short))) (leb_tells (n / 8192) (a / 8192))

in_both_pages : (file : Key) (first last k : ℕ) → (k ≡ first) ⊎ (k ≡ last) → Contains (both_pages file first last) (Page file k)
in_both_pages file first last k w = by (first == last) refl w
  where
    by : (b : Bool) → (first == last) ≡ b → (k ≡ first) ⊎ (k ≡ last) → Contains (Page file first ∷ cond b [] (Page file last ∷ [])) (Page file k)
    by b e (inl h) = subst (λ (n : ℕ). Contains (Page file first ∷ cond b [] (Page file last ∷ [])) (Page file n)) (sym h) (here (Page file first) (cond b [] (Page file last ∷ [])))
    by true e (inr h) = subst (λ (n : ℕ). Contains (Page file first ∷ []) (Page file n)) (eqb-true first last e ∙ sym h) (here (Page file first) [])
    by false e (inr h) = subst (λ (n : ℕ). Contains (Page file first ∷ Page file last ∷ []) (Page file n)) (sym h) (there (Page file first) (Page file last ∷ []) (Page file last) (here (Page file last) []))

in_pages : (file : Key) (offset n : ℕ) (bytes : List ℕ) → offset ≤ n → n < offset + length bytes → length bytes ≤ 8192 → Contains (pages file offset bytes) (Page file (page n))
in_pages file offset n bytes low high short = in_both_pages file (page offset) (page (offset + length bytes - 1)) (page n) (one_of_two offset n (offset + length bytes) low high (omega (arith, short)))

abbrev Meet : Op → Op → Type 0
Meet o p = (m : Mark) × Contains (looks o) m × Contains (marks p) m

writes_meet : (f g : Key) (a c : ℕ) (bs ds : List ℕ) → length bs ≤ 8192 → length ds ≤ 8192 → share_bytes (op.Write f a bs) (op.Write g c ds) ≡ true → Meet (op.Write f a bs) (op.Write g c ds)
writes_meet f g a c bs ds short_b short_d h =
    let one : Span = record { file = f; start = a; end = Some (a + length bs) } in
    let other : Span = record { file = g; start = c; end = Some (c + length ds) } in
    let k = meet one other h in
    let n = max a c in
    let p = both_true (nat_le a n) (nat_lt n (a + length bs)) k.1 in
    let q = both_true (nat_le c n) (nat_lt n (c + length ds)) k.2 in (
      Page f (page n),
      there (Cut f) (pages f a bs) (Page f (page n)) (in_pages f a n bs (leb-true a n p.0) (ltb-true n (a + length bs) p.1) short_b),
      there (Written g) (pages g c ds) (Page f (page n)) (subst (λ (file : Key). Contains (pages g c ds) (Page file (page n))) (sym k.0) (in_pages g c n ds (leb-true c n q.0) (ltb-true n (c + length ds) q.1) short_d)),
    )

write_meets_size : (f g : Key) (a : ℕ) (bs : List ℕ) (change : Change) (size : Option ℕ) → change.size ≡ size → share_bytes (op.Write f a bs) (op.SetAttrs g change) ≡ true → Meet (op.Write f a bs) (op.SetAttrs g change)
write_meets_size f g a bs change None e h = (let t : share_bytes (op.Write f a bs) (op.SetAttrs g change) ≡ false = ap (λ (s : Option ℕ). spans_overlap (span (op.Write f a bs)) (option_map (λ size. record { file = g; start = size; end = None }) s)) e in cc)
write_meets_size f g a bs change (Some size) e h =
    let one : Span = record { file = f; start = a; end = Some (a + length bs) } in
    let other : Span = record { file = g; start = size; end = None } in
    let told : overlap one other ≡ true = subst (λ (s : Option ℕ). spans_overlap (Some one) (option_map (λ size. record { file = g; start = size; end = None }) s) ≡ true) e h in
    let k = meet one other told in
    (Cut f, here (Cut f) (pages f a bs), subst (λ (s : Option ℕ). Contains (cut g s) (Cut f)) (sym e) (subst (λ (file : Key). Contains (Cut g ∷ []) (Cut file)) (sym k.0) (here (Cut g) [])))

size_meets_write : (f g : Key) (change : Change) (size : Option ℕ) (c : ℕ) (ds : List ℕ) → change.size ≡ size → share_bytes (op.SetAttrs f change) (op.Write g c ds) ≡ true → Meet (op.SetAttrs f change) (op.Write g c ds)
size_meets_write f g change None c ds e h = (let t : share_bytes (op.SetAttrs f change) (op.Write g c ds) ≡ false = ap (λ (s : Option ℕ). spans_overlap (option_map (λ size. record { file = f; start = size; end = None }) s) (span (op.Write g c ds))) e in cc)
size_meets_write f g change (Some size) c ds e h =
    let one : Span = record { file = f; start = size; end = None } in
    let other : Span = record { file = g; start = c; end = Some (c + length ds) } in
    let told : overlap one other ≡ true = subst (λ (s : Option ℕ). spans_overlap (option_map (λ size. record { file = f; start = size; end = None }) s) (Some other) ≡ true) e h in
    let k = meet one other told in
    (Written f, subst (λ (s : Option ℕ). Contains (all_bytes f s) (Written f)) (sym e) (there (Cut f) (Written f ∷ []) (Written f) (here (Written f) [])), subst (λ (file : Key). Contains (Written g ∷ pages g c ds) (Written file)) (sym k.0) (here (Written g) (pages g c ds)))

sizes_meet : (f g : Key) (change other : Change) (size more : Option ℕ) → change.size ≡ size → other.size ≡ more → share_bytes (op.SetAttrs f change) (op.SetAttrs g other) ≡ true → Meet (op.SetAttrs f change) (op.SetAttrs g other)
sizes_meet f g change other size more e d h =
    by size more e d (subst (λ (s : Option ℕ). spans_overlap (option_map (λ size. record { file = f; start = size; end = None }) s) (option_map (λ size. record { file = g; start = size; end = None }) more) ≡ true) e
    (subst (λ (s : Option ℕ). spans_overlap (option_map (λ size. record { file = f; start = size; end = None }) change.size) (option_map (λ size. record { file = g; start = size; end = None }) s) ≡ true) d h))
  where
    by : (size more : Option ℕ) → change.size ≡ size → other.size ≡ more → spans_overlap (option_map (λ size. record { file = f; start = size; end = None }) size) (option_map (λ size. record { file = g; start = size; end = None }) more) ≡ true → Meet (op.SetAttrs f change) (op.SetAttrs g other)
    by None more e d t = cc
    by (Some n) None e d t = cc
    by (Some n) (Some m) e d t =
        let k = meet (record { file = f; start = n; end = None }) (record { file = g; start = m; end = None }) t in
        (Cut f, subst (λ (s : Option ℕ). Contains (all_bytes f s) (Cut f)) (sym e) (here (Cut f) (Written f ∷ [])), subst (λ (s : Option ℕ). Contains (cut g s) (Cut f)) (sym d) (subst (λ (file : Key). Contains (Cut g ∷ []) (Cut file)) (sym k.0) (here (Cut g) [])))

pub entry_is_found : (o p : Op) → share_entry o p ≡ true → Meet o p
entry_is_found o p h = let w = in_both o p h in (Entry w.0, place_is_looked_for o w.0 w.1, place_is_marked p w.0 w.2)

nothing_else : (x : Option Span) → spans_overlap x None ≡ true → ⊥
nothing_else None h = cc
nothing_else (Some a) h = cc

nothing_first : (x : Option Span) → spans_overlap None x ≡ true → ⊥
nothing_first None h = cc
nothing_first (Some a) h = cc

write_finds : (f : Key) (a : ℕ) (bs : List ℕ) (p : Op) → length bs ≤ 8192 → OperationFits p → share_bytes (op.Write f a bs) p ≡ true → Meet (op.Write f a bs) p
write_finds f a bs (op.Inode number kind mode uid gid target) short fits h = absurd (nothing_else (span (op.Write f a bs)) h)
write_finds f a bs (op.Write g c ds) short fits h = writes_meet f g a c bs ds short fits.2 h
write_finds f a bs (op.Link dir name number) short fits h = absurd (nothing_else (span (op.Write f a bs)) h)
write_finds f a bs (op.Unlink dir name) short fits h = absurd (nothing_else (span (op.Write f a bs)) h)
write_finds f a bs (op.Rename dir name to_dir to_name) short fits h = absurd (nothing_else (span (op.Write f a bs)) h)
write_finds f a bs (op.Prepare dir name verifier) short fits h = absurd (nothing_else (span (op.Write f a bs)) h)
write_finds f a bs (op.Cancel seq) short fits h = absurd (nothing_else (span (op.Write f a bs)) h)
write_finds f a bs (op.SetAttrs g change) short fits h = write_meets_size f g a bs change change.size refl h
write_finds f a bs op.End short fits h = absurd (nothing_else (span (op.Write f a bs)) h)

size_finds : (f : Key) (change : Change) (p : Op) → share_bytes (op.SetAttrs f change) p ≡ true → Meet (op.SetAttrs f change) p
size_finds f change (op.Inode number kind mode uid gid target) h = absurd (nothing_else (span (op.SetAttrs f change)) h)
size_finds f change (op.Write g c ds) h = size_meets_write f g change change.size c ds refl h
size_finds f change (op.Link dir name number) h = absurd (nothing_else (span (op.SetAttrs f change)) h)
size_finds f change (op.Unlink dir name) h = absurd (nothing_else (span (op.SetAttrs f change)) h)
size_finds f change (op.Rename dir name to_dir to_name) h = absurd (nothing_else (span (op.SetAttrs f change)) h)
size_finds f change (op.Prepare dir name verifier) h = absurd (nothing_else (span (op.SetAttrs f change)) h)
size_finds f change (op.Cancel seq) h = absurd (nothing_else (span (op.SetAttrs f change)) h)
size_finds f change (op.SetAttrs g other) h = sizes_meet f g change other change.size other.size refl refl h
size_finds f change op.End h = absurd (nothing_else (span (op.SetAttrs f change)) h)

bytes_are_found : (o p : Op) → OperationFits o → OperationFits p → share_bytes o p ≡ true → Meet o p
bytes_are_found (op.Inode number kind mode uid gid target) p fits also h = absurd (nothing_first (span p) h)
bytes_are_found (op.Write f a bs) p fits also h = write_finds f a bs p fits.2 also h
bytes_are_found (op.Link dir name number) p fits also h = absurd (nothing_first (span p) h)
bytes_are_found (op.Unlink dir name) p fits also h = absurd (nothing_first (span p) h)
bytes_are_found (op.Rename dir name to_dir to_name) p fits also h = absurd (nothing_first (span p) h)
bytes_are_found (op.Prepare dir name verifier) p fits also h = absurd (nothing_first (span p) h)
bytes_are_found (op.Cancel seq) p fits also h = absurd (nothing_first (span p) h)
bytes_are_found (op.SetAttrs f change) p fits also h = size_finds f change p h
bytes_are_found op.End p fits also h = absurd (nothing_first (span p) h)

-- whatever touches o has a mark under which o looks
pub touching_is_found : (o p : Op) → OperationFits o → OperationFits p → (share_entry o p || share_bytes o p) ≡ true → Meet o p
touching_is_found o p fits also h = ⊎_elim (λ e. entry_is_found o p e) (λ b. bytes_are_found o p fits also b) (or_cases (share_entry o p) (share_bytes o p) h)
