-- The order of numbers and names.
use Rattle.std.proofs.Common.{◌≡◌, ℕ, zero, suc, ◌<◌, Bool, true, false, ◌&&◌, List, [], ◌∷◌, ◌++◌, length, map, flat_map, get_or, refl, sym, ap, ◌∙◌, subst, arith, add-one, option_map, Option, Some, None}
use Rattle.std.specs.Prelude.{MatchBool}
use Rattle.std.specs.List.{IsAllAdjacentAnswer}
use Rattle.std.specs.Cmp.{IsTotalOrder, tied_itself}
use Rattle.std.specs.Cmp.Lexicographic.{slice_cmp}
use Rattle.std.specs.Ordering.{is_lt, nat_cmp, ordering_then}
use Rattle.std.specs.declared.cmp.Ordering.{Ordering}
use Rattle.std.specs.declared.cmp.Ordering.TheVariants.{Less, Equal, Greater}
use Rattle.std.specs.FinMap.Entries.{is_sorted, below_all}
use Rattle.ivy_base.specs.declared.key.Key.{Key}
use Rattle.ivy_base.specs.declared.operation.Kind.{Kind}
use Rattle.ivy_base.specs.declared.operation.Kind.TheVariants.{Reg, Dir, Lnk}
use Rattle.ivy_base.specs.Naming.{key_cmp}
use Rattle.tree_model.specs.Tree.{Inode, IsInOrder, Place, directory_kind, is_directory, place_cmp}
use Rattle.tree_model.proofs.Keys.{keys_total}
use Rattle.tree_model.proofs.Sound.{both_true}
use Rattle.log_model.proofs.Lists.{both}
use Rattle.dir_replay.specs.View.{names_in}
use Rattle.snapshot_loading.specs.declared.parts.InodeParts.{InodeParts}
use Rattle.snapshot_loading.specs.Parts.{names_of, numbered, tree_of}
use Rattle.snapshot_loading.specs.Steps.{NamesAscend}

-- ---- entries whose keys rise from each to the next

less : (o : Ordering) → is_lt o ≡ true → o ≡ Less
less Less h = refl
less Equal h = cc
less Greater h = cc

first_false : (a b : Bool) → a ≡ false → (a && b) ≡ false
first_false true b h = cc
first_false false b h = refl

second_false : (a b : Bool) → b ≡ false → (a && b) ≡ false
second_false true b h = h
second_false false b h = refl

module _ {A K X : Type 0} (R : K → K → Ordering) (total : IsTotalOrder R) (f : A → K) (g : A → X) where
  abbrev pub is_below : A → A → Bool
  is_below a b = is_lt (R (f a) (f b))

  abbrev entries : List A → List (K × X)
  entries xs = map (λ a. (f a, g a)) xs

  behind_all : (a b : A) (cs : List A) → is_below a b ≡ true → below_all R (f b) (entries cs) ≡ true → below_all R (f a) (entries cs) ≡ true
  behind_all a b [] p q = refl
  behind_all a b (c ∷ cs) p q =
      let each = both_true (is_below b c) (below_all R (f b) (entries cs)) q in
      both (is_below a c) (below_all R (f a) (entries cs)) (ap is_lt (total.trans (f a) (f b) (f c) (less (R (f a) (f b)) p) (less (R (f b) (f c)) each.0))) (behind_all a b cs p each.1)

  ascends : (xs : List A) → ((k : ℕ) (d : A) → suc k < length xs → true ≡ is_below (get_or xs k d) (get_or xs (suc k) d)) → is_sorted R (entries xs) ≡ true
  ascends [] h = refl
  ascends (a ∷ []) h = refl
  ascends (a ∷ b ∷ cs) h =
      let rest = ascends (b ∷ cs) (λ k d within. h (suc k) d (omega arith)) in
      let first : is_below a b ≡ true = sym (h 0 a (omega arith)) in
      let after = both_true (below_all R (f b) (entries cs)) (is_sorted R (entries cs)) rest in
      both (is_below a b && below_all R (f a) (entries cs)) (is_sorted R (entries (b ∷ cs))) (both (is_below a b) (below_all R (f a) (entries cs)) first (behind_all a b cs first after.0)) rest

  falls : (xs : List A) (k : ℕ) → suc k < length xs → ((d : A) → false ≡ is_below (get_or xs k d) (get_or xs (suc k) d)) → is_sorted R (entries xs) ≡ false
  falls [] k within h = absurd (omega (arith, within))
  falls (a ∷ []) k within h = absurd (omega (arith, within))
  falls (a ∷ b ∷ cs) zero within h = first_false (is_below a b && below_all R (f a) (entries cs)) (is_sorted R (entries (b ∷ cs))) (first_false (is_below a b) (below_all R (f a) (entries cs)) (sym (h a)))
  falls (a ∷ b ∷ cs) (suc k) within h = second_false (is_below a b && below_all R (f a) (entries cs)) (is_sorted R (entries (b ∷ cs))) (falls (b ∷ cs) k (omega (arith, within)) h)

  -- what `is_sorted_by` answers
  pub sorted_from : (xs : List A) (r : Bool) → IsAllAdjacentAnswer (λ x y b. b ≡ is_below x y) xs r → r ≡ is_sorted R (entries xs)
  sorted_from xs true h = sym (ascends xs (λ k d within. let P : ℕ → Type 0 = λ j. true ≡ is_below (get_or xs k d) (get_or xs j d) in subst P (add-one k) (h k d (omega arith))))
  sorted_from xs false h =
      let k = h.0 in
      sym (falls xs k (omega (arith, h.1)) (λ d. let P : ℕ → Type 0 = λ j. false ≡ is_below (get_or xs k d) (get_or xs j d) in subst P (add-one k) (h.2 d)))

-- ---- all names

abbrev Entries : Type 0
Entries = List (List ℕ × Key)

abbrev Ascend : Entries → Type 0
Ascend es = is_sorted (slice_cmp nat_cmp) es ≡ true

below_append : {K X : Type 0} (R : K → K → Ordering) (k : K) (xs ys : List (K × X)) → below_all R k xs ≡ true → below_all R k ys ≡ true → below_all R k (xs ++ ys) ≡ true
below_append R k [] ys h g = g
below_append R k (x ∷ xs) ys h g =
    let p = both_true (is_lt (R k x.0)) (below_all R k xs) h in
    both (is_lt (R k x.0)) (below_all R k (xs ++ ys)) p.0 (below_append R k xs ys p.1 g)

same_directory : (d : Key) (n m : List ℕ) → place_cmp (d, n) (d, m) ≡ slice_cmp nat_cmp n m
same_directory d n m = ap (λ (o : Ordering). ordering_then o (slice_cmp nat_cmp n m)) (tied_itself keys_total d)

other_directory : (d e : Key) (n m : List ℕ) → is_lt (key_cmp d e) ≡ true → is_lt (place_cmp (d, n) (e, m)) ≡ true
other_directory d e n m h = ap (λ (o : Ordering). is_lt (ordering_then o (slice_cmp nat_cmp n m))) (less (key_cmp d e) h)

below_here : (d : Key) (n : List ℕ) (es : Entries) → below_all (slice_cmp nat_cmp) n es ≡ true → below_all place_cmp (d, n) (names_in d es) ≡ true
below_here d n [] h = refl
below_here d n (e ∷ es) h =
    let p = both_true (is_lt (slice_cmp nat_cmp n e.0)) (below_all (slice_cmp nat_cmp) n es) h in
    both (is_lt (place_cmp (d, n) (d, e.0))) (below_all place_cmp (d, n) (names_in d es)) (ap is_lt (same_directory d n e.0) ∙ p.0) (below_here d n es p.1)

below_there : (d : Key) (n : List ℕ) (es : Entries) (rest : List (Place × Key)) → below_all place_cmp (d, n) (names_in d es ++ rest) ≡ true → below_all (slice_cmp nat_cmp) n es ≡ true
below_there d n [] rest h = refl
below_there d n (e ∷ es) rest h =
    let p = both_true (is_lt (place_cmp (d, n) (d, e.0))) (below_all place_cmp (d, n) (names_in d es ++ rest)) h in
    both (is_lt (slice_cmp nat_cmp n e.0)) (below_all (slice_cmp nat_cmp) n es) (sym (ap is_lt (same_directory d n e.0)) ∙ p.0) (below_there d n es rest p.1)

below_part : (d e : Key) (n : List ℕ) (es : Entries) → is_lt (key_cmp d e) ≡ true → below_all place_cmp (d, n) (names_in e es) ≡ true
below_part d e n [] h = refl
below_part d e n (x ∷ es) h = both (is_lt (place_cmp (d, n) (e, x.0))) (below_all place_cmp (d, n) (names_in e es)) (other_directory d e n x.0 h) (below_part d e n es h)

below_parts : (d : Key) (n : List ℕ) (parts : List InodeParts) → below_all key_cmp d (map numbered parts) ≡ true → below_all place_cmp (d, n) (flat_map names_of parts) ≡ true
below_parts d n [] h = refl
below_parts d n (p ∷ parts) h =
    let b = both_true (is_lt (key_cmp d p.number)) (below_all key_cmp d (map numbered parts)) h in
    below_append place_cmp (d, n) (names_of p) (flat_map names_of parts) (below_part d p.number n p.entries.items b.0) (below_parts d n parts b.1)

sorted_in : (d : Key) (es : Entries) (rest : List (Place × Key)) → Ascend es → ((n : List ℕ) → below_all place_cmp (d, n) rest ≡ true) → is_sorted place_cmp rest ≡ true → is_sorted place_cmp (names_in d es ++ rest) ≡ true
sorted_in d [] rest h behind more = more
sorted_in d (e ∷ es) rest h behind more =
    let p = both_true (below_all (slice_cmp nat_cmp) e.0 es) (is_sorted (slice_cmp nat_cmp) es) h in
    both (below_all place_cmp (d, e.0) (names_in d es ++ rest)) (is_sorted place_cmp (names_in d es ++ rest)) (below_append place_cmp (d, e.0) (names_in d es) rest (below_here d e.0 es p.0) (behind e.0)) (sorted_in d es rest p.1 behind more)

pub sorted_names : (parts : List InodeParts) → is_sorted key_cmp (map numbered parts) ≡ true → NamesAscend parts → is_sorted place_cmp (flat_map names_of parts) ≡ true
sorted_names [] h g = refl
sorted_names (p ∷ parts) h g =
    let b = both_true (below_all key_cmp p.number (map numbered parts)) (is_sorted key_cmp (map numbered parts)) h in
    sorted_in p.number p.entries.items (flat_map names_of parts) g.0 (λ n. below_parts p.number n parts b.0) (sorted_names parts b.1 g.1)

sorted_out : (d : Key) (es : Entries) (rest : List (Place × Key)) → is_sorted place_cmp (names_in d es ++ rest) ≡ true → Ascend es × (is_sorted place_cmp rest ≡ true)
sorted_out d [] rest h = (refl, h)
sorted_out d (e ∷ es) rest h =
    let p = both_true (below_all place_cmp (d, e.0) (names_in d es ++ rest)) (is_sorted place_cmp (names_in d es ++ rest)) h in
    let more = sorted_out d es rest p.1 in
    (both (below_all (slice_cmp nat_cmp) e.0 es) (is_sorted (slice_cmp nat_cmp) es) (below_there d e.0 es rest p.0) more.0, more.1)

names_ascend : (parts : List InodeParts) → is_sorted place_cmp (flat_map names_of parts) ≡ true → NamesAscend parts
names_ascend [] h = tt
names_ascend (p ∷ parts) h = let s = sorted_out p.number p.entries.items (flat_map names_of parts) h in (s.0, names_ascend parts s.1)

-- whether all is in order, once numbers are
pub order_by_names : (parts : List InodeParts) → is_sorted key_cmp (map numbered parts) ≡ true → (r : Bool) → MatchBool r (NamesAscend parts) (NamesAscend parts → ⊥)
    → MatchBool r (IsInOrder (tree_of parts)) (IsInOrder (tree_of parts) → ⊥)
order_by_names parts h true g = record { names = sorted_names parts h g; inodes = h }
order_by_names parts h false g = λ order. g (names_ascend parts order.names)

-- ---- the root

pub dir_kind : (o : Option Inode) → option_map (λ i. i.kind) o ≡ Some Dir → is_directory o ≡ true
dir_kind None e = cc
dir_kind (Some i) e = let kind : i.kind ≡ Dir = cc in ap directory_kind kind

pub no_dir_kind : (o : Option Inode) → (option_map (λ i. i.kind) o ≡ Some Dir → ⊥) → is_directory o ≡ false
no_dir_kind None e = refl
no_dir_kind (Some i) e = by i.kind refl
  where
    by : (kind : Kind) → i.kind ≡ kind → directory_kind kind ≡ false
    by Reg is = refl
    by Dir is = absurd (e (ap (λ (k : Kind). Some k) is))
    by Lnk is = refl
