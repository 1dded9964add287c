-- Entries that ascend by log, from the front and from the back.
use Rattle.std.proofs.Common.{◌≡◌, Bool, true, List, [], ◌∷◌, ◌++◌, refl, sym, ap, ◌∙◌, subst, false, length, take, ◌+◌, ◌-◌, Some, arith}
use Rattle.std.specs.List.{slice_get}
use Rattle.std.specs.Prelude.{MatchBool}
use Rattle.std.proofs.lemmas.List.{take_more, take_all, map-append}
use Rattle.std.proofs.lemmas.Option.{slice_get_within, get_or_from_slice_get}
use Rattle.std.specs.Ordering.{is_lt}
use Rattle.std.specs.declared.cmp.Ordering.{Ordering}
use Rattle.std.specs.declared.cmp.Ordering.TheVariants.{Less, Equal, Greater}
use Rattle.std.specs.FinMap.Entries.{is_sorted, below_all}
use Rattle.ivy_base.specs.declared.key.Key.{Key}
use Rattle.ivy_base.specs.Naming.{key_cmp}
use Rattle.tree_model.proofs.Keys.{keys_total}
use Rattle.tree_model.proofs.Sound.{both_true}
use Rattle.log_model.specs.Vector.{Entry, Vector}
use Rattle.log_model.proofs.Lists.{both, each_append, each_right}
use Rattle.version_vectors.specs.Places.{AreBefore, AreBehind}
use Rattle.version_vectors.specs.Entries.{stamped, vector_of}
use Rattle.version_vectors.specs.declared.entry.Entry as kept

pub is_less : (r : Ordering) → is_lt r ≡ true → r ≡ Less
is_less Less h = refl
is_less Equal h = cc
is_less Greater h = cc

pub less_trans : (a b c : Key) → is_lt (key_cmp a b) ≡ true → is_lt (key_cmp b c) ≡ true → is_lt (key_cmp a c) ≡ true
less_trans a b c h g = ap is_lt (keys_total.trans a b c (is_less _ h) (is_less _ g))

below_between : (k : Key) (v : Vector) (e : Entry) (w : Vector) → below_all key_cmp k (v ++ e ∷ w) ≡ true → is_lt (key_cmp k e.0) ≡ true
below_between k [] e w h = (both_true (is_lt (key_cmp k e.0)) (below_all key_cmp k w) h).0
below_between k (d ∷ v) e w h = below_between k v e w (both_true (is_lt (key_cmp k d.0)) (below_all key_cmp k (v ++ e ∷ w)) h).1

-- in front of an entry
pub sorted_before : (v : Vector) (e : Entry) (w : Vector) → is_sorted key_cmp (v ++ e ∷ w) ≡ true → AreBefore e.0 v
sorted_before [] e w h = tt
sorted_before (d ∷ v) e w h =
    let parts = both_true (below_all key_cmp d.0 (v ++ e ∷ w)) (is_sorted key_cmp (v ++ e ∷ w)) h in
    (below_between d.0 v e w parts.0, sorted_before v e w parts.1)

pub each_behind : (k : Key) (w : Vector) → below_all key_cmp k w ≡ true → AreBehind k w
each_behind k [] h = tt
each_behind k (d ∷ w) h = let parts = both_true (is_lt (key_cmp k d.0)) (below_all key_cmp k w) h in (parts.0, each_behind k w parts.1)

-- after an entry
pub sorted_behind : (v : Vector) (e : Entry) (w : Vector) → is_sorted key_cmp (v ++ e ∷ w) ≡ true → AreBehind e.0 w
sorted_behind [] e w h = each_behind e.0 w (both_true (below_all key_cmp e.0 w) (is_sorted key_cmp w) h).0
sorted_behind (d ∷ v) e w h = sorted_behind v e w (both_true (below_all key_cmp d.0 (v ++ e ∷ w)) (is_sorted key_cmp (v ++ e ∷ w)) h).1

below_more : (k : Key) (v : Vector) (e : Entry) → below_all key_cmp k v ≡ true → is_lt (key_cmp k e.0) ≡ true → below_all key_cmp k (v ++ e ∷ []) ≡ true
below_more k [] e h less = both _ true less refl
below_more k (d ∷ v) e h less =
    let parts = both_true (is_lt (key_cmp k d.0)) (below_all key_cmp k v) h in
    both _ _ parts.0 (below_more k v e parts.1 less)

-- an entry more at the end
pub sorted_more : (v : Vector) (e : Entry) → is_sorted key_cmp v ≡ true → AreBefore e.0 v → is_sorted key_cmp (v ++ e ∷ []) ≡ true
sorted_more [] e h before = refl
sorted_more (d ∷ v) e h before =
    let parts = both_true (below_all key_cmp d.0 v) (is_sorted key_cmp v) h in
    both _ _ (below_more d.0 v e parts.0 before.0) (sorted_more v e parts.1 before.1)

pub before_trans : (v : Vector) (a b : Key) → AreBefore a v → is_lt (key_cmp a b) ≡ true → AreBefore b v
before_trans [] a b h less = tt
before_trans (d ∷ v) a b h less = (less_trans d.0 a b h.0 less, before_trans v a b h.1 less)

-- whether all come before a log, by the last of them
by_last : (v : Vector) (e : Entry) (log : Key) (b : Bool) → is_sorted key_cmp (v ++ e ∷ []) ≡ true → b ≡ is_lt (key_cmp e.0 log)
    → MatchBool b (AreBefore log (v ++ e ∷ [])) (AreBefore log (v ++ e ∷ []) → ⊥)
by_last v e log true h less = each_append _ v (e ∷ []) (before_trans v e.0 log (sorted_before v e [] h) (sym less)) (sym less, tt)
by_last v e log false h less = λ before. let yes : is_lt (key_cmp e.0 log) ≡ true = (each_right (λ (d : Entry). is_lt (key_cmp d.0 log) ≡ true) v (e ∷ []) before).0 in cc (less ∙ yes)

at_end : (es : List kept.Entry) (last : kept.Entry) → Some last ≡ slice_get es (length es - 1) → es ≡ take (length es - 1) es ++ last ∷ []
at_end es last is =
    let within = slice_get_within es (length es - 1) last (sym is) in
    let size : length es - 1 + 1 ≡ length es = omega (arith, within) in
    sym (take_all (length es - 1 + 1) es (omega (arith, size))) ∙ take_more es (length es - 1) last within
    ∙ ap (λ (x : kept.Entry). take (length es - 1) es ++ x ∷ []) (get_or_from_slice_get es (length es - 1) last last (sym is))

pub all_before : (es : List kept.Entry) (last : kept.Entry) (log : Key) (b : Bool) → Some last ≡ slice_get es (length es - 1) → is_sorted key_cmp (vector_of es) ≡ true
    → b ≡ is_lt (key_cmp last.log log) → MatchBool b (AreBefore log (vector_of es)) (AreBefore log (vector_of es) → ⊥)
all_before es last log b is h less =
    let parts : vector_of es ≡ vector_of (take (length es - 1) es) ++ stamped last ∷ [] = ap vector_of (at_end es last is) ∙ map-append stamped (take (length es - 1) es) (last ∷ []) in
    subst (λ (v : Vector). MatchBool b (AreBefore log v) (AreBefore log v → ⊥)) (sym parts)
    (by_last (vector_of (take (length es - 1) es)) (stamped last) log b (subst (λ (v : Vector). is_sorted key_cmp v ≡ true) parts h) less)
