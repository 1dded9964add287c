-- std's maps against the lists of entries that the definitions speak of.
use Rattle.std.proofs.Common.{◌≡◌, List, [], ◌∷◌, Some, None, Bool, true, false, cond, refl, ap, ◌∙◌}
use Rattle.std.specs.declared.cmp.Ordering.{Ordering}
use Rattle.std.specs.declared.cmp.Ordering.TheVariants.{Less, Equal, Greater}
use Rattle.std.specs.Cmp.{IsTotalOrder}
use Rattle.std.specs.List.{AllByRecursion}
use Rattle.std.specs.List.Sorted.{IsStrictlySortedBy}
use Rattle.std.specs.Ordering.{is_eq, match_ordering}
use Rattle.std.specs.FinMap.Entries.{find as value_at, put, by_order}
use Rattle.std.specs.Map.{lookup, keys_of, set_value}
use Rattle.std.specs.BTreeMap.{insert_entry}
use Rattle.std.proofs.lemmas.Map.Keys.{sorted_head, sorted_tail}

pub find-lookup : {K X : Type 0} (cmp : K → K → Ordering) (k : K) (es : List (K × X)) → value_at cmp k es ≡ lookup (λ q. is_eq (cmp k q)) es
find-lookup cmp k [] = refl
find-lookup cmp k (e ∷ es) = ap (cond (is_eq (cmp k e.0)) (Some e.1)) (find-lookup cmp k es)

pub put-insert_entry : {K X : Type 0} (cmp : K → K → Ordering) (k : K) (v : X) (es : List (K × X)) → insert_entry cmp es k v ≡ put cmp k v es
put-insert_entry cmp k v [] = refl
put-insert_entry cmp k v (e ∷ es) =
    elim (cmp k e.0) as (λ r. match_ordering r ((k, v) ∷ e ∷ es) ((e.0, v) ∷ es) (e ∷ insert_entry cmp es k v) ≡ by_order r ((k, v) ∷ e ∷ es) ((e.0, v) ∷ es) (e ∷ put cmp k v es)) [
      | Less ↦ refl
      | Equal ↦ refl
      | Greater ↦ ap (λ l. e ∷ l) (put-insert_entry cmp k v es)
    ]

-- a key below all others is not found
lookup_below : {K X : Type 0} (cmp : K → K → Ordering) (k : K) (es : List (K × X)) → AllByRecursion (λ y. cmp k y ≡ Less) (keys_of es) → lookup (λ q. is_eq (cmp k q)) es ≡ None
lookup_below cmp k [] below = refl
lookup_below cmp k (e ∷ es) below = ap (λ r. cond (is_eq r) (Some e.1) (lookup (λ q. is_eq (cmp k q)) es)) below.0 ∙ lookup_below cmp k es below.1

further_below : {K : Type 0} {cmp : K → K → Ordering} (o : IsTotalOrder cmp) (k e : K) (ys : List K) → cmp k e ≡ Less → AllByRecursion (λ y. cmp e y ≡ Less) ys → AllByRecursion (λ y. cmp k y ≡ Less) ys
further_below o k e [] less below = tt
further_below o k e (y ∷ ys) less below = (o.trans k e y less below.0, further_below o k e ys less below.1)

-- another value for a key that is there
pub put-set_value : {K X : Type 0} {cmp : K → K → Ordering} (o : IsTotalOrder cmp) (k : K) (v w : X) (es : List (K × X)) → IsStrictlySortedBy cmp (keys_of es) → lookup (λ q. is_eq (cmp k q)) es ≡ Some v → set_value (λ q. is_eq (cmp k q)) es w ≡ put cmp k w es
put-set_value o k v w [] sorted there = cc
put-set_value {cmp = cmp} o k v w (e ∷ es) sorted there = by (put-set_value o k v w es (sorted_tail cmp e.0 (keys_of es) sorted)) (cmp k e.0) refl there
  where
    by : (lookup (λ q. is_eq (cmp k q)) es ≡ Some v → set_value (λ q. is_eq (cmp k q)) es w ≡ put cmp k w es) → (r : Ordering) → cmp k e.0 ≡ r → cond (is_eq r) (Some e.1) (lookup (λ q. is_eq (cmp k q)) es) ≡ Some v → cond (is_eq r) ((e.0, w) ∷ es) (e ∷ set_value (λ q. is_eq (cmp k q)) es w) ≡ by_order r ((k, w) ∷ e ∷ es) ((e.0, w) ∷ es) (e ∷ put cmp k w es)
    by again Less tied found = let missed = lookup_below cmp k es (further_below o k e.0 (keys_of es) tied (sorted_head cmp e.0 (keys_of es) sorted)) in cc
    by again Equal tied found = refl
    by again Greater tied found = ap (λ l. e ∷ l) (again found)

-- the value that is there changes nothing
pub set_value_same : {K X : Type 0} (test : K → Bool) (v : X) (es : List (K × X)) → lookup test es ≡ Some v → set_value test es v ≡ es
set_value_same test v [] there = refl
set_value_same test v (e ∷ es) there = by (set_value_same test v es) (test e.0) there
  where
    by : (lookup test es ≡ Some v → set_value test es v ≡ es) → (b : Bool) → cond b (Some e.1) (lookup test es) ≡ Some v → cond b ((e.0, v) ∷ es) (e ∷ set_value test es v) ≡ e ∷ es
    by again true found = let is : v ≡ e.1 = cc in ap (λ x. (e.0, x) ∷ es) is
    by again false found = ap (λ l. e ∷ l) (again found)
