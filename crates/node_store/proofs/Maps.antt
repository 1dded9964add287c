-- std's maps against the lists of entries that the definitions speak of.
use Rattle.std.proofs.Common.{◌≡◌, List, [], ◌∷◌, Some, Bool, true, false, cond, not, refl, sym, ap, ◌∙◌}
use Rattle.std.specs.Cmp.{IsTotalOrder}
use Rattle.std.specs.Cmp.Lexicographic.{nat_list_cmp_total}
use Rattle.std.specs.List.Sorted.{IsStrictlySortedBy}
use Rattle.std.specs.Ordering.{eq_by_cmp, is_eq, match_ordering}
use Rattle.std.specs.declared.cmp.Ordering.{Ordering}
use Rattle.std.specs.declared.cmp.Ordering.TheVariants.{Less, Equal, Greater}
use Rattle.std.specs.FinMap.Entries.{find as value_at, put, by_order, where_key}
use Rattle.std.specs.Map.{lookup, keys_of, set_value, remove_entry}
use Rattle.std.specs.BTreeMap.{insert_entry}
use Rattle.std.proofs.lemmas.Cmp.{on_total, eq_by_cmp_equiv}
use Rattle.std.proofs.lemmas.Map.{NonePasses, lookup-none}
use Rattle.std.proofs.lemmas.Map.Entries.{none_past_head, none_below_head}
use Rattle.std.proofs.lemmas.Map.Keys.{IsDistinct-from_sorted, sorted_tail}
use Rattle.ivy_base.specs.declared.key.Key.{Key}
use Rattle.ivy_base.specs.Naming.{key_cmp}

pub keys_total : IsTotalOrder key_cmp
keys_total = on_total (λ k. k.0) nat_list_cmp_total

-- whether a key is that one
abbrev pub is_key : Key → Key → Bool
is_key key k = eq_by_cmp key_cmp key k

module _ {X : Type 0} (key : Key) where
  pub find-lookup : (es : List (Key × X)) → value_at key_cmp key es ≡ lookup (is_key key) es
  find-lookup [] = refl
  find-lookup (e ∷ es) = ap (cond (is_key key e.0) (Some e.1)) (find-lookup es)

  pub put-insert_entry : (v : X) (es : List (Key × X)) → insert_entry key_cmp es key v ≡ put key_cmp key v es
  put-insert_entry v [] = refl
  put-insert_entry v (e ∷ es) =
      elim (key_cmp key e.0) as (λ r. match_ordering r ((key, v) ∷ e ∷ es) ((e.0, v) ∷ es) (e ∷ insert_entry key_cmp es key v) ≡ by_order r ((key, v) ∷ e ∷ es) ((e.0, v) ∷ es) (e ∷ put key_cmp key v es)) [
        | Less ↦ refl
        | Equal ↦ refl
        | Greater ↦ ap (λ l. e ∷ l) (put-insert_entry v es)
      ]

  -- another value for a key that is there
  pub put-set_value : (v w : X) (es : List (Key × X)) → IsStrictlySortedBy key_cmp (keys_of es) → lookup (is_key key) es ≡ Some v → set_value (is_key key) es w ≡ put key_cmp key w es
  put-set_value v w [] sorted there = cc
  put-set_value v w (e ∷ es) sorted there = by (put-set_value v w es (sorted_tail key_cmp e.0 (keys_of es) sorted)) (key_cmp key e.0) refl there
    where
      by : (lookup (is_key key) es ≡ Some v → set_value (is_key key) es w ≡ put key_cmp key w es) → (r : Ordering) → key_cmp key e.0 ≡ r → cond (is_eq r) (Some e.1) (lookup (is_key key) es) ≡ Some v → cond (is_eq r) ((e.0, w) ∷ es) (e ∷ set_value (is_key key) es w) ≡ by_order r ((key, w) ∷ e ∷ es) ((e.0, w) ∷ es) (e ∷ put key_cmp key w es)
      by again Less is found = let missed = lookup-none (is_key key) (e ∷ es) (none_below_head keys_total key e es sorted is) in let same = ap (λ r. cond (is_eq r) (Some e.1) (lookup (is_key key) es)) is in cc
      by again Equal is found = refl
      by again Greater is found = ap (λ l. e ∷ l) (again found)

  -- where no key is that one, leaving it out changes nothing
  all_stay : (es : List (Key × X)) → NonePasses (is_key key) es → where_key key_cmp (λ k. not (is_key key k)) es ≡ es
  all_stay [] none = refl
  all_stay (e ∷ es) none =
      ap (λ b. cond (not b) (e ∷ where_key key_cmp (λ k. not (is_key key k)) es) (where_key key_cmp (λ k. not (is_key key k)) es)) none.0
      ∙ ap (λ l. e ∷ l) (all_stay es none.1)

  pub without-remove_entry : (es : List (Key × X)) → IsStrictlySortedBy key_cmp (keys_of es) → remove_entry (is_key key) es ≡ where_key key_cmp (λ k. not (is_key key k)) es
  without-remove_entry [] sorted = refl
  without-remove_entry (e ∷ es) sorted = by (is_key key e.0) refl (without-remove_entry es (sorted_tail key_cmp e.0 (keys_of es) sorted))
    where
      by : (b : Bool) → is_key key e.0 ≡ b → remove_entry (is_key key) es ≡ where_key key_cmp (λ k. not (is_key key k)) es → cond b es (e ∷ remove_entry (is_key key) es) ≡ cond (not b) (e ∷ where_key key_cmp (λ k. not (is_key key k)) es) (where_key key_cmp (λ k. not (is_key key k)) es)
      by true is rest = sym (all_stay es (none_past_head (eq_by_cmp_equiv keys_total) key e es (IsDistinct-from_sorted key_cmp (keys_of (e ∷ es)) sorted) is))
      by false is rest = ap (λ l. e ∷ l) rest
