-- What holds of each entry of the records' full vectors holds of each entry of their front.
use Rattle.std.proofs.Common.{◌≡◌, ⊎_elim, Bool, true, false, cond, List, [], ◌∷◌, map, Option, Some, None, refl, sym, ◌∙◌, subst}
use Rattle.std.specs.Prelude.{fold, not}
use Rattle.std.specs.List.{AllByRecursion}
use Rattle.std.specs.Ordering.{eq_by_cmp, nat_cmp, is_lt}
use Rattle.std.specs.declared.cmp.Ordering.{Ordering}
use Rattle.std.specs.declared.cmp.Ordering.TheVariants.{Less, Equal, Greater}
use Rattle.std.specs.FinMap.Entries.{by_order, put}
use Rattle.ivy_base.specs.declared.key.Key.{Key}
use Rattle.ivy_base.specs.Naming.{key_cmp}
use Rattle.tree_model.proofs.Keys.{exact_keys}
use Rattle.log_model.specs.Vector.{Stamp, Entry, Vector, stamp_at, later_or, with_entry, join, without_log}
use Rattle.log_model.specs.Record.{Record}
use Rattle.log_model.specs.Rank.{full_vector, front}
use Rattle.log_model.proofs.Lists.{each, each_from, from_filter}
use Rattle.log_model.proofs.Part.{found_stamp}

same_some : (s t : Stamp) → Some s ≡ Some t → s ≡ t
same_some s t e = cc

module _ (P : Entry → Type 0) where
  -- the stamp that a vector gives for a log is one of its entries'
  pub at_stamp : (v : Vector) (log : Key) (t : Stamp) → AllByRecursion P v → stamp_at v log ≡ Some t → P (log, t)
  at_stamp v log t h e = ⊎_elim
      (λ none. cc)
      (λ f. let stamps = same_some f.0.1 t (sym f.3 ∙ e) in
      subst (λ (x : Key). P (x, t)) f.2 (subst (λ (y : Stamp). P (f.0.0, y)) stamps (each P v f.0 h f.1)))
      (found_stamp v log)

  of_two : (b : Bool) (log : Key) (s t : Stamp) → P (log, s) → P (log, t) → P (log, cond b t s)
  of_two true log s t p q = q
  of_two false log s t p q = p

  by_number : (o : Ordering) (b : Bool) (log : Key) (s t : Stamp) → P (log, s) → P (log, t) → P (log, by_order o t (cond b t s) s)
  by_number Less b log s t p q = q
  by_number Equal b log s t p q = of_two b log s t p q
  by_number Greater b log s t p q = p

  of_later : (log : Key) (o : Option Stamp) (t : Stamp) → ((s : Stamp) → o ≡ Some s → P (log, s)) → P (log, t) → P (log, later_or o t)
  of_later log None t p q = q
  of_later log (Some s) t p q = by_number (nat_cmp s.seq t.seq) (is_lt (key_cmp t.name s.name)) log s t (p s refl) q

  pub each_put : (log : Key) (t : Stamp) (v : Vector) → AllByRecursion P v → P (log, t) → AllByRecursion P (put key_cmp log t v)
  each_put log t [] h p = (p, tt)
  each_put log t (d ∷ v) h p = by (key_cmp log d.0) refl (each_put log t v h.1 p)
    where
      by : (o : Ordering) → key_cmp log d.0 ≡ o → AllByRecursion P (put key_cmp log t v) → AllByRecursion P (by_order o ((log, t) ∷ d ∷ v) ((d.0, t) ∷ v) (d ∷ put key_cmp log t v))
      by Less e again = (p, h)
      by Equal e again = (subst (λ (x : Key). P (x, t)) (exact_keys log d.0 e) p, h.1)
      by Greater e again = (h.0, again)

  pub each_with_entry : (v : Vector) (e : Entry) → AllByRecursion P v → P e → AllByRecursion P (with_entry v e)
  each_with_entry v e h p = each_put e.0 (later_or (stamp_at v e.0) e.1) v h (of_later e.0 (stamp_at v e.0) e.1 (λ s found. at_stamp v e.0 s h found) p)

  pub each_join : (v w : Vector) → AllByRecursion P v → AllByRecursion P w → AllByRecursion P (join v w)
  each_join v [] h g = h
  each_join v (e ∷ w) h g = each_join (with_entry v e) w (each_with_entry v e h g.0) g.1

  pub each_joins : (v : Vector) (s : List Record) → AllByRecursion P v → AllByRecursion (λ r. AllByRecursion P (full_vector r)) s → AllByRecursion P (fold join v (map full_vector s))
  each_joins v [] h g = h
  each_joins v (r ∷ s) h g = each_joins (join v (full_vector r)) s (each_join v (full_vector r) h g.0) g.1

  pub each_front : (s : List Record) → AllByRecursion (λ r. AllByRecursion P (full_vector r)) s → AllByRecursion P (front s)
  each_front s h = each_joins [] s tt h

  pub each_without_log : (log : Key) (v : Vector) → AllByRecursion P v → AllByRecursion P (without_log log v)
  each_without_log log v h = each_from P (without_log log v) (λ e c. each P v e h (from_filter (λ (d : Entry). not (eq_by_cmp key_cmp log d.0)) v e c).0)
