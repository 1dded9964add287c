-- Rows of records as they are kept.
use Rattle.std.proofs.Common.{◌≡◌, ℕ, ◌+◌, ◌-◌, ◌≤◌, ◌^◌, List, [], ◌∷◌, ◌++◌, length, Option, Some, None, refl, sym, ap, ◌∙◌, subst, arith}
use Rattle.std.specs.Prelude.{slice_get, option_map, IfSome, IfNone, MatchOption}
use Rattle.std.specs.Option.{option_to_list}
use Rattle.std.specs.declared.cmp.Ordering.{Ordering}
use Rattle.std.specs.declared.cmp.Ordering.TheVariants.{Less, Equal, Greater}
use Rattle.std.proofs.lemmas.List.{append-nil, map-append, length-map}
use Rattle.std.proofs.lemmas.Option.{slice_get-map, slice_get-get_or}
use Rattle.log_model.specs.Record as log
use Rattle.log_model.specs.Rank.{Rank, rank, rank_cmp}
use Rattle.log_model.specs.Spelling.{HasSpelling}
use Rattle.log_model.specs.View.{most_cited}
use Rattle.log_model.proofs.Lists.{each}
use Rattle.log_records.specs.declared.record.Record.{Record}
use Rattle.log_records.specs.Records.{record_of, records_of}
use Rattle.replay_engine.specs.Rows.{IsRow, TakesGreatest, last_of, order_of, last_order}
use Rattle.replay_engine.proofs.Unions.{row_front, last_has, takes_new, takes_held, takes_both}

pub kept_last : (rs : List Record) → last_of (records_of rs) ≡ option_map record_of (slice_get rs (length rs - 1))
kept_last rs = ap (λ k. slice_get (records_of rs) (k - 1)) (length-map rs record_of) ∙ slice_get-map record_of rs (length rs - 1)

pub last_is : (rs : List Record) (o : Option Record) → o ≡ slice_get rs (length rs - 1) → last_of (records_of rs) ≡ option_map record_of o
last_is rs o e = kept_last rs ∙ ap (λ (p : Option Record). option_map record_of p) (sym e)

pub last_short : (rs : List Record) (x : Record) → Some x ≡ slice_get rs (length rs - 1) → IsRow (records_of rs) → length x.vector ≤ 2 ^ 31
last_short rs x e row =
    let spelled = each HasSpelling (records_of rs) (record_of x) row.spelled (last_has (records_of rs) (record_of x) (last_is rs (Some x) e)) in
    let short : length x.vector ≤ most_cited = spelled.short in
    omega arith

pub order_is : (held new : List Record) (x y : Record) (a b : Rank) (o : Ordering) → Some x ≡ slice_get held (length held - 1) → Some y ≡ slice_get new (length new - 1)
    → o ≡ rank_cmp a b → a ≡ rank (record_of x) → b ≡ rank (record_of y) → o ≡ last_order (records_of held) (records_of new)
order_is held new x y a b o e d is same_a same_b =
    is ∙ ap (λ (r : Rank). rank_cmp r b) same_a ∙ ap (λ (r : Rank). rank_cmp (rank (record_of x)) r) same_b
    ∙ sym (ap (λ (p : Option log.Record). order_of p (last_of (records_of new))) (last_is held (Some x) e) ∙ ap (λ (p : Option log.Record). order_of (Some (record_of x)) p) (last_is new (Some y) d))

pub none_is_less : (held new : List Record) (y : Record) → None ≡ slice_get held (length held - 1) → Some y ≡ slice_get new (length new - 1) → Less ≡ last_order (records_of held) (records_of new)
none_is_less held new y e d =
    sym (ap (λ (p : Option log.Record). order_of p (last_of (records_of new))) (last_is held None e) ∙ ap (λ (p : Option log.Record). order_of None p) (last_is new (Some y) d))

-- ---- what a pop leaves

seen_pop : (rs rest : List Record) (r : Option Record) → rs ≡ rest ++ option_to_list r → records_of rs ≡ records_of rest ++ records_of (option_to_list r)
seen_pop rs rest r e = ap records_of e ∙ map-append record_of rest (option_to_list r)

pub row_left : (rs rest : List Record) (r : Option Record) → rs ≡ rest ++ option_to_list r → IsRow (records_of rs) → IsRow (records_of rest)
row_left rs rest None e row = subst IsRow (seen_pop rs rest None e ∙ append-nil (records_of rest)) row
row_left rs rest (Some x) e row = row_front (records_of rest) (record_of x) (subst IsRow (seen_pop rs rest (Some x) e) row)

pub new_taken : (held new rest : List Record) (r : Option Record) → new ≡ rest ++ option_to_list r → IsRow (records_of held) → IsRow (records_of new) → last_order (records_of held) (records_of new) ≡ Less
    → IfSome r (λ x. TakesGreatest (records_of held) (records_of new) (records_of held) (records_of rest) (record_of x))
new_taken held new rest None e row new_row less = tt
new_taken held new rest (Some y) e row new_row less =
    let seen = seen_pop new rest (Some y) e in
    subst (λ (l : List log.Record). TakesGreatest (records_of held) l (records_of held) (records_of rest) (record_of y)) (sym seen)
    (takes_new (records_of held) (records_of rest) (record_of y) row.ascending (subst IsRow seen new_row).ascending (subst (λ (l : List log.Record). last_order (records_of held) l ≡ Less) seen less))

pub held_taken : (held new rest : List Record) (r : Option Record) → held ≡ rest ++ option_to_list r → IsRow (records_of new) → last_order (records_of held) (records_of new) ≡ Greater
    → IfSome r (λ x. TakesGreatest (records_of held) (records_of new) (records_of rest) (records_of new) (record_of x))
held_taken held new rest None e new_row greater = tt
held_taken held new rest (Some x) e new_row greater =
    let seen = seen_pop held rest (Some x) e in
    subst (λ (l : List log.Record). TakesGreatest l (records_of new) (records_of rest) (records_of new) (record_of x)) (sym seen)
    (takes_held (records_of rest) (records_of new) (record_of x) new_row.ascending (subst (λ (l : List log.Record). last_order l (records_of new) ≡ Greater) seen greater))

empty_is : (rs : List Record) → length rs ≡ 0 → rs ≡ []
empty_is [] e = refl
empty_is (x ∷ rs) e = absurd (omega arith)

no_last : (rs : List Record) → length rs ≡ 0 → last_of (records_of rs) ≡ None
no_last rs e = ap (λ (l : List Record). last_of (records_of l)) (empty_is rs e)

pub both_taken : (held new rest new_rest : List Record) (r q : Option Record) (size left : ℕ) → held ≡ rest ++ option_to_list r → new ≡ new_rest ++ option_to_list q → length new ≡ size
    → MatchOption q ((size ≡ 0) × (left ≡ 0)) (λ _. left + 1 ≡ size) → IsRow (records_of held) → IsRow (records_of new) → last_order (records_of held) (records_of new) ≡ Equal
    → IfSome r (λ x. TakesGreatest (records_of held) (records_of new) (records_of rest) (records_of new_rest) (record_of x))
both_taken held new rest new_rest None q size left e d same none row new_row equal = tt
both_taken held new rest new_rest (Some x) None size left e d same none row new_row equal =
    let z : length new ≡ 0 = omega (arith, none.0) in
    let greater : order_of (last_of (records_of held)) None ≡ Equal = ap (λ (o : Option log.Record). order_of (last_of (records_of held)) o) (sym (no_last new z)) ∙ equal in
    let wrong : Greater ≡ Equal = last_none (last_of (records_of held)) greater in
    absurd (cc wrong)
  where
    last_none : (o : Option log.Record) → order_of o None ≡ Equal → Greater ≡ Equal
    last_none None h = h
    last_none (Some x) h = h
both_taken held new rest new_rest (Some x) (Some y) size left e d same none row new_row equal =
    let seen = seen_pop held rest (Some x) e in
    let new_seen = seen_pop new new_rest (Some y) d in
    let equal_held = subst (λ (l : List log.Record). last_order l (records_of new) ≡ Equal) seen equal in
    let equal_both = subst (λ (l : List log.Record). last_order (records_of rest ++ record_of x ∷ []) l ≡ Equal) new_seen equal_held in
    subst (λ (l : List log.Record). TakesGreatest l (records_of new) (records_of rest) (records_of new_rest) (record_of x)) (sym seen)
    (subst (λ (l : List log.Record). TakesGreatest (records_of rest ++ record_of x ∷ []) l (records_of rest) (records_of new_rest) (record_of x)) (sym new_seen)
    (takes_both (records_of rest) (records_of new_rest) (record_of x) (record_of y) (subst IsRow seen row).ascending (subst IsRow new_seen new_row).ascending equal_both))

none_there : (rs : List Record) → slice_get rs (length rs - 1) ≡ None → rs ≡ []
none_there [] e = refl
none_there (x ∷ rs) e = let some = slice_get-get_or (x ∷ rs) (length (x ∷ rs) - 1) x (omega arith) in absurd (cc (e, some))

pub nothing_left : (held new : List Record) (r : Option Record) (size left : ℕ) → length held ≡ size → MatchOption r ((size ≡ 0) × (left ≡ 0)) (λ _. left + 1 ≡ size) → last_order (records_of held) (records_of new) ≡ Greater → IfNone r ((held ≡ []) × (new ≡ []))
nothing_left held new (Some x) size left same none greater = tt
nothing_left held new None size left same none greater =
    let z : length held ≡ 0 = omega (arith, none.0) in
    (empty_is held z, no_new new (ap (λ (o : Option log.Record). order_of o (last_of (records_of new))) (sym (no_last held z)) ∙ greater))
  where
    no_new : (rs : List Record) → order_of None (last_of (records_of rs)) ≡ Greater → rs ≡ []
    no_new rs h = by (slice_get rs (length rs - 1)) (kept_last rs) refl
      where
        by : (o : Option Record) → last_of (records_of rs) ≡ option_map record_of o → slice_get rs (length rs - 1) ≡ o → rs ≡ []
        by None e f = none_there rs f
        by (Some x) e f = absurd (cc (ap (λ (p : Option log.Record). order_of None p) (sym e) ∙ h))
