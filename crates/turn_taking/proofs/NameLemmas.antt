-- The names of records, by their numbers.
use Rattle.std.proofs.Common.{◌≡◌, ⊎_elim, ℕ, zero, suc, ◌+◌, ◌-◌, ◌<◌, ◌≤◌, ◌==◌, Bool, true, false, cond, List, [], ◌∷◌, ◌++◌, length, get_or, take, map, refl, sym, ap, ◌∙◌, subst, arith, Contains, Option, Some, None, Bor, eq-eqb, ltb-true}
use Rattle.std.specs.Prelude.{IfSome, option_map, find, fold, is_some, nat_lt}
use Rattle.std.specs.Option.{option_copied}
use Rattle.std.specs.List.{AllByRecursion, slice_get}
use Rattle.std.proofs.lemmas.Bool.{cases_lt, eqb-true, ltb-false}
use Rattle.std.proofs.lemmas.List.{length-map, map-append, take_more, take_all}
use Rattle.std.proofs.lemmas.List.Sums.{fold-append}
use Rattle.std.proofs.lemmas.Option.{slice_get_past}
use Rattle.ivy_base.specs.declared.key.Key.{Key}
use Rattle.ivy_base.specs.Naming.{head_key_of}
use Rattle.log_model.specs.Record.{Record}
use Rattle.log_model.specs.Rank.{full_vector}
use Rattle.log_model.specs.Vector.{Vector, join}
use Rattle.log_model.proofs.Lists.{in_cons, in_nothing, each}
use Rattle.log_records.specs.declared.batch.Chain.{Chain}
use Rattle.log_records.specs.declared.record.Record as kept
use Rattle.log_records.specs.Records.{record_of, records_of}
use Rattle.agent_model.specs.Turning.{AreNext}
use Rattle.turn_taking.specs.Chains.{AreNamed, AreNumbered, chains_in}
use Rattle.turn_taking.specs.Naming.{AreNamesOf, AllNamesOf, HasNameOf, name_of}
use Rattle.turn_taking.specs.declared.names.Names.{Names}
use Rattle.turn_taking.proofs.Counting.{above}
use Rattle.turn_taking.proofs.Slices.{at_place}

-- ---- by number

apart : (a b : ℕ) → (a ≡ b → ⊥) → (a == b) ≡ false
apart a b h = by (a == b) refl
  where
    by : (t : Bool) → (a == b) ≡ t → (a == b) ≡ false
    by true e = absurd (h (eqb-true a b e))
    by false e = e

if_it : (number : ℕ) (r : Record) (rs : List Record) → r.seq ≡ number → name_of (r ∷ rs) number ≡ Some r.name
if_it number r rs e = ap (λ b. option_map (λ (q : Record). q.name) (cond b (Some r) (find (λ (q : Record). q.seq == number) rs))) (eq-eqb r.seq number e)

if_other : (number : ℕ) (r : Record) (rs : List Record) → (r.seq ≡ number → ⊥) → name_of (r ∷ rs) number ≡ name_of rs number
if_other number r rs h = ap (λ b. option_map (λ (q : Record). q.name) (cond b (Some r) (find (λ (q : Record). q.seq == number) rs))) (apart r.seq number h)

before_all : (n number : ℕ) (rs : List Record) → AreNext n rs → number ≤ n → name_of rs number ≡ None
before_all n number [] h low = refl
before_all n number (r ∷ rs) h low =
    if_other number r rs (λ e. let s = h.0 in absurd (omega (arith, e, s, low))) ∙ before_all (n + 1) number rs h.1 (omega (arith, low))

by_place : (n number i : ℕ) (rs : List Record) → AreNext n rs → number ≡ n + 1 + i → name_of rs number ≡ slice_get (map (λ (r : Record). r.name) rs) i
by_place n number i [] h e = refl
by_place n number zero (r ∷ rs) h e = if_it number r rs (let s = h.0 in omega (arith, e, s))
by_place n number (suc i) (r ∷ rs) h e =
    if_other number r rs (λ f. let s = h.0 in absurd (omega (arith, e, s, f))) ∙ by_place (n + 1) number i rs h.1 (omega (arith, e))

pub known : (n : ℕ) (rs : List Record) (r : Record) → AreNext n rs → Contains rs r → name_of rs r.seq ≡ Some r.name
known n [] r h c = absurd (in_nothing r c)
known n (x ∷ rs) r h c = ⊎_elim
    (λ same. if_it r.seq x rs (ap (λ (q : Record). q.seq) same) ∙ ap (λ (q : Record). Some q.name) same)
    (λ more. if_other r.seq x rs (λ f. let far : n + 1 < r.seq = each (λ q. n + 1 < q.seq) rs r (above (n + 1) (n + 1) rs (omega arith) h.1) more in let s = h.0 in absurd (omega (arith, s, f, far)))
    ∙ known (n + 1) rs r h.1 more)
    (in_cons x rs r c)

-- ---- as they are kept

module _ (names : Names) (rs : List Record) (number : ℕ) (is : AreNamesOf names rs) where
  pub below_first : (names.first ≤ number → ⊥) → None ≡ name_of rs number
  below_first below = sym (before_all is.first.0 number rs is.first.2 (⊎_elim (λ less. let e = is.first.1 in omega (arith, e, less)) (λ le. absurd (below le)) (cases_lt number names.first)))

  here_or : (keys : List Key) → keys ≡ names.names.items → names.first ≤ number → slice_get keys (number - names.first) ≡ name_of rs number
  here_or keys same le =
      let e = is.first.1 in
      ap (λ (ks : List Key). slice_get ks (number - names.first)) (same ∙ is.names) ∙ sym (by_place is.first.0 number (number - names.first) rs is.first.2 (omega (arith, e, le)))

  pub at_index : (keys : List Key) (i : ℕ) (d : Key) → keys ≡ names.names.items → names.first ≤ number → i ≡ number - names.first → i < length keys → Some (get_or keys i d) ≡ name_of rs number
  at_index keys i d same le is_place within = sym (within_is keys i d within) ∙ ap (λ n. slice_get keys n) is_place ∙ here_or keys same le
    where
      within_is : (ks : List Key) (i : ℕ) (d : Key) → i < length ks → slice_get ks i ≡ Some (get_or ks i d)
      within_is [] i d h = absurd (omega (arith, h))
      within_is (k ∷ ks) zero d h = refl
      within_is (k ∷ ks) (suc i) d h = within_is ks i d (omega (arith, h))

  pub past_last : (keys : List Key) (i : ℕ) → keys ≡ names.names.items → names.first ≤ number → i ≡ number - names.first → length keys ≤ i → None ≡ name_of rs number
  past_last keys i same le is_place past = sym (slice_get_past keys i past) ∙ ap (λ n. slice_get keys n) is_place ∙ here_or keys same le

  -- what stands there, if there is something
  pub looked_up : (keys : List Key) (i : ℕ) (o : Option (Bor Key)) → keys ≡ names.names.items → names.first ≤ number → i ≡ number - names.first → is_some o ≡ nat_lt i (length keys) → IfSome o (λ x. x.now ≡ get_or keys i x.now)
      → option_copied o ≡ name_of rs number
  looked_up keys i None same le is_place some at = past_last keys i same le is_place (ltb-false i (length keys) (sym some))
  looked_up keys i (Some x) same le is_place some at = ap (λ (k : Key). Some k) at ∙ at_index keys i x.now same le is_place (ltb-true i (length keys) (sym some))

-- ---- one name more

pub one_more : (items records : List kept.Record) (i : ℕ) (d : kept.Record) (keys : List Key) (name : Key) → items ≡ records → i < length items → keys ≡ map (λ (r : Record). r.name) (take i (records_of records))
    → ((r : Record) → get_or (records_of records) i r ≡ r → name ≡ r.name) → keys ++ name ∷ [] ≡ map (λ (r : Record). r.name) (take (i + 1) (records_of records))
one_more items records i d keys name same within so named =
    let r : Record = record_of (get_or records i d) in
    let size = length-map records record_of in
    let sizes : length items ≡ length records = ap length same in
    let at : get_or (records_of records) i r ≡ r = at_place records i d (omega (arith, sizes, within)) in
    (λ j. so j ++ named r at j ∷ [])
    ∙ sym (ap (map (λ (q : Record). q.name)) (take_more (records_of records) i r (omega (arith, size, sizes, within)) ∙ ap (λ (q : Record). take i (records_of records) ++ q ∷ []) at)
    ∙ map-append (λ (q : Record). q.name) (take i (records_of records)) (r ∷ []))

pub all_named : (items records : List kept.Record) (keys : List Key) (i : ℕ) → items ≡ records → length items ≤ i → keys ≡ map (λ (r : Record). r.name) (take i (records_of records)) → keys ≡ map (λ (r : Record). r.name) (records_of records)
all_named items records keys i same whole so =
    let size = length-map records record_of in
    let sizes : length items ≡ length records = ap length same in
    so ∙ ap (map (λ (q : Record). q.name)) (take_all i (records_of records) (omega (arith, size, sizes, whole)))

pub numbered_from : (items records : List kept.Record) (d : kept.Record) → items ≡ records → 0 < length items → AreNumbered (records_of records) → (before : ℕ) × ((get_or items 0 d).seq ≡ before + 1) × AreNext before (records_of records)
numbered_from items records d same some h = by items same some
  where
    by : (xs : List kept.Record) → xs ≡ records → 0 < length xs → (before : ℕ) × ((get_or xs 0 d).seq ≡ before + 1) × AreNext before (records_of records)
    by [] e none = absurd (omega (arith, none))
    by (x ∷ xs) e none = (h.0, (subst (λ (rs : List kept.Record). AreNext h.0 (records_of rs)) (sym e) h.1).0, h.1)

pub some_named : (items records : List kept.Record) (head : Key) → items ≡ records → AreNamed (records_of records) head → 0 < length items
some_named items records head same h = by items same
  where
    by : (xs : List kept.Record) → xs ≡ records → 0 < length xs
    by [] e = absurd (subst (λ (rs : List kept.Record). AreNamed (records_of rs) head) (sym e) h)
    by (x ∷ xs) e = omega arith

-- ---- of several chains

pub one_chain_more : (all : List Names) (names : Names) (chains : List (List Record)) (c : List Record) → AllNamesOf all chains → AreNamesOf names c → AllNamesOf (all ++ names ∷ []) (chains ++ c ∷ [])
one_chain_more [] names [] c h is = (is, tt)
one_chain_more [] names (d ∷ ds) c h is = absurd h
one_chain_more (n ∷ ns) names [] c h is = absurd h
one_chain_more (n ∷ ns) names (d ∷ ds) c h is = (h.0, one_chain_more ns names ds c h.1 is)

pub kept_more : (chains : List Chain) (i : ℕ) (c : Chain) (all more : List Names) (names : Names) → i < length chains → c ≡ get_or chains i c → more ≡ all ++ names ∷ []
    → AllNamesOf all (chains_in (take i chains)) → AreNamesOf names (records_of c.records) → AllNamesOf more (chains_in (take (i + 1) chains))
kept_more chains i c all more names within at pushed so is =
    let next : chains_in (take (i + 1) chains) ≡ chains_in (take i chains) ++ records_of c.records ∷ [] =
    ap (λ (cs : List Chain). chains_in cs) (take_more chains i c within ∙ ap (λ (x : Chain). take i chains ++ x ∷ []) (sym at)) ∙ map-append (λ (x : Chain). records_of x.records) (take i chains) (c ∷ []) in
    subst (λ (ns : List Names). AllNamesOf ns (chains_in (take (i + 1) chains))) (sym pushed)
    (subst (λ (cs : List (List Record)). AllNamesOf (all ++ names ∷ []) cs) (sym next) (one_chain_more all names (chains_in (take i chains)) (records_of c.records) so is))

-- ---- who has a record's name

pub has_name : (all : List Names) (names : Names) (r : Record) (o : Option Key) (at : ℕ) → HasNameOf all r → names ≡ get_or all at names → at < length all → names.owner ≡ r.owner
    → ((records : List Record) → AreNamesOf names records → o ≡ name_of records r.seq) → (o ≡ Some r.name) × (names.log ≡ head_key_of r.owner)
has_name all names r o at has is within owned named =
    let w = each (λ (n : Names). n.owner ≡ r.owner → (n.log ≡ head_key_of r.owner) × (records : List Record) × AreNamesOf n records × Contains records r) all names has.each (at, within, sym is) owned in
    (named w.1 w.2 ∙ known w.2.first.0 w.1 r w.2.first.2 w.3, w.0)

-- ---- joined one after the other

pub joined_more : (front before now v : Vector) (rs : List kept.Record) (i : ℕ) (x : kept.Record) → i < length rs → x ≡ get_or rs i x → before ≡ fold join front (map full_vector (records_of (take i rs)))
    → v ≡ full_vector (record_of x) → now ≡ join before v → now ≡ fold join front (map full_vector (records_of (take (i + 1) rs)))
joined_more front before now v rs i x within is so full step =
    let seen : List Record = records_of (take i rs) in
    let more : records_of (take (i + 1) rs) ≡ seen ++ record_of x ∷ [] =
    ap records_of (take_more rs i x within) ∙ map-append record_of (take i rs) (get_or rs i x ∷ []) ∙ ap (λ (y : kept.Record). records_of (take i rs) ++ record_of y ∷ []) (sym is) in
    step ∙ (λ j. join (so j) (full j))
    ∙ sym (ap (λ (l : List Record). fold join front (map full_vector l)) more
    ∙ ap (fold join front) (map-append full_vector seen (record_of x ∷ []))
    ∙ fold-append join front (map full_vector seen) (full_vector (record_of x) ∷ []))

pub each_at : (P : Record → Type 0) (rs : List kept.Record) (i : ℕ) (x : kept.Record) → i < length rs → x ≡ get_or rs i x → AllByRecursion P (records_of rs) → P (record_of x)
each_at P [] i x lt e all = absurd (omega (arith, lt))
each_at P (r ∷ rs) zero x lt e all = subst (λ (y : kept.Record). P (record_of y)) (sym e) all.0
each_at P (r ∷ rs) (suc i) x lt e all = each_at P rs i x (omega (arith, lt)) e all.1
