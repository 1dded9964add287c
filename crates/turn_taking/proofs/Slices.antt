-- Records as they are kept and as the definitions have them, by their places.
use Rattle.std.proofs.Common.{◌≡◌, ℕ, zero, suc, ◌+◌, ◌-◌, ◌<◌, ◌≤◌, min, Bool, cond, List, [], ◌∷◌, length, take, drop, get_or, filter, refl, sym, ap, ◌∙◌, subst, arith, Option, Some, None}
use Rattle.std.specs.Prelude.{option_map}
use Rattle.std.specs.List.{slice_get, drop-map}
use Rattle.std.proofs.lemmas.List.{length-map, take_rest}
use Rattle.ivy_base.specs.declared.key.Key.{Key}
use Rattle.ivy_base.specs.Naming.{head_key_of}
use Rattle.log_model.specs.Vector.{Stamp, Vector, stamp_at, seq_of}
use Rattle.log_model.specs.Record.{Record}
use Rattle.log_model.specs.Fetched.{owner_of}
use Rattle.version_vectors.specs.declared.entry.Entry as kept_entry
use Rattle.version_vectors.specs.Entries.{entry_of, stamped}
use Rattle.log_records.specs.declared.record.Record as kept
use Rattle.log_records.specs.Records.{record_of, records_of}
use Rattle.causal_order.proofs.Starts.{held_at}
use Rattle.agent_model.specs.Standing.{beyond, go_on_from}
use Rattle.agent_model.specs.Turning.{AreNext}
use Rattle.turn_taking.specs.Chains.{AreNamed, AreNumbered, as_chain}
use Rattle.turn_taking.proofs.Counting.{up_to, behind, counted}
use Rattle.turn_taking.proofs.Rows.{name_before, name_last}

pub first_is : (items : List kept.Record) (first : kept.Record) → Some first ≡ slice_get items 0 → (rest : List kept.Record) × (items ≡ first ∷ rest)
first_is [] first e = cc
first_is (x ∷ xs) first e = let same : x ≡ first = cc in (xs, ap (λ (y : kept.Record). y ∷ xs) same)

pub counted_items : (items : List kept.Record) (first : kept.Record) (number k : ℕ) → AreNumbered (records_of items) → Some first ≡ slice_get items 0 → k ≡ min (number - (first.seq - 1)) (length items)
    → (filter (up_to number) (records_of items) ≡ take k (records_of items)) × (filter (behind number) (records_of items) ≡ drop k (records_of items))
counted_items items first number k h e is =
    let w = first_is items first e in
    let start = (subst (λ (xs : List kept.Record). AreNext h.0 (records_of xs)) w.1 h.1).0 in
    let seq : first.seq ≡ h.0 + 1 = start in
    let size = length-map items record_of in
    counted h.0 number (records_of items) h.1 k (omega (arith, is, seq, size))

pub records_take : (k : ℕ) (items : List kept.Record) → records_of (take k items) ≡ take k (records_of items)
records_take zero items = refl
records_take (suc k) [] = refl
records_take (suc k) (x ∷ xs) = ap (λ (rs : List Record). record_of x ∷ rs) (records_take k xs)

pub records_drop : (k : ℕ) (items : List kept.Record) → records_of (drop k items) ≡ drop k (records_of items)
records_drop k items = sym (drop-map record_of k items)

-- ---- what goes on from a front

pub got : (log : Key) (o : Option Stamp) → option_map (λ (e : kept_entry.Entry). (stamped e).1) (option_map (entry_of log) o) ≡ o
got log None = refl
got log (Some t) = refl

pub beyond_is : (front : Vector) (log : Key) (rs rest : List Record) (b : Bool) → log ≡ head_key_of (owner_of rs) → filter (behind (seq_of front log)) rs ≡ rest
    → b ≡ go_on_from (stamp_at front log) rest → cond b rest [] ≡ beyond front (as_chain rs)
beyond_is front log rs rest b is drops e =
    subst (λ (k : Key). filter (behind (seq_of front k)) rs ≡ rest → b ≡ go_on_from (stamp_at front k) rest → cond b rest [] ≡ beyond front (as_chain rs)) (sym is) by drops e
  where
    by : filter (behind (seq_of front (head_key_of (owner_of rs)))) rs ≡ rest → b ≡ go_on_from (stamp_at front (head_key_of (owner_of rs))) rest → cond b rest [] ≡ beyond front (as_chain rs)
    by d g =
        ap (λ c. cond c rest []) g
        ∙ ap (λ (l : List Record). cond (go_on_from (stamp_at front (head_key_of (owner_of rs))) l) l []) (sym d)

pub goes_is : (front : Vector) (log : Key) (items : List kept.Record) (k : ℕ) (o : Option kept_entry.Entry) (b : Bool) → o ≡ option_map (entry_of log) (stamp_at front log)
    → b ≡ go_on_from (option_map (λ (e : kept_entry.Entry). (stamped e).1) o) (records_of (take (length items - k) (drop k items))) → b ≡ go_on_from (stamp_at front log) (drop k (records_of items))
goes_is front log items k o b at e =
    e ∙ ap (λ (p : Option kept_entry.Entry). go_on_from (option_map (λ (e : kept_entry.Entry). (stamped e).1) p) (records_of (take (length items - k) (drop k items)))) at
    ∙ ap (λ (p : Option Stamp). go_on_from p (records_of (take (length items - k) (drop k items)))) (got log (stamp_at front log))
    ∙ ap (λ (l : List Record). go_on_from (stamp_at front log) l) (ap (λ (xs : List kept.Record). records_of xs) (take_rest items k) ∙ records_drop k items)

-- ---- whose log it is

pub owner_is : (items records : List kept.Record) (d : kept.Record) (head : Key) → items ≡ records → AreNamed (records_of records) head → owner_of (records_of records) ≡ (get_or items 0 d).owner
owner_is items records d head same named = by items same
  where
    by : (xs : List kept.Record) → xs ≡ records → owner_of (records_of records) ≡ (get_or xs 0 d).owner
    by [] e = absurd (subst (λ (rs : List kept.Record). AreNamed (records_of rs) head) (sym e) named)
    by (x ∷ xs) e = ap (λ (rs : List kept.Record). owner_of (records_of rs)) (sym e)

-- ---- names by place

pub at_place : (items : List kept.Record) (i : ℕ) (d : kept.Record) → i < length items → get_or (records_of items) i (record_of (get_or items i d)) ≡ record_of (get_or items i d)
at_place items i d h = (held_at items i d h).is

pub named_before : (items records : List kept.Record) (head : Key) (i : ℕ) (d : kept.Record) (r : Record) → items ≡ records → AreNamed (records_of records) head → i + 1 < length items
    → get_or (records_of records) i r ≡ r → (get_or items (i + 1) d).prev ≡ r.name
named_before items records head i d r same h less at =
    let size = length-map items record_of in
    let next : suc i ≡ i + 1 = omega arith in
    name_before (records_of items) head i r (record_of (get_or items (i + 1) d)) (subst (λ (xs : List kept.Record). AreNamed (records_of xs) head) (sym same) h)
    (subst (λ (xs : List kept.Record). get_or (records_of xs) i r ≡ r) (sym same) at) (omega (arith, size, less))
    (subst (λ (n : ℕ). get_or (records_of items) n (record_of (get_or items (i + 1) d)) ≡ record_of (get_or items (i + 1) d)) (sym next) (at_place items (i + 1) d less))

pub named_last : (items records : List kept.Record) (head : Key) (i : ℕ) (r : Record) → items ≡ records → AreNamed (records_of records) head → i < length records → length items ≤ i + 1
    → get_or (records_of records) i r ≡ r → head ≡ r.name
named_last items records head i r same h less last at =
    let size = length-map records record_of in
    let sizes : length items ≡ length records = ap length same in
    name_last (records_of records) head i r h at (omega (arith, size, less)) (omega (arith, size, sizes, last))
