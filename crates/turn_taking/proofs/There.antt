-- Whether a record is among a chain's new ones, by its number and name.
use Rattle.std.proofs.Common.{◌≡◌, ◌⊎◌, inl, inr, ⊎_elim, ℕ, zero, suc, ◌+◌, ◌-◌, ◌<◌, ◌≤◌, ◌==◌, Bool, true, false, cond, ◌&&◌, ◌||◌, List, [], ◌∷◌, length, get_or, filter, refl, sym, ap, ◌∙◌, subst, arith, Contains, eq-eqb}
use Rattle.std.specs.Prelude.{flat_map, nat_lt}
use Rattle.std.specs.List.{AllByRecursion, list_any}
use Rattle.std.proofs.lemmas.List.{length-map}
use Rattle.std.proofs.lemmas.Bool.{eqb-true, ltb-false}
use Rattle.std.proofs.lemmas.List.Folds.{list_any-append}
use Rattle.ivy_base.specs.declared.key.Key.{Key}
use Rattle.ivy_base.specs.declared.key.PubKey.{PubKey}
use Rattle.ivy_base.specs.Naming.{head_key_of}
use Rattle.tree_model.specs.Tree.{same_key}
use Rattle.tree_model.proofs.Keys.{same_key_is, same_key_itself}
use Rattle.tree_model.proofs.Sound.{both_true}
use Rattle.log_model.specs.View.{View, IsView}
use Rattle.log_model.specs.Vector.{Stamp, Vector, stamp_at, seq_of}
use Rattle.log_model.specs.Record.{Record}
use Rattle.log_model.specs.Chain.{IsGood}
use Rattle.log_model.proofs.Lists.{each, each_from, from_filter, in_nothing, who_passes}
use Rattle.log_records.specs.declared.record.Record as kept
use Rattle.log_model.specs.Fetched.{owner_of}
use Rattle.log_records.specs.Records.{record_of, records_of}
use Rattle.causal_order.specs.Available.{IsLinked}
use Rattle.turn_laws.proofs.Heads.{one_member}
use Rattle.agent_model.specs.Standing.{beyond, go_on_from}
use Rattle.agent_model.specs.Turning.{AreNext, is_there}
use Rattle.turn_taking.specs.Chains.{AreNumbered, as_chain}
use Rattle.turn_taking.proofs.Counting.{behind, not_lt}
use Rattle.turn_taking.proofs.Rows.{linked_good}
use Rattle.turn_taking.proofs.Slices.{at_place}

is_false : (b : Bool) → (b ≡ true → ⊥) → b ≡ false
is_false true h = absurd (h refl)
is_false false h = refl

if_or_nothing : (b : Bool) (rest : List Record) → (cond b rest [] ≡ []) ⊎ (cond b rest [] ≡ rest)
if_or_nothing true rest = inr refl
if_or_nothing false rest = inl refl

-- of several lists
pub any_of : {X Y : Type 0} (test : Y → Bool) (f : X → List Y) (xs : List X) → list_any test (flat_map f xs) ≡ list_any (λ x. list_any test (f x)) xs
any_of test f [] = refl
any_of test f (x ∷ xs) = list_any-append test (f x) (flat_map f xs) ∙ ap (λ b. list_any test (f x) || b) (any_of test f xs)

module _ (log : Key) (t : Stamp) where
  abbrev pub is : Record → Bool
  is r = same_key (head_key_of r.owner) log && r.seq == t.seq && same_key r.name t.name

  numbered_so : (r : Record) → is r ≡ true → r.seq ≡ t.seq
  numbered_so r h =
      let p = both_true (same_key (head_key_of r.owner) log && r.seq == t.seq) (same_key r.name t.name) h in
      let q = both_true (same_key (head_key_of r.owner) log) (r.seq == t.seq) p.0 in
      eqb-true r.seq t.seq q.1

  other_number : (r : Record) → (r.seq ≡ t.seq → ⊥) → is r ≡ false
  other_number r h = is_false (is r) (λ e. h (numbered_so r e))

  -- records up to the number are none of it
  pub there_behind : (m : ℕ) (rs : List Record) → m < t.seq → is_there (filter (behind m) rs) log t ≡ is_there rs log t
  there_behind m [] less = refl
  there_behind m (r ∷ rs) less = by (nat_lt m r.seq) refl (there_behind m rs less)
    where
      by : (b : Bool) → nat_lt m r.seq ≡ b → is_there (filter (behind m) rs) log t ≡ is_there rs log t → is_there (cond b (r ∷ filter (behind m) rs) (filter (behind m) rs)) log t ≡ is_there (r ∷ rs) log t
      by true e again = ap (λ b. is r || b) again
      by false e again =
          let low : r.seq ≤ m = ltb-false m r.seq e in
          again ∙ ap (λ b. b || is_there rs log t) (sym (other_number r (λ s. absurd (omega (arith, s, low, less)))))

  pub too_low : (n : ℕ) (rs : List Record) → AreNext n rs → t.seq ≤ n → is_there rs log t ≡ false
  too_low n [] h low = refl
  too_low n (r ∷ rs) h low =
      ap (λ b. b || is_there rs log t) (other_number r (λ s. let e = h.0 in absurd (omega (arith, s, e, low)))) ∙ too_low (n + 1) rs h.1 (omega (arith, low))

  pub too_high : (n : ℕ) (rs : List Record) → AreNext n rs → n + length rs < t.seq → is_there rs log t ≡ false
  too_high n [] h high = refl
  too_high n (r ∷ rs) h high =
      ap (λ b. b || is_there rs log t) (other_number r (λ s. let e = h.0 in absurd (omega (arith, s, e, high)))) ∙ too_high (n + 1) rs h.1 (omega (arith, high))

  own_test : (r : Record) → head_key_of r.owner ≡ log → r.seq ≡ t.seq → is r ≡ same_key r.name t.name
  own_test r own seq =
      ap (λ b. b && r.seq == t.seq && same_key r.name t.name) (subst (λ (k : Key). same_key (head_key_of r.owner) k ≡ true) own (same_key_itself (head_key_of r.owner)))
      ∙ ap (λ b. true && b && same_key r.name t.name) (eq-eqb r.seq t.seq seq)

  or_nothing : (b c : Bool) → c ≡ false → (b || c) ≡ b
  or_nothing true c e = refl
  or_nothing false c e = e

  pub found_at : (n : ℕ) (rs : List Record) (i : ℕ) (r : Record) → AreNext n rs → AllByRecursion (λ q. head_key_of q.owner ≡ log) rs → t.seq ≡ n + 1 + i → i < length rs → get_or rs i r ≡ r
      → is_there rs log t ≡ same_key r.name t.name
  found_at n [] i r h own e less at = absurd (omega (arith, less))
  found_at n (x ∷ rs) zero r h own e less at =
      or_nothing (is x) (is_there rs log t) (too_low (n + 1) rs h.1 (omega (arith, e)))
      ∙ own_test x own.0 (let s = h.0 in omega (arith, s, e)) ∙ ap (λ (q : Record). same_key q.name t.name) at
  found_at n (x ∷ rs) (suc i) r h own e less at =
      ap (λ b. b || is_there rs log t) (other_number x (λ s. let f = h.0 in absurd (omega (arith, s, f, e))))
      ∙ found_at (n + 1) rs i r h.1 own.1 (omega (arith, e)) (omega (arith, less)) at

  -- ---- by the place of the number

  first_number : (items : List kept.Record) (d : kept.Record) (n : ℕ) → 0 < length items → AreNext n (records_of items) → (get_or items 0 d).seq ≡ n + 1
  first_number [] d n some h = absurd (omega (arith, some))
  first_number (x ∷ items) d n some h = h.0

  pub has_low : (items records : List kept.Record) (d : kept.Record) → items ≡ records → AreNumbered (records_of records) → t.seq < (get_or items 0 d).seq → false ≡ is_there (records_of records) log t
  has_low items records d same h low = subst (λ (xs : List kept.Record). false ≡ is_there (records_of xs) log t) same (by items (subst (λ (xs : List kept.Record). AreNumbered (records_of xs)) (sym same) h) low)
    where
      by : (xs : List kept.Record) → AreNumbered (records_of xs) → t.seq < (get_or xs 0 d).seq → false ≡ is_there (records_of xs) log t
      by [] h low = refl
      by (x ∷ xs) h low = sym (too_low h.0 (records_of (x ∷ xs)) h.1 (let e = first_number (x ∷ xs) d h.0 (omega arith) h.1 in omega (arith, e, low)))

  pub has_high : (items records : List kept.Record) (d : kept.Record) (b : Bool) → items ≡ records → AreNumbered (records_of records) → (get_or items 0 d).seq ≤ t.seq → length items ≤ t.seq - (get_or items 0 d).seq
      → b ≡ nat_lt (t.seq - (get_or items 0 d).seq) (length items) → b ≡ is_there (records_of records) log t
  has_high items records d b same h le high e =
      e ∙ not_lt (t.seq - (get_or items 0 d).seq) (length items) high
      ∙ subst (λ (xs : List kept.Record). false ≡ is_there (records_of xs) log t) same (by items (subst (λ (xs : List kept.Record). AreNumbered (records_of xs)) (sym same) h) le high)
    where
      by : (xs : List kept.Record) → AreNumbered (records_of xs) → (get_or xs 0 d).seq ≤ t.seq → length xs ≤ t.seq - (get_or xs 0 d).seq → false ≡ is_there (records_of xs) log t
      by [] h le high = refl
      by (x ∷ xs) h le high = sym (too_high h.0 (records_of (x ∷ xs)) h.1
          (let e = first_number (x ∷ xs) d h.0 (omega arith) h.1 in let size = length-map (x ∷ xs) record_of in omega (arith, e, le, high, size)))

  pub has_at : (items records : List kept.Record) (d : kept.Record) (name : Key) (b : Bool) → items ≡ records → AreNumbered (records_of records) → AllByRecursion (λ q. head_key_of q.owner ≡ log) (records_of records)
      → (get_or items 0 d).seq ≤ t.seq → t.seq - (get_or items 0 d).seq < length items
      → ((r : Record) → get_or (records_of records) (t.seq - (get_or items 0 d).seq) r ≡ r → name ≡ r.name) → b ≡ same_key name t.name → b ≡ is_there (records_of records) log t
  has_at items records d name b same h own le less named e =
      subst (λ (xs : List kept.Record). AreNumbered (records_of xs) → AllByRecursion (λ q. head_key_of q.owner ≡ log) (records_of xs)
      → ((r : Record) → get_or (records_of xs) (t.seq - (get_or items 0 d).seq) r ≡ r → name ≡ r.name) → b ≡ is_there (records_of xs) log t) same by h own named
    where
      by : AreNumbered (records_of items) → AllByRecursion (λ q. head_key_of q.owner ≡ log) (records_of items) → ((r : Record) → get_or (records_of items) (t.seq - (get_or items 0 d).seq) r ≡ r → name ≡ r.name)
          → b ≡ is_there (records_of items) log t
      by g mine named =
          let i : ℕ = t.seq - (get_or items 0 d).seq in
          let r : Record = record_of (get_or items i d) in
          let at = at_place items i d less in
          let start = first_number items d g.0 (omega (arith, less)) g.1 in
          let size = length-map items record_of in
          e ∙ ap (λ (k : Key). same_key k t.name) (named r at)
          ∙ sym (found_at g.0 (records_of items) i r g.1 mine (omega (arith, start, le)) (omega (arith, size, less)) at)

  -- ---- what is new of a chain

  pub beyond_cases : (front : Vector) (rs : List Record) → (beyond front (as_chain rs) ≡ []) ⊎ (beyond front (as_chain rs) ≡ filter (behind (seq_of front (head_key_of (owner_of rs)))) rs)
  beyond_cases front rs =
      let rest : List Record = filter (behind (seq_of front (head_key_of (owner_of rs)))) rs in
      if_or_nothing (go_on_from (stamp_at front (head_key_of (owner_of rs))) rest) rest

  -- it is none of another owner's
  pub of_other : (view : View) (front : Vector) (rs : List Record) (owner : PubKey) → IsView view → IsLinked view rs → Contains view.members (owner_of rs) → Contains view.members owner → log ≡ head_key_of owner
      → (owner_of rs ≡ owner → ⊥) → false ≡ is_there (beyond front (as_chain rs)) log t
  of_other view front rs owner well linked mine member is_log apart = sym (is_false (is_there (beyond front (as_chain rs)) log t) (λ h.
      let w = who_passes is (beyond front (as_chain rs)) h in
      let p = both_true (same_key (head_key_of w.0.owner) log && w.0.seq == t.seq) (same_key w.0.name t.name) w.2 in
      let q = both_true (same_key (head_key_of w.0.owner) log) (w.0.seq == t.seq) p.0 in
      let within : Contains rs w.0 = ⊎_elim
      (λ none. absurd (in_nothing w.0 (subst (λ (l : List Record). Contains l w.0) none w.1)))
      (λ rest. (from_filter (behind (seq_of front (head_key_of (owner_of rs)))) rs w.0 (subst (λ (l : List Record). Contains l w.0) rest w.1)).0)
      (beyond_cases front rs) in
      let owned : w.0.owner ≡ owner_of rs = (each (IsGood view (owner_of rs)) rs w.0 (linked_good view rs linked) within).owned in
      let heads : head_key_of (owner_of rs) ≡ head_key_of owner = ap (λ (o : PubKey). head_key_of o) (sym owned) ∙ same_key_is (head_key_of w.0.owner) log q.0 ∙ is_log in
      apart (one_member view (owner_of rs) owner well mine member heads)))

  pub of_chain : (front : Vector) (rs : List Record) (b : Bool) → log ≡ head_key_of (owner_of rs) → seq_of front log < t.seq → (beyond front (as_chain rs) ≡ [] → ⊥) → b ≡ is_there rs log t
      → b ≡ is_there (beyond front (as_chain rs)) log t
  of_chain front rs b is_log ahead some e = ⊎_elim
      (λ none. absurd (some none))
      (λ rest. e ∙ sym (there_behind (seq_of front (head_key_of (owner_of rs))) rs (subst (λ (k : Key). seq_of front k < t.seq) is_log ahead)) ∙ ap (λ (l : List Record). is_there l log t) (sym rest))
      (beyond_cases front rs)

  pub of_none : (front : Vector) (rs : List Record) → beyond front (as_chain rs) ≡ [] → false ≡ is_there (beyond front (as_chain rs)) log t
  of_none front rs none = sym (ap (λ (l : List Record). is_there l log t) none)

  pub all_of_log : (view : View) (rs : List Record) → IsLinked view rs → log ≡ head_key_of (owner_of rs) → AllByRecursion (λ r. head_key_of r.owner ≡ log) rs
  all_of_log view rs linked is_log = each_from (λ r. head_key_of r.owner ≡ log) rs
      (λ r c. ap (λ (o : PubKey). head_key_of o) (each (IsGood view (owner_of rs)) rs r (linked_good view rs linked) c).owned ∙ sym is_log)

  -- a slice that isn't empty
  pub is_some : (items : List kept.Record) (rs : List Record) (b : Bool) → records_of items ≡ rs → b ≡ (length items == 0) → b ≡ false → rs ≡ [] → ⊥
  is_some [] rs b same e fails none = cc
  is_some (x ∷ items) rs b same e fails none = cc
