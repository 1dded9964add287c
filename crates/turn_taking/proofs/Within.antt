-- What is left of chains within the floor.
use Rattle.std.proofs.Common.{◌≡◌, ℕ, zero, suc, ◌-◌, ◌<◌, ◌≤◌, min, Bool, true, false, cond, List, [], ◌∷◌, ◌++◌, length, take, get_or, filter, refl, sym, ap, ◌∙◌, subst, arith, Option, Some, None, Contains}
use Rattle.std.specs.List.{AllByRecursion}
use Rattle.std.specs.Ordering.{eq_by_cmp}
use Rattle.std.proofs.lemmas.List.{map-append, append-nil, length-map}
use Rattle.std.proofs.lemmas.Grind.{flat_map-append}
use Rattle.ivy_base.specs.declared.key.Key.{Key}
use Rattle.ivy_base.specs.declared.key.PubKey.{PubKey}
use Rattle.ivy_base.specs.Naming.{head_key_of, owner_cmp}
use Rattle.log_model.specs.View.{View}
use Rattle.log_model.specs.Vector.{Vector, seq_of}
use Rattle.log_model.specs.Record.{Record}
use Rattle.log_model.proofs.Lists.{each_append}
use Rattle.log_model.proofs.Opening.{same_owner}
use Rattle.log_model.proofs.Owners.{owner_itself}
use Rattle.log_records.specs.declared.batch.Chain.{Chain}
use Rattle.log_records.specs.declared.record.Record as kept
use Rattle.log_model.specs.Fetched.{owner_of}
use Rattle.log_records.specs.Records.{record_of, records_of}
use Rattle.causal_order.specs.Available.{IsLinked}
use Rattle.dht_ids.specs.declared.judge.Judged.{Judged}
use Rattle.turn_laws.specs.Taking.{within}
use Rattle.turn_taking.specs.Chains.{AreNamed, AreNumbered, IsRow, IsWhole, IsLeft, IsLeftRow, all_within, as_chain, chains_in, some_of}
use Rattle.turn_taking.proofs.Counting.{up_to, counted}
use Rattle.turn_taking.proofs.Rows.{linked_take, numbered_take, owner_take, named_take}
use Rattle.turn_taking.proofs.Slices.{records_take}

-- ---- up to a number

pub row_to : (chain : Chain) (head : Judged) (m k : ℕ) → IsRow chain → filter (up_to m) (records_of chain.records) ≡ take k (records_of chain.records)
    → 0 < k → k ≤ length chain.records → ((r : Record) → get_or (records_of chain.records) (k - 1) r ≡ r → head.name ≡ r.name)
    → IsLeftRow (filter (up_to m) (records_of chain.records)) (Some (record { head = head; records = take k chain.records }))
row_to chain head m k row is some few named =
    let size = length-map chain.records record_of in
    let same = records_take k chain.records in
    let next : suc (k - 1) ≡ k = omega (arith, some) in
    let first : AreNamed (take (suc (k - 1)) (records_of chain.records)) head.name = named_take (k - 1) (records_of chain.records) chain.head.name head.name (omega (arith, size, some, few)) row.named named in (
      same ∙ sym is,
      record {
        numbered = subst AreNumbered (sym same) (numbered_take k (records_of chain.records) row.numbered);
        named = subst (λ (rs : List Record). AreNamed rs head.name) (sym same) (subst (λ (n : ℕ). AreNamed (take n (records_of chain.records)) head.name) next first);
      },
    )

pub row_of : (chain : Chain) (head : Judged) (m k : ℕ) (items new : List kept.Record) → IsRow chain → items ≡ chain.records → new ≡ take k chain.records
    → filter (up_to m) (records_of items) ≡ take k (records_of items) → 0 < k → k ≤ length items → ((r : Record) → get_or (records_of chain.records) (k - 1) r ≡ r → head.name ≡ r.name)
    → IsLeftRow (filter (up_to m) (records_of chain.records)) (Some (record { head = head; records = new }))
row_of chain head m k items new row same is front some few named =
    subst (λ (rs : List kept.Record). IsLeftRow (filter (up_to m) (records_of chain.records)) (Some (record { head = head; records = rs }))) (sym is)
    (row_to chain head m k row (subst (λ (rs : List kept.Record). filter (up_to m) (records_of rs) ≡ take k (records_of rs)) same front) some (subst (λ (rs : List kept.Record). k ≤ length rs) same few) named)

nothing_named : (rs : List Record) (head : Key) → rs ≡ [] → AreNamed rs head → ⊥
nothing_named [] head e h = h
nothing_named (r ∷ rs) head e h = cc

-- what is left of a whole chain is whole
pub whole_to : (view : View) (m : ℕ) (rs : List Record) (left : Option Chain) → Contains view.members (owner_of rs) → IsLinked view rs → AreNumbered rs
    → IsLeftRow (filter (up_to m) rs) left → IsLeft view (filter (up_to m) rs) left
whole_to view m rs None member linked numbered h = h
whole_to view m rs (Some c) member linked numbered h = by (min (m - numbered.0) (length rs)) (counted numbered.0 m rs numbered.1 (min (m - numbered.0) (length rs)) refl).0
  where
    by : (k : ℕ) → filter (up_to m) rs ≡ take k rs → IsLeft view (filter (up_to m) rs) (Some c)
    by zero is = absurd (nothing_named (records_of c.records) c.head.name (h.0 ∙ is) h.1.named)
    by (suc n) is =
        let same : records_of c.records ≡ take (suc n) rs = h.0 ∙ is in
        let some : 0 < suc n = omega arith in (
          h.0,
          record {
            member = subst (λ (o : PubKey). Contains view.members o) (sym (ap owner_of same ∙ owner_take (suc n) rs some)) member;
            linked = subst (IsLinked view) (sym same) (linked_take view (suc n) rs some linked);
            row = h.1;
          },
        )

-- ---- within the floor

module _ (own : PubKey) (floor : Vector) (rs : List Record) where
  chosen : (b : Bool) → List Record
  chosen b = cond b (filter (up_to (seq_of floor (head_key_of (owner_of rs)))) rs) rs

  pub within_own : owner_of rs ≡ own → within own floor (as_chain rs) ≡ filter (up_to (seq_of floor (head_key_of own))) rs
  within_own e =
      let mine : eq_by_cmp owner_cmp own (owner_of rs) ≡ true = subst (λ (o : PubKey). eq_by_cmp owner_cmp own o ≡ true) (sym e) (owner_itself own) in
      ap (λ b. cond b (filter (up_to (seq_of floor (head_key_of (owner_of rs)))) rs) rs) mine ∙ ap (λ (o : PubKey). filter (up_to (seq_of floor (head_key_of o))) rs) e

  pub within_other : (owner_of rs ≡ own → ⊥) → within own floor (as_chain rs) ≡ rs
  within_other apart = by (eq_by_cmp owner_cmp own (owner_of rs)) refl
    where
      by : (b : Bool) → eq_by_cmp owner_cmp own (owner_of rs) ≡ b → cond b (filter (up_to (seq_of floor (head_key_of (owner_of rs)))) rs) rs ≡ rs
      by true e = absurd (apart (same_owner own (owner_of rs) e))
      by false e = refl

-- an own chain that was cut, and another one as it is
pub own_left : (view : View) (own : PubKey) (floor : Vector) (chain : Chain) (log : Key) (m : ℕ) (left : Option Chain) → IsWhole view chain → owner_of (records_of chain.records) ≡ own
    → log ≡ head_key_of own → m ≡ seq_of floor log → IsLeftRow (filter (up_to m) (records_of chain.records)) left → IsLeft view (within own floor (as_chain (records_of chain.records))) left
own_left view own floor chain log m left whole mine is_log number row =
    let reached : m ≡ seq_of floor (head_key_of own) = number ∙ ap (λ (k : Key). seq_of floor k) is_log in
    subst (λ (rs : List Record). IsLeft view rs left) (ap (λ n. filter (up_to n) (records_of chain.records)) reached ∙ sym (within_own own floor (records_of chain.records) mine))
    (whole_to view m (records_of chain.records) left whole.member whole.linked whole.row.numbered row)

pub other_left : (view : View) (own : PubKey) (floor : Vector) (chain : Chain) → IsWhole view chain → (owner_of (records_of chain.records) ≡ own → ⊥)
    → IsLeft view (within own floor (as_chain (records_of chain.records))) (Some chain)
other_left view own floor chain whole apart = (sym (within_other own floor (records_of chain.records) apart), whole)

-- ---- of all chains

some_is : (rs : List Record) (c : Chain) → records_of c.records ≡ rs → AreNamed (records_of c.records) c.head.name → some_of rs ≡ records_of c.records ∷ []
some_is rs c e named = ap some_of (sym e) ∙ by (records_of c.records) named
  where
    by : (l : List Record) → AreNamed l c.head.name → some_of l ≡ l ∷ []
    by [] h = absurd h
    by (x ∷ l) h = refl

module _ (view : View) (own : PubKey) (floor : Vector) where
  abbrev left_of : List Record → List (List Record)
  left_of rs = some_of (within own floor (as_chain rs))

  -- one chain more, of which something is left
  pub one_left : (before left : List Chain) (chain c : Chain) → chains_in left ≡ all_within own floor (chains_in before) → AllByRecursion (IsWhole view) left
      → IsLeft view (within own floor (as_chain (records_of chain.records))) (Some c)
      → (chains_in (left ++ c ∷ []) ≡ all_within own floor (chains_in (before ++ chain ∷ []))) × AllByRecursion (IsWhole view) (left ++ c ∷ [])
  one_left before left chain c so whole h = (
    map-append (λ (x : Chain). records_of x.records) left (c ∷ [])
        ∙ (λ i. so i ++ sym (some_is (within own floor (as_chain (records_of chain.records))) c h.0 h.1.row.named) i)
        ∙ ap (λ l. all_within own floor (chains_in before) ++ l) (sym (append-nil (left_of (records_of chain.records))))
        ∙ sym (flat_map-append left_of (chains_in before) (records_of chain.records ∷ []))
        ∙ ap (λ l. all_within own floor l) (sym (map-append (λ (x : Chain). records_of x.records) before (chain ∷ []))),
    each_append (IsWhole view) left (c ∷ []) whole (h.1, tt),
  )

  -- or nothing is
  pub none_left : (before left : List Chain) (chain : Chain) → chains_in left ≡ all_within own floor (chains_in before) → within own floor (as_chain (records_of chain.records)) ≡ []
      → chains_in left ≡ all_within own floor (chains_in (before ++ chain ∷ []))
  none_left before left chain so none =
      so ∙ sym (append-nil (all_within own floor (chains_in before)))
      ∙ ap (λ l. all_within own floor (chains_in before) ++ l) (sym (append-nil (left_of (records_of chain.records)) ∙ ap some_of none))
      ∙ sym (flat_map-append left_of (chains_in before) (records_of chain.records ∷ []))
      ∙ ap (λ l. all_within own floor l) (sym (map-append (λ (x : Chain). records_of x.records) before (chain ∷ [])))
