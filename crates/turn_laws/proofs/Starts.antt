-- What a turn's records cite at its start: the front of a closed set without the own log stands over the set, with the own log's last record.
use Rattle.std.proofs.Common.{◌≡◌, ◌≢◌, ◌⊎◌, inl, inr, ⊎_elim, ℕ, ◌<◌, ◌≤◌, ◌^◌, Bool, true, false, cond, not, List, [], ◌∷◌, map, Some, None, refl, sym, ap, ◌∙◌, subst, arith, Contains}
use Rattle.std.specs.Prelude.{IsTrue}
use Rattle.std.specs.List.{AllByRecursion}
use Rattle.std.specs.Cmp.{eq_by_cmp_equiv}
use Rattle.std.specs.Ordering.{eq_by_cmp}
use Rattle.std.specs.FinMap.Entries.{is_sorted-where_key, find-where_key}
use Rattle.ivy_base.specs.declared.key.Key.{Key}
use Rattle.ivy_base.specs.declared.key.PubKey.{PubKey}
use Rattle.ivy_base.specs.Naming.{key_cmp, owner_cmp, head_key_of}
use Rattle.ivy_base.proofs.NameLemmas.{length-digest, bytes-digest}
use Rattle.tree_model.proofs.Keys.{keys_total, exact_keys, same_key_is, same_key_itself}
use Rattle.tree_model.proofs.Sound.{from_test, to_test}
use Rattle.log_model.specs.View.{View, IsView, is_member, is_named}
use Rattle.log_model.specs.Vector.{Entry, Vector, stamp_at, reach, seq_of, Dominates, with_entry, without_log}
use Rattle.log_model.specs.Record.{Record}
use Rattle.log_model.specs.Spelling.{IsKey}
use Rattle.log_model.specs.Rank.{own_entry, full_vector, front}
use Rattle.log_model.specs.Chain.{IsGood, GoesOn, IsChain}
use Rattle.log_model.specs.Closed.{log_of, HasCauses, IsCause, IsClosed}
use Rattle.log_model.proofs.Lists.{here, in_cons, in_nothing, each, each_from, in_filter}
use Rattle.log_model.proofs.Chains.{last_after}
use Rattle.log_model.proofs.Owners.{owner_itself}
use Rattle.log_model.proofs.Part.{found_stamp}
use Rattle.log_model.proofs.Weights.{Sorted, sorted_front, joins_reach}
use Rattle.log_model.proofs.Later.{EndsWith, IsOver, good_of, last_stands, name_is_key, seq_with}
use Rattle.turn_laws.proofs.Entries.{each_with_entry, each_front, each_without_log}
use Rattle.turn_laws.proofs.Heads.{one_member, member_is, member_named, short_named}

-- ---- the last record of a log

ends_from : (s : List Record) (own : PubKey) (log : List Record) → log_of own s ≡ log → log_of own s ≢ [] → (p : Record) × EndsWith s own p
ends_from s own [] e some = absurd (some e)
ends_from s own (first ∷ rest) e some = (last_after first rest, record { first = first; rest = rest; log = e; last = refl })

-- a log that isn't empty has a last record
pub ends_with : (s : List Record) (own : PubKey) → log_of own s ≢ [] → (p : Record) × EndsWith s own p
ends_with s own some = ends_from s own (log_of own s) refl some

pub last_or_before : (view : View) (owner : PubKey) (p : Record) (rs : List Record) (c : Record) → GoesOn view owner p rs → Contains (p ∷ rs) c → (c ≡ last_after p rs) ⊎ (c.seq < (last_after p rs).seq)
unfolding last_after
last_or_before view owner p [] c g within = ⊎_elim (λ e. inl (sym e)) (λ none. absurd (in_nothing c none)) (in_cons p [] c within)
last_or_before view owner p (r ∷ rs) c g within = ⊎_elim
    (λ e. let next = g.1.seq in
    let same : p.seq ≡ c.seq = ap (λ (x : Record). x.seq) e in
    inr (⊎_elim
    (λ is_last. let last : r.seq ≡ (last_after r rs).seq = ap (λ (x : Record). x.seq) is_last in omega (arith, next, same, last))
    (λ less. omega (arith, next, same, less))
    (last_or_before view owner r rs r g.2 (here r rs))))
    (λ more. last_or_before view owner r rs c g.2 more)
    (in_cons p (r ∷ rs) c within)

-- a record of the log is its last one, or has a smaller number
pub is_last_or_before : (view : View) (s : List Record) (own : PubKey) (p c : Record) → IsClosed view s → EndsWith s own p → Contains s c → c.owner ≡ own → (c ≡ p) ⊎ (c.seq < p.seq)
is_last_or_before view s own p c closed ends within owned =
    let chain : IsChain view own (ends.first ∷ ends.rest) = subst (λ (l : List Record). IsChain view own l) ends.log (closed.chains own) in
    let mine : eq_by_cmp owner_cmp own c.owner ≡ true = subst (λ (o : PubKey). eq_by_cmp owner_cmp own o ≡ true) (sym owned) (owner_itself own) in
    let in_log : Contains (ends.first ∷ ends.rest) c = subst (λ (l : List Record). Contains l c) ends.log (in_filter (λ (x : Record). eq_by_cmp owner_cmp own x.owner) s c within mine) in
    subst (λ (x : Record). (c ≡ x) ⊎ (c.seq < x.seq)) ends.last (last_or_before view own ends.first ends.rest c chain.2 in_log)

-- ---- a vector without a log

pub stamp_at-without_log : (v : Vector) (log k : Key) → stamp_at (without_log log v) k ≡ cond (not (eq_by_cmp key_cmp log k)) (stamp_at v k) None
stamp_at-without_log v log k = find-where_key key_cmp (λ x. not (eq_by_cmp key_cmp log x)) k (λ x tied. ap (λ (y : Key). not (eq_by_cmp key_cmp log y)) (sym (exact_keys k x tied))) v

pub sorted_without_log : (log : Key) (v : Vector) → Sorted v → Sorted (without_log log v)
sorted_without_log log v h = to_test _ (is_sorted-where_key key_cmp (λ x. not (eq_by_cmp key_cmp log x)) v (from_test _ h))

key_is_key : (owner : PubKey) → IsKey (head_key_of owner)
key_is_key owner = record { size = length-digest owner.0; each = bytes-digest owner.0 }

-- ---- what the front of a closed set names

abbrev IsSpelled : Entry → Type 0
IsSpelled e = IsKey e.0 × (1 ≤ e.1.seq) × (e.1.seq < 2 ^ 32) × IsKey e.1.name

module _ (view : View) (s : List Record) (closed : IsClosed view s) where
  -- an entry of a member's log is that of a record of the set
  abbrev pub Stands : Entry → Type 0
  Stands e = IsTrue (is_member view e.0) → (c : Record) × Contains s c × (own_entry c ≡ e)

  member_of : (r : Record) → Contains s r → Contains view.members r.owner
  member_of r c = each (λ q. Contains view.members q.owner) s r closed.members c

  spelled_in : (r : Record) → Contains s r → AllByRecursion IsSpelled (full_vector r)
  spelled_in r c =
      let good = good_of view s r closed c in
      let few = good.spelled.few in
      each_with_entry IsSpelled r.vector (own_entry r) good.spelled.entries (key_is_key r.owner, good.spelled.some, omega (arith, few), name_is_key r good.spelled)

  named_in : (r : Record) → Contains s r → AllByRecursion (λ e. IsTrue (is_named view e.0)) (full_vector r)
  named_in r c =
      let good = good_of view s r closed c in
      each_with_entry (λ e. IsTrue (is_named view e.0)) r.vector (own_entry r) good.named (member_named view r.owner (member_of r c))

  pub stands_in : (r : Record) → Contains s r → AllByRecursion Stands (full_vector r)
  stands_in r c =
      let causes = each (HasCauses view s) s r closed.causes c in
      let cited = each_from Stands r.vector (λ e within member. let w = each (λ f. IsTrue (is_member view f.0) → (q : Record) × Contains s q × IsCause q f r) r.vector e causes within member in (w.0, w.1, w.2.cited)) in
      each_with_entry Stands r.vector (own_entry r) cited (λ member. (r, c, refl))

  front_spelled : AllByRecursion IsSpelled (front s)
  front_spelled = each_front IsSpelled s (each_from (λ r. AllByRecursion IsSpelled (full_vector r)) s spelled_in)

  front_named : AllByRecursion (λ e. IsTrue (is_named view e.0)) (front s)
  front_named = each_front (λ e. IsTrue (is_named view e.0)) s (each_from (λ r. AllByRecursion (λ e. IsTrue (is_named view e.0)) (full_vector r)) s named_in)

  pub front_stands : AllByRecursion Stands (front s)
  front_stands = each_front Stands s (each_from (λ r. AllByRecursion Stands (full_vector r)) s stands_in)

front_reaches : (v : Vector) (s : List Record) → AllByRecursion (λ w. Dominates v w) (map full_vector s) → AllByRecursion (λ q. Dominates v (full_vector q)) s
front_reaches v [] h = tt
front_reaches v (q ∷ s) h = (h.0, front_reaches v s h.1)

-- a front goes as far as each of its records
pub front_dominates : (s : List Record) (q : Record) → Contains s q → Dominates (front s) (full_vector q)
front_dominates s q c = each (λ r. Dominates (front s) (full_vector r)) s q (front_reaches (front s) s (joins_reach (map full_vector s) [])) c

-- the last record of a chain is good
last_good : (view : View) (owner : PubKey) (p : Record) (rs : List Record) → IsGood view owner p → GoesOn view owner p rs → IsGood view owner (last_after p rs)
unfolding last_after
last_good view owner p [] good g = good
last_good view owner p (r ∷ rs) good g = last_good view owner r rs g.0 g.2

-- ---- the own log of a member, whose last record is p

module _ (view : View) (s : List Record) (own : PubKey) (p : Record) (well : IsView view) (closed : IsClosed view s) (member : Contains view.members own) (ends : EndsWith s own p) where
  pub good_last : IsGood view own p
  good_last =
      let chain : IsChain view own (ends.first ∷ ends.rest) = subst (λ (l : List Record). IsChain view own l) ends.log (closed.chains own) in
      subst (λ (x : Record). IsGood view own x) ends.last (last_good view own ends.first ends.rest chain.0 chain.2)

  -- an entry of the own log is that of its last record, or of one before it
  own_entry_is : (e : Entry) → Stands view s closed e → e.0 ≡ head_key_of own → (e ≡ own_entry p) ⊎ (e.1.seq < p.seq)
  own_entry_is e stands same =
      let is : is_member view e.0 ≡ true = subst (λ (k : Key). is_member view k ≡ true) (sym same) (member_is view own member) in
      let w = stands is in
      let keys : head_key_of w.0.owner ≡ head_key_of own = ap (λ (x : Entry). x.0) w.2 ∙ same in
      let owned : w.0.owner ≡ own = one_member view w.0.owner own well (member_of view s closed w.0 w.1) member keys in
      let seqs : w.0.seq ≡ e.1.seq = ap (λ (x : Entry). x.1.seq) w.2 in
      ⊎_elim
      (λ is_last. inl (sym w.2 ∙ ap (λ (x : Record). own_entry x) is_last))
      (λ less. inr (omega (arith, seqs, less)))
      (is_last_or_before view s own p w.0 closed ends w.1 owned)

  -- so no vector of such entries goes further than p in the own log
  own_at_most : (v : Vector) → AllByRecursion (Stands view s closed) v → seq_of v (head_key_of own) ≤ p.seq
  own_at_most v stand = ⊎_elim
      (λ none. let zero : seq_of v (head_key_of own) ≡ 0 = ap reach none in omega (arith, zero))
      (λ f. let there : seq_of v (head_key_of own) ≡ f.0.1.seq = ap reach f.3 in
      ⊎_elim
      (λ is_last. let last : f.0.1.seq ≡ p.seq = ap (λ (x : Entry). x.1.seq) is_last in omega (arith, there, last))
      (λ less. omega (arith, there, less))
      (own_entry_is f.0 (each (Stands view s closed) v f.0 stand f.1) f.2))
      (found_stamp v (head_key_of own))

  none_at : (v : Vector) → stamp_at v (head_key_of own) ≡ None → stamp_at v (head_key_of p.owner) ≡ None
  none_at v none = subst (λ (o : PubKey). stamp_at v (head_key_of o) ≡ None) (sym good_last.owned) none

  own_reached : p.seq ≤ seq_of (front s) (head_key_of own)
  own_reached =
      let far : seq_of (full_vector p) (head_key_of own) ≤ seq_of (front s) (head_key_of own) = front_dominates s p (last_stands s own p ends) (head_key_of own) in
      let tied : eq_by_cmp key_cmp (head_key_of own) (head_key_of p.owner) ≡ true = subst (λ (o : PubKey). eq_by_cmp key_cmp (head_key_of own) (head_key_of o) ≡ true) (sym good_last.owned) (same_key_itself (head_key_of own)) in
      let here : seq_of (full_vector p) (head_key_of own) ≡ p.seq = seq_with p.vector p (head_key_of own) good_last.spelled.of_others ∙ ap (λ b. cond b p.seq (seq_of p.vector (head_key_of own))) tied in
      omega (arith, far, here)

  -- the front has the own log's last record
  pub own_stamp : stamp_at (front s) (head_key_of own) ≡ Some (own_entry p).1
  own_stamp = ⊎_elim
      (λ none. let zero : seq_of (front s) (head_key_of own) ≡ 0 = ap reach none in
      let began = good_last.spelled.some in
      let far = own_reached in
      absurd (omega (arith, zero, began, far)))
      (λ f. let there : seq_of (front s) (head_key_of own) ≡ f.0.1.seq = ap reach f.3 in
      let far = own_reached in
      ⊎_elim
      (λ is_last. f.3 ∙ ap (λ (x : Entry). Some x.1) is_last)
      (λ less. absurd (omega (arith, there, far, less)))
      (own_entry_is f.0 (each (Stands view s closed) (front s) f.0 (front_stands view s closed) f.1) f.2))
      (found_stamp (front s) (head_key_of own))

  none_of_own : stamp_at (without_log (head_key_of own) (front s)) (head_key_of own) ≡ None
  none_of_own =
      stamp_at-without_log (front s) (head_key_of own) (head_key_of own)
      ∙ ap (λ b. cond (not b) (stamp_at (front s) (head_key_of own)) None) (same_key_itself (head_key_of own))

  covers : (q : Record) → Contains s q → Dominates (with_entry (without_log (head_key_of own) (front s)) (own_entry p)) (full_vector q)
  covers q within log = subst (λ (n : ℕ). seq_of (full_vector q) log ≤ n)
      (sym (seq_with (without_log (head_key_of own) (front s)) p log (none_at (without_log (head_key_of own) (front s)) none_of_own)))
      (by (eq_by_cmp key_cmp log (head_key_of p.owner)) refl)
    where
      by : (b : Bool) → eq_by_cmp key_cmp log (head_key_of p.owner) ≡ b → seq_of (full_vector q) log ≤ cond b p.seq (seq_of (without_log (head_key_of own) (front s)) log)
      by true tied =
          let is_own : log ≡ head_key_of own = same_key_is log (head_key_of p.owner) tied ∙ ap (λ (o : PubKey). head_key_of o) good_last.owned in
          subst (λ (k : Key). seq_of (full_vector q) k ≤ p.seq) (sym is_own) (own_at_most (full_vector q) (stands_in view s closed q within))
      by false apart =
          let other : eq_by_cmp key_cmp (head_key_of own) log ≡ false =
          (eq_by_cmp_equiv keys_total).symm (head_key_of own) log ∙ subst (λ (o : PubKey). eq_by_cmp key_cmp log (head_key_of o) ≡ false) good_last.owned apart in
          let kept : seq_of (without_log (head_key_of own) (front s)) log ≡ seq_of (front s) log =
          ap reach (stamp_at-without_log (front s) (head_key_of own) log ∙ ap (λ b. cond (not b) (stamp_at (front s) log) None) other) in
          let far : seq_of (full_vector q) log ≤ seq_of (front s) log = front_dominates s q within log in
          omega (arith, kept, far)

  -- the front without the own log stands over the set
  pub over_front : IsOver view s own (without_log (head_key_of own) (front s)) p
  over_front =
      let sorted = sorted_without_log (head_key_of own) (front s) (sorted_front s) in
      let named = each_without_log (λ e. IsTrue (is_named view e.0)) (head_key_of own) (front s) (front_named view s closed) in
      record {
        in_order = sorted;
        of_others = none_of_own;
        entries = each_without_log IsSpelled (head_key_of own) (front s) (front_spelled view s closed);
        short = short_named view (without_log (head_key_of own) (front s)) well sorted named;
        named = named;
        stands = each_without_log (Stands view s closed) (head_key_of own) (front s) (front_stands view s closed);
        covers = each_from (λ q. Dominates (with_entry (without_log (head_key_of own) (front s)) (own_entry p)) (full_vector q)) s covers;
        owned = good_last.owned;
        began = good_last.spelled.some;
        named_well = name_is_key p good_last.spelled;
      }
