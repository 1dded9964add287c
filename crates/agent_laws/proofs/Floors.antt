-- A floor with the front of a larger set joined into it: what it names, how far it goes, and that it has a spelling.
use Rattle.std.proofs.Common.{◌≡◌, ⊎_elim, ℕ, ◌≤◌, ◌<◌, ◌^◌, Bool, true, false, cond, List, [], ◌∷◌, ◌++◌, map, fold, Option, Some, None, refl, sym, ap, ◌∙◌, subst, arith, Contains}
use Rattle.std.specs.Prelude.{IsTrue}
use Rattle.std.specs.List.{AllByRecursion}
use Rattle.std.specs.Cmp.{ranked}
use Rattle.std.specs.FinMap.Entries.{by_order, find as value_at, is_sorted, below_all}
use Rattle.std.specs.Ordering.{eq_by_cmp, is_eq, is_lt, nat_cmp}
use Rattle.std.specs.declared.cmp.Ordering.{Ordering}
use Rattle.std.specs.declared.cmp.Ordering.TheVariants.{Less, Equal, Greater}
use Rattle.std.proofs.lemmas.List.Elements.{Contains-append_right}
use Rattle.ivy_base.proofs.NameLemmas.{bytes-digest, length-digest}
use Rattle.ivy_base.specs.declared.key.Key.{Key}
use Rattle.ivy_base.specs.declared.key.PubKey.{PubKey}
use Rattle.ivy_base.specs.Naming.{head_key_of, key_cmp, owner_cmp}
use Rattle.tree_model.proofs.Keys.{exact_keys, same_key_itself}
use Rattle.tree_model.proofs.Sound.{both_true}
use Rattle.log_model.specs.Chain.{IsGood}
use Rattle.log_model.specs.Closed.{IsClosed, log_of}
use Rattle.log_model.specs.Rank.{front, full_vector, own_entry}
use Rattle.log_model.specs.Record.{Record}
use Rattle.log_model.specs.Spelling.{IsKey}
use Rattle.log_model.specs.Vector.{Dominates, Entry, Stamp, Vector, join, later, later_or, reach, seq_of, stamp_at, with_entry}
use Rattle.log_model.specs.View.{View, IsView, is_member, is_named}
use Rattle.log_model.proofs.Chains.{last_after}
use Rattle.log_model.proofs.Later.{EndsWith, name_is_key, seq_with}
use Rattle.log_model.proofs.Lists.{each, each_from, from_filter, here, in_filter, in_nothing}
use Rattle.log_model.proofs.Opening.{same_owner}
use Rattle.log_model.proofs.Owners.{owner_itself}
use Rattle.log_model.proofs.Part.{found_stamp}
use Rattle.log_model.proofs.Vectors.{later_or_reaches, stamp_at-with_entry}
use Rattle.log_model.proofs.Weights.{Sorted, joins_reach, sorted_front, sorted_with_entry}
use Rattle.causal_order.proofs.Meeting.{to_map}
use Rattle.turn_laws.proofs.Entries.{each_join, each_with_entry}
use Rattle.turn_laws.proofs.Heads.{member_is, member_named, one_member, short_named}
use Rattle.turn_laws.proofs.Starts.{Stands, ends_with, front_stands, is_last_or_before, own_stamp}
use Rattle.turn_model.specs.Known.{EndsAt, IsKnown}
use Rattle.snapshot_model.proofs.SortedEntries.{all_behind}
use Rattle.snapshot_model.specs.Blocks.{IsStamped, IsVectorSpelled}

-- ---- what a join has of a log

-- the later of two stamps, where both are there
abbrev pub with_later : Option Stamp → Option Stamp → Option Stamp
with_later o None = o
with_later o (Some t) = Some (later_or o t)

not_equal : (o : Ordering) → is_lt o ≡ true → is_eq o ≡ false
not_equal Less h = refl
not_equal Equal h = cc
not_equal Greater h = refl

nothing_below : (k : Key) (v : Vector) → below_all key_cmp k v ≡ true → value_at key_cmp k v ≡ None
nothing_below k v h = none v (all_behind key_cmp k v h)
  where
    none : (v : Vector) → AllByRecursion (λ e. is_lt (key_cmp k e.0) ≡ true) v → value_at key_cmp k v ≡ None
    none [] g = refl
    none (e ∷ v) g = ap (λ (b : Bool). cond b (Some e.1) (value_at key_cmp k v)) (not_equal (key_cmp k e.0) g.0) ∙ none v g.1

module _ (log : Key) where
  pub stamp_joined : (w v : Vector) → Sorted w → stamp_at (join v w) log ≡ with_later (stamp_at v log) (stamp_at w log)
  stamp_joined [] v sorted = refl
  stamp_joined (e ∷ w) v sorted = stamp_joined w (with_entry v e) parts.1 ∙ ap (λ (o : Option Stamp). with_later o (stamp_at w log)) (stamp_at-with_entry v e log) ∙ by (eq_by_cmp key_cmp log e.0) refl
    where
      parts : (below_all key_cmp e.0 w ≡ true) × (is_sorted key_cmp w ≡ true)
      parts = both_true (below_all key_cmp e.0 w) (is_sorted key_cmp w) sorted

      tied : (o : Ordering) → is_eq o ≡ true → o ≡ Equal
      tied Less h = cc h
      tied Equal h = refl
      tied Greater h = cc h

      by : (b : Bool) → eq_by_cmp key_cmp log e.0 ≡ b
          → with_later (cond b (Some (later_or (stamp_at v e.0) e.1)) (stamp_at v log)) (stamp_at w log) ≡ with_later (stamp_at v log) (cond b (Some e.1) (stamp_at w log))
      by true is =
          let one : log ≡ e.0 = exact_keys log e.0 (tied (key_cmp log e.0) is) in
          ap (with_later (Some (later_or (stamp_at v e.0) e.1))) (ap (stamp_at w) one ∙ nothing_below e.0 w parts.0) ∙ ap (λ (k : Key). Some (later_or (stamp_at v k) e.1)) (sym one)
      by false is = refl

  reaches_first : (o p : Option Stamp) → reach o ≤ reach (with_later o p)
  reaches_first o None = omega arith
  reaches_first o (Some t) = (later_or_reaches o t).0

  reaches_second : (o p : Option Stamp) → reach p ≤ reach (with_later o p)
  reaches_second o None = omega arith
  reaches_second o (Some t) = (later_or_reaches o t).1

  one_of_two : (n : ℕ) (o : Ordering) (b : Bool) (s t : Stamp) → s.seq ≤ n → t.seq ≤ n → (by_order o t (cond b t s) s).seq ≤ n
  one_of_two n Less b s t h g = g
  one_of_two n Equal true s t h g = g
  one_of_two n Equal false s t h g = h
  one_of_two n Greater b s t h g = h

  reaches_no_more : (n : ℕ) (o p : Option Stamp) → reach o ≤ n → reach p ≤ n → reach (with_later o p) ≤ n
  reaches_no_more n o None h g = h
  reaches_no_more n None (Some t) h g = g
  reaches_no_more n (Some s) (Some t) h g = one_of_two n (nat_cmp s.seq t.seq) (is_lt (key_cmp t.name s.name)) s t h g

  module _ (v w : Vector) (sorted : Sorted w) where
    at : seq_of (join v w) log ≡ reach (with_later (stamp_at v log) (stamp_at w log))
    at = ap reach (stamp_joined w v sorted)

    pub joined_first : seq_of v log ≤ seq_of (join v w) log
    joined_first = let far = reaches_first (stamp_at v log) (stamp_at w log) in omega (arith, far, at)

    pub joined_second : seq_of w log ≤ seq_of (join v w) log
    joined_second = let far = reaches_second (stamp_at v log) (stamp_at w log) in omega (arith, far, at)

    pub joined_no_more : (n : ℕ) → seq_of v log ≤ n → seq_of w log ≤ n → seq_of (join v w) log ≤ n
    joined_no_more n h g = let far = reaches_no_more n (stamp_at v log) (stamp_at w log) h g in omega (arith, far, at)

-- ---- its spelling

sorted_joined : (w v : Vector) → Sorted v → Sorted (join v w)
sorted_joined [] v h = h
sorted_joined (e ∷ w) v h = sorted_joined w (with_entry v e) (sorted_with_entry v e h)

both_of : {X : Type 0} (P Q : X → Type 0) (xs : List X) → AllByRecursion P xs → AllByRecursion Q xs → AllByRecursion (λ x. P x × Q x) xs
both_of P Q [] h g = tt
both_of P Q (x ∷ xs) h g = ((h.0, g.0), both_of P Q xs h.1 g.1)

first_of : {X : Type 0} (P Q : X → Type 0) (xs : List X) → AllByRecursion (λ x. P x × Q x) xs → AllByRecursion P xs
first_of P Q [] h = tt
first_of P Q (x ∷ xs) h = (h.0.0, first_of P Q xs h.1)

second_of : {X : Type 0} (P Q : X → Type 0) (xs : List X) → AllByRecursion (λ x. P x × Q x) xs → AllByRecursion Q xs
second_of P Q [] h = tt
second_of P Q (x ∷ xs) h = (h.0.1, second_of P Q xs h.1)

-- the entry is of a log of the view
abbrev pub IsOfView : View → Entry → Type 0
IsOfView view e = IsTrue (is_named view e.0)

-- a vector of the view's logs that has a spelling
pub record IsSpelledIn (view : View) (v : Vector) : Type 0 where
  pub spelled : IsVectorSpelled v
  pub named : AllByRecursion (IsOfView view) v

module _ (view : View) (well : IsView view) where
  of_parts : (v : Vector) → AllByRecursion (λ e. IsStamped e × IsOfView view e) v → Sorted v → IsSpelledIn view v
  of_parts v each_so sorted = record {
    spelled = record {
      each = first_of IsStamped (IsOfView view) v each_so;
      in_order = sorted;
      short = let few = short_named view v well sorted (second_of IsStamped (IsOfView view) v each_so) in omega (arith, few);
    };
    named = second_of IsStamped (IsOfView view) v each_so;
  }

  pub joined_spelled : (v w : Vector) → IsSpelledIn view v → IsSpelledIn view w → IsSpelledIn view (join v w)
  joined_spelled v w h g = of_parts (join v w)
      (each_join (λ e. IsStamped e × IsOfView view e) v w (both_of IsStamped (IsOfView view) v h.spelled.each h.named) (both_of IsStamped (IsOfView view) w g.spelled.each g.named))
      (sorted_joined w v h.spelled.in_order)

  -- ---- with records more

  module _ (own : PubKey) (member : Contains view.members own) where
    record_spelled : (r : Record) → IsGood view own r → IsSpelledIn view (full_vector r)
    record_spelled r good = of_parts (full_vector r)
        (each_with_entry (λ e. IsStamped e × IsOfView view e) r.vector (own_entry r) (both_of IsStamped (IsOfView view) r.vector stamped good.named) (its_stamp, its_name))
        (sorted_with_entry r.vector (own_entry r) good.spelled.in_order)
      where
        stamped : AllByRecursion IsStamped r.vector
        stamped = each_from IsStamped r.vector (λ e c. let h = each (λ (x : Entry). IsKey x.0 × (1 ≤ x.1.seq) × (x.1.seq < 2 ^ 32) × IsKey x.1.name) r.vector e good.spelled.entries c in (h.0, h.1, omega (arith, h.2), h.3))

        its_stamp : IsStamped (own_entry r)
        its_stamp = (record { size = length-digest r.owner.0; each = bytes-digest r.owner.0 }, good.spelled.some, omega (arith, good.spelled.few), name_is_key r good.spelled)

        its_name : IsOfView view (own_entry r)
        its_name = subst (λ (o : PubKey). IsTrue (is_named view (head_key_of o))) (sym good.owned) (member_named view own member)

    pub records_spelled : (v : Vector) (rs : List Record) → IsSpelledIn view v → AllByRecursion (IsGood view own) rs → IsSpelledIn view (fold join v (map full_vector rs))
    records_spelled v [] h good = h
    records_spelled v (r ∷ rs) h good = records_spelled (join v (full_vector r)) rs (joined_spelled v (full_vector r) h (record_spelled r good.0)) good.1

    -- how far they go in their log
    pub own_number : (r : Record) → IsGood view own r → seq_of (full_vector r) (head_key_of own) ≡ r.seq
    own_number r good =
        subst (λ (o : PubKey). seq_of (full_vector r) (head_key_of o) ≡ r.seq) good.owned
        (seq_with r.vector r (head_key_of r.owner) good.spelled.of_others ∙ ap (λ (b : Bool). cond b r.seq (seq_of r.vector (head_key_of r.owner))) (same_key_itself (head_key_of r.owner)))

    pub records_no_more : (n : ℕ) (v : Vector) (rs : List Record) → seq_of v (head_key_of own) ≤ n → AllByRecursion (IsGood view own) rs → AllByRecursion (λ r. r.seq ≤ n) rs
        → seq_of (fold join v (map full_vector rs)) (head_key_of own) ≤ n
    records_no_more n v [] h good few = h
    records_no_more n v (r ∷ rs) h good few = records_no_more n (join v (full_vector r)) rs
        (joined_no_more (head_key_of own) v (full_vector r) (sorted_with_entry r.vector (own_entry r) good.0.spelled.in_order) n h (let same = own_number r good.0 in let le = few.0 in omega (arith, same, le))) good.1 few.1

    pub records_reach : (v : Vector) (rs : List Record) (r : Record) → Contains rs r → IsGood view own r → r.seq ≤ seq_of (fold join v (map full_vector rs)) (head_key_of own)
    records_reach v rs r c good =
        let far = each (λ (w : Vector). Dominates (fold join v (map full_vector rs)) w) (map full_vector rs) (full_vector r) (joins_reach (map full_vector rs) v) (to_map full_vector rs r c) (head_key_of own) in
        let same = own_number r good in omega (arith, far, same)

-- ---- what it names

pub split_last : (p : Record) (rs : List Record) → (before : List Record) × (p ∷ rs ≡ before ++ last_after p rs ∷ [])
unfolding last_after
split_last p [] = ([], refl)
split_last p (r ∷ rs) = let rest = split_last r rs in (p ∷ rest.0, ap (λ (l : List Record). p ∷ l) rest.1)

later_itself : (o : Ordering) (b : Bool) (t : Stamp) → by_order o t (cond b t t) t ≡ t
later_itself Less b t = refl
later_itself Equal true t = refl
later_itself Equal false t = refl
later_itself Greater b t = refl

later_is : (s t : Stamp) → s.seq < t.seq → later s t ≡ t
later_is s t less = by (nat_cmp s.seq t.seq) refl
  where
    by : (o : Ordering) → o ≡ nat_cmp s.seq t.seq → by_order o t (cond (is_lt (key_cmp t.name s.name)) t s) s ≡ t
    by Less e = refl
    by Equal e = let same : s.seq ≡ t.seq = ranked s.seq t.seq Equal e in absurd (omega (arith, same, less))
    by Greater e = let more : t.seq < s.seq = ranked s.seq t.seq Greater e in absurd (omega (arith, more, less))

module _ (view : View) (well : IsView view) (floor : Vector) (known set : List Record) (by_floor : IsKnown view floor known) (more : (r : Record) → Contains known r → Contains set r) (closed : IsClosed view set) where
  -- the last record that the floor names is of the set
  last_of : (owner : PubKey) (t : Stamp) → EndsAt (Some t) (log_of owner known) → (k : Record) × Contains set k × (k.owner ≡ owner) × ((own_entry k).1 ≡ t)
  last_of owner t ends =
      let among = from_filter (λ (r : Record). eq_by_cmp owner_cmp owner r.owner) known ends.1 (subst (λ (l : List Record). Contains l ends.1) (sym ends.2) (Contains-append_right ends.0 (ends.1 ∷ []) ends.1 (here ends.1 []))) in
      (ends.1, more ends.1 among.0, same_owner owner ends.1.owner among.1, ends.3)

  in_log : (owner : PubKey) (k : Record) → Contains set k → k.owner ≡ owner → Contains (log_of owner set) k
  in_log owner k c owned = in_filter (λ (r : Record). eq_by_cmp owner_cmp owner r.owner) set k c (subst (λ (o : PubKey). eq_by_cmp owner_cmp owner o ≡ true) (sym owned) (owner_itself owner))

  module _ (owner : PubKey) (member : Contains view.members owner) where
    abbrev log : Key
    log = head_key_of owner

    ends_none : (o : Option Stamp) → EndsAt o (log_of owner known) → log_of owner set ≡ [] → o ≡ None
    ends_none None ends none = refl
    ends_none (Some t) ends none = let k = last_of owner t ends in absurd (in_nothing k.0 (subst (λ (l : List Record). Contains l k.0) none (in_log owner k.0 k.1 k.2)))

    ends_before : (last : Record) → EndsWith set owner last → (o : Option Stamp) → EndsAt o (log_of owner known) → later_or o (own_entry last).1 ≡ (own_entry last).1
    ends_before last ends None none = refl
    ends_before last ends (Some s) at =
        let k = last_of owner s at in
        ⊎_elim
        (λ e. subst (λ (x : Stamp). later x (own_entry last).1 ≡ (own_entry last).1) (ap (λ (r : Record). (own_entry r).1) (sym e) ∙ k.3) (later_itself (nat_cmp last.seq last.seq) (is_lt (key_cmp last.name last.name)) (own_entry last).1))
        (λ less. later_is s (own_entry last).1 (let seq : k.0.seq ≡ s.seq = ap (λ (x : Stamp). x.seq) k.3 in omega (arith, seq, less)))
        (is_last_or_before view set owner last k.0 closed ends k.1 k.2)

    by_front : (o : Option Stamp) → stamp_at (front set) log ≡ o → (l : List Record) → log_of owner set ≡ l → EndsAt (with_later (stamp_at floor log) o) (log_of owner set)
    by_front o at [] none =
        subst (λ (x : Option Stamp). EndsAt (with_later (stamp_at floor log) x) (log_of owner set)) (sym (front_none o at none))
        (subst (λ (x : Option Stamp). EndsAt x (log_of owner set)) (sym (ends_none (stamp_at floor log) (by_floor.ends owner member) none)) none)
      where
        front_none : (o : Option Stamp) → stamp_at (front set) log ≡ o → log_of owner set ≡ [] → o ≡ None
        front_none None at none = refl
        front_none (Some t) at none = ⊎_elim
            (λ nothing. sym at ∙ nothing)
            (λ f.
            let w = each (Stands view set closed) (front set) f.0 (front_stands view set closed) f.1 (subst (λ (k : Key). IsTrue (is_member view k)) (sym f.2) (member_is view owner member)) in
            let owned = one_member view w.0.owner owner well (each (λ r. Contains view.members r.owner) set w.0 closed.members w.1) member (ap (λ (x : Entry). x.0) w.2 ∙ f.2) in
            absurd (in_nothing w.0 (subst (λ (l : List Record). Contains l w.0) none (in_log owner w.0 w.1 owned))))
            (found_stamp (front set) log)
    by_front o at (p ∷ rs) some =
        let last = ends_with set owner (λ none. nothing_there p rs (sym some ∙ none)) in
        let stamp : o ≡ Some (own_entry last.0).1 = sym at ∙ own_stamp view set owner last.0 well closed member last.1 in
        let parts = split_last last.1.first last.1.rest in
        subst (λ (x : Option Stamp). EndsAt (with_later (stamp_at floor log) x) (log_of owner set)) (sym stamp)
        (subst (λ (t : Stamp). EndsAt (Some t) (log_of owner set)) (sym (ends_before last.0 last.1 (stamp_at floor log) (by_floor.ends owner member)))
        (parts.0, last.0, last.1.log ∙ parts.1 ∙ ap (λ (r : Record). parts.0 ++ r ∷ []) last.1.last, refl))
      where
        nothing_there : (p : Record) (rs : List Record) → p ∷ rs ≡ [] → ⊥
        nothing_there p rs e = cc e

    pub joined_ends : EndsAt (stamp_at (join floor (front set)) log) (log_of owner set)
    joined_ends = subst (λ (o : Option Stamp). EndsAt o (log_of owner set)) (sym (stamp_joined log (front set) floor (sorted_front set))) (by_front (stamp_at (front set) log) refl (log_of owner set) refl)

  pub joined_known : IsKnown view (join floor (front set)) set
  joined_known = record { ascending = closed.ascending; members = closed.members; chains = closed.chains; ends = joined_ends }
