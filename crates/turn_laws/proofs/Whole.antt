-- Closed parts over a front, and of the whole.
use Rattle.std.proofs.Common.{◌≡◌, ◌⊎◌, inl, inr, ⊎_elim, ℕ, ◌+◌, ◌<◌, ◌≤◌, Bool, true, false, cond, nat_lt, List, [], ◌∷◌, ◌++◌, Option, Some, None, refl, sym, ap, ◌∙◌, subst, arith, Contains, filter, ltb-true, lt-ltb}
use Rattle.std.specs.Prelude.{IsTrue, not}
use Rattle.std.specs.List.{AllByRecursion}
use Rattle.std.specs.Cmp.{eq_by_cmp_equiv, tied_itself}
use Rattle.std.specs.declared.cmp.Ordering.{Ordering}
use Rattle.std.specs.declared.cmp.Ordering.TheVariants.{Less, Equal, Greater}
use Rattle.std.specs.Ordering.{eq_by_cmp, is_lt, is_eq, ordering_reverse}
use Rattle.std.specs.FinMap.Entries.{is_sorted, below_all}
use Rattle.std.proofs.lemmas.Bool.{ltb-false, le-ltb}
use Rattle.std.proofs.lemmas.List.{append-nil}
use Rattle.std.proofs.lemmas.List.Elements.{Contains-append_left, Contains-append_right, Contains-append_cases, filter-append}
use Rattle.ivy_base.specs.declared.key.Key.{Key}
use Rattle.ivy_base.specs.declared.key.PubKey.{PubKey}
use Rattle.ivy_base.specs.Naming.{key_cmp, owner_cmp, head_key_of}
use Rattle.tree_model.proofs.Keys.{keys_total, same_key_is, same_key_itself}
use Rattle.tree_model.proofs.Sound.{both_true}
use Rattle.log_model.specs.View.{View, IsView, is_member}
use Rattle.log_model.specs.Vector.{Entry, Vector, Stamp, stamp_at, reach, seq_of, Dominates, without_log, weight_of}
use Rattle.log_model.specs.Record.{Record}
use Rattle.log_model.specs.Spelling.{HasSpelling}
use Rattle.log_model.specs.Rank.{own_entry, full_vector, weight, front, record_cmp}
use Rattle.log_model.specs.Chain.{IsGood, Follows, GoesOn, IsChain}
use Rattle.log_model.specs.Closed.{log_of, IsAscending, IsCause}
use Rattle.log_model.specs.Closed as plain
use Rattle.log_model.proofs.Lists.{here, there, in_cons, in_nothing, each, each_from, each_append, in_filter, from_filter}
use Rattle.log_model.proofs.Chains.{last_after}
use Rattle.log_model.proofs.Owners.{owner_itself, records_total}
use Rattle.log_model.proofs.Part.{found_stamp, chain_good, causes_weaken}
use Rattle.log_model.proofs.Sets.{IsBefore, lighter_is_before}
use Rattle.log_model.proofs.Weights.{Sorted, weight_by_log, Dominates-trans, sorted_front, weight-mono, no_heavier_than_front, full_other}
use Rattle.log_model.proofs.Later.{EndsWith, good_of, last_stands, seq_with}
use Rattle.log_model.proofs.Opening.{same_owner}
use Rattle.turn_model.specs.Basis.{IsAboveTide}
use Rattle.causal_order.specs.Over as over
use Rattle.causal_order.specs.Over.{IsUnder, IsMet, ComesNext, GoesOnFrom, IsChainOver}
use Rattle.turn_laws.proofs.Heads.{one_member, member_is}
use Rattle.turn_laws.proofs.Starts.{ends_with, is_last_or_before, front_stands, front_dominates, own_stamp, stamp_at-without_log, sorted_without_log}
use Rattle.turn_laws.specs.Whole.{PartOverIsPartOfWhole}

-- ---- lists

ascends_both : (s t : List Record) → IsAscending s → IsAscending t → ((q : Record) → Contains s q → (r : Record) → Contains t r → IsBefore q r) → IsAscending (s ++ t)
ascends_both [] t up vp apart = vp
ascends_both (q ∷ s) t up vp apart =
    (each_append (IsBefore q) s t up.0 (each_from (IsBefore q) t (λ r c. apart q (here q s) r c)), ascends_both s t up.1 vp (λ x c r d. apart x (there q s x c) r d))

-- those that pass a test ascend too
passing_ascend : (test : Record → Bool) (s : List Record) → IsAscending s → IsAscending (filter test s)
passing_ascend test [] up = tt
passing_ascend test (r ∷ s) up = by (test r) (passing_ascend test s up.1)
  where
    by : (b : Bool) → IsAscending (filter test s) → IsAscending (cond b (r ∷ filter test s) (filter test s))
    by true rest = (each_from (IsBefore r) (filter test s) (λ q c. each (IsBefore r) s q up.0 (from_filter test s q c).0), rest)
    by false rest = rest

-- what stands before others in an ascending list is none of them
stands_once : (s t : List Record) → IsAscending (s ++ t) → (r : Record) → Contains s r → Contains t r → ⊥
stands_once [] t up r c d = in_nothing r c
stands_once (q ∷ s) t up r c d = ⊎_elim
    (λ e. let b = each (IsBefore q) (s ++ t) r up.0 (Contains-append_right s t r d) in
    let own : IsBefore r r = subst (λ (x : Record). IsBefore x r) e b in
    let tied : is_lt (record_cmp r r) ≡ false = ap is_lt (tied_itself records_total r) in
    absurd (cc (own, tied)))
    (λ more. stands_once s t up.1 r more d)
    (in_cons q s r c)

-- the later part of an ascending list ascends
later_ascend : (s t : List Record) → IsAscending (s ++ t) → IsAscending t
later_ascend [] t up = up
later_ascend (q ∷ s) t up = later_ascend s t up.1

all_pass_is : (test : Record → Bool) (s : List Record) → ((r : Record) → Contains s r → test r ≡ true) → filter test s ≡ s
all_pass_is test [] h = refl
all_pass_is test (r ∷ s) h =
    ap (λ b. cond b (r ∷ filter test s) (filter test s)) (h r (here r s)) ∙ ap (λ (l : List Record). r ∷ l) (all_pass_is test s (λ q c. h q (there r s q c)))

none_pass_is : (test : Record → Bool) (s : List Record) → ((r : Record) → Contains s r → test r ≡ false) → filter test s ≡ []
none_pass_is test [] h = refl
none_pass_is test (r ∷ s) h =
    ap (λ b. cond b (r ∷ filter test s) (filter test s)) (h r (here r s)) ∙ none_pass_is test s (λ q c. h q (there r s q c))

-- of the owner's records of the list those with a greater number are the owner's of those that pass, where the tests agree there
same_tests : (owner : PubKey) (test : Record → Bool) (n : ℕ) → ((r : Record) → eq_by_cmp owner_cmp owner r.owner ≡ true → test r ≡ nat_lt n r.seq)
    → (s : List Record) → log_of owner (filter test s) ≡ filter (λ r. nat_lt n r.seq) (log_of owner s)
same_tests owner test n agree [] = refl
same_tests owner test n agree (r ∷ s) = by (same_tests owner test n agree s) (test r) refl (eq_by_cmp owner_cmp owner r.owner) refl
  where
    by : log_of owner (filter test s) ≡ filter (λ r. nat_lt n r.seq) (log_of owner s) → (p : Bool) → test r ≡ p → (q : Bool) → eq_by_cmp owner_cmp owner r.owner ≡ q
        → log_of owner (cond p (r ∷ filter test s) (filter test s)) ≡ filter (λ r. nat_lt n r.seq) (cond q (r ∷ log_of owner s) (log_of owner s))
    by again true e true f =
        ap (λ b. cond b (r ∷ log_of owner (filter test s)) (log_of owner (filter test s))) f
        ∙ ap (λ (l : List Record). r ∷ l) again
        ∙ sym (ap (λ b. cond b (r ∷ filter (λ r. nat_lt n r.seq) (log_of owner s)) (filter (λ r. nat_lt n r.seq) (log_of owner s))) (sym (agree r f) ∙ e))
    by again true e false f = ap (λ b. cond b (r ∷ log_of owner (filter test s)) (log_of owner (filter test s))) f ∙ again
    by again false e true f =
        again ∙ sym (ap (λ b. cond b (r ∷ filter (λ r. nat_lt n r.seq) (log_of owner s)) (filter (λ r. nat_lt n r.seq) (log_of owner s))) (sym (agree r f) ∙ e))
    by again false e false f = again

-- ---- chains

GoesOn-append : (view : View) (owner : PubKey) (p : Record) (ps : List Record) (r : Record) (rs : List Record)
    → GoesOn view owner p ps → IsGood view owner r → Follows (last_after p ps) r → GoesOn view owner r rs → GoesOn view owner p (ps ++ r ∷ rs)
unfolding last_after
GoesOn-append view owner p [] r rs g good follows more = (good, follows, more)
GoesOn-append view owner p (q ∷ ps) r rs g good follows more = (g.0, g.1, GoesOn-append view owner q ps r rs g.2 good follows more)

goes_good : (view : View) (owner : PubKey) (p : Record) (rs : List Record) → GoesOn view owner p rs → AllByRecursion (IsGood view owner) rs
goes_good view owner p [] g = tt
goes_good view owner p (r ∷ rs) g = (g.0, goes_good view owner r rs g.2)

from_good : (view : View) (owner : PubKey) (s : Option Stamp) (rs : List Record) → GoesOnFrom view owner s rs → AllByRecursion (IsGood view owner) rs
from_good view owner None rs g = chain_good view owner rs g
from_good view owner (Some t) [] g = tt
from_good view owner (Some t) (r ∷ rs) g = (g.0.good, goes_good view owner r rs g.1)

abbrev beyond : ℕ → List Record → List Record
beyond n rs = filter (λ r. nat_lt n r.seq) rs

-- after a record of a greater number all have one
all_beyond : (view : View) (owner : PubKey) (p : Record) (rs : List Record) (n : ℕ) → n ≤ p.seq → GoesOn view owner p rs → beyond n rs ≡ rs
all_beyond view owner p [] n le g = refl
all_beyond view owner p (r ∷ rs) n le g =
    let next = g.1.seq in
    ap (λ b. cond b (r ∷ beyond n rs) (beyond n rs)) (lt-ltb n r.seq (omega (arith, next)))
    ∙ ap (λ (l : List Record). r ∷ l) (all_beyond view owner r rs n (omega (arith, next)) g.2)

-- the records beyond a number go on from the record of that number
record Beyond (view : View) (owner : PubKey) (p : Record) (rs : List Record) (n : ℕ) : Type 0 where
  last : Record
  within : Contains (p ∷ rs) last
  number : last.seq ≡ n
  first : Record
  rest : List Record
  are : beyond n rs ≡ first ∷ rest
  good : IsGood view owner first
  follows : Follows last first
  goes : GoesOn view owner first rest

split_at : (view : View) (owner : PubKey) (p : Record) (rs : List Record) (n : ℕ) → p.seq ≤ n → GoesOn view owner p rs → (beyond n rs ≡ []) ⊎ Beyond view owner p rs n
split_at view owner p [] n le g = inl refl
split_at view owner p (r ∷ rs) n le g = by (λ few. split_at view owner r rs n few g.2) (nat_lt n r.seq) refl
  where
    by : (r.seq ≤ n → (beyond n rs ≡ []) ⊎ Beyond view owner r rs n) → (b : Bool) → nat_lt n r.seq ≡ b → (cond b (r ∷ beyond n rs) (beyond n rs) ≡ []) ⊎ Beyond view owner p (r ∷ rs) n
    by again true e =
        let next = g.1.seq in
        let far = ltb-true n r.seq e in
        inr (record {
          last = p;
          within = here p (r ∷ rs);
          number = omega (arith, next, far);
          first = r;
          rest = rs;
          are = ap (λ b. cond b (r ∷ beyond n rs) (beyond n rs)) e ∙ ap (λ (l : List Record). r ∷ l) (all_beyond view owner r rs n (omega (arith, far)) g.2);
          good = g.0;
          follows = g.1;
          goes = g.2;
        })
    by again false e = ⊎_elim (λ none. inl none)
        (λ b. inr (record {
          last = b.last;
          within = there p (r ∷ rs) b.last b.within;
          number = b.number;
          first = b.first;
          rest = b.rest;
          are = ap (λ b. cond b (r ∷ beyond n rs) (beyond n rs)) e ∙ b.are;
          good = b.good;
          follows = b.follows;
          goes = b.goes;
        }))
        (again (ltb-false n r.seq e))

-- ---- vectors

is_below : (q : Key) (v : Vector) (e : Entry) → below_all key_cmp q v ≡ true → Contains v e → is_lt (key_cmp q e.0) ≡ true
is_below q [] e h c = absurd (in_nothing e c)
is_below q (d ∷ v) e h c =
    let parts = both_true (is_lt (key_cmp q d.0)) (below_all key_cmp q v) h in
    ⊎_elim (λ same. subst (λ (x : Entry). is_lt (key_cmp q x.0) ≡ true) same parts.0) (λ c. is_below q v e parts.1 c) (in_cons d v e c)

above_is_apart : (o : Ordering) → is_lt o ≡ true → is_eq (ordering_reverse o) ≡ false
above_is_apart Less h = refl
above_is_apart Equal h = cc
above_is_apart Greater h = cc

-- an entry of a vector is what the vector has of its log
pub at_entry : (v : Vector) (e : Entry) → Sorted v → Contains v e → stamp_at v e.0 ≡ Some e.1
at_entry [] e up c = absurd (in_nothing e c)
at_entry (d ∷ v) e up c =
    let parts = both_true (below_all key_cmp d.0 v) (is_sorted key_cmp v) up in
    ⊎_elim
    (λ same. subst (λ (x : Entry). stamp_at (d ∷ v) x.0 ≡ Some x.1) same (ap (λ b. cond b (Some d.1) (stamp_at v d.0)) (same_key_itself d.0)))
    (λ more.
    let apart : eq_by_cmp key_cmp e.0 d.0 ≡ false = ap is_eq (keys_total.antisymm e.0 d.0) ∙ above_is_apart (key_cmp d.0 e.0) (is_below d.0 v e parts.0 more) in
    ap (λ b. cond b (Some d.1) (stamp_at v e.0)) apart ∙ at_entry v e parts.1 more)
    (in_cons d v e c)

some_is : (s t : Stamp) → Some s ≡ Some t → s ≡ t
some_is s t e = cc

-- how far a record's full vector goes in its own log, and in a log that it cites
own_reach : (r : Record) → HasSpelling r → seq_of (full_vector r) (head_key_of r.owner) ≡ r.seq
own_reach r h = seq_with r.vector r (head_key_of r.owner) h.of_others ∙ ap (λ b. cond b r.seq (seq_of r.vector (head_key_of r.owner))) (same_key_itself (head_key_of r.owner))

cited_reach : (r : Record) (e : Entry) → HasSpelling r → Contains r.vector e → seq_of (full_vector r) e.0 ≡ e.1.seq
cited_reach r e h c = by (eq_by_cmp key_cmp e.0 (head_key_of r.owner)) refl
  where
    there_is : stamp_at r.vector e.0 ≡ Some e.1
    there_is = at_entry r.vector e h.in_order c

    by : (b : Bool) → eq_by_cmp key_cmp e.0 (head_key_of r.owner) ≡ b → seq_of (full_vector r) e.0 ≡ e.1.seq
    by true tied =
        let none : stamp_at r.vector e.0 ≡ None = ap (stamp_at r.vector) (same_key_is e.0 (head_key_of r.owner) tied) ∙ h.of_others in
        absurd (cc (there_is, none))
    by false apart = full_other r e.0 apart ∙ ap reach there_is

-- ---- above a closed set

module _ (view : View) (below : List Record) (well : IsView view) (closed : plain.IsClosed view below) where
  -- the record knows all of the set, and is later in its own log
  pub record IsAbove (r : Record) : Type 0 where
    pub knows : Dominates (full_vector r) (front below)
    pub later : seq_of (front below) (head_key_of r.owner) < r.seq

  member_of : (q : Record) → Contains below q → Contains view.members q.owner
  member_of q c = each (λ r. Contains view.members r.owner) below q closed.members c

  low : (q : Record) → Contains below q → q.seq ≤ seq_of (front below) (head_key_of q.owner)
  low q c =
      let far = front_dominates below q c (head_key_of q.owner) in
      let own = own_reach q (good_of view below q closed c).spelled in
      omega (arith, far, own)

  apart : (r : Record) → IsAbove r → Contains below r → ⊥
  apart r a c = let late = a.later in let le = low r c in absurd (omega (arith, late, le))

  known : (r q : Record) → IsAbove r → Contains below q → Dominates (full_vector r) (full_vector q)
  known r q a c = Dominates-trans (full_vector r) (front below) (full_vector q) a.knows (front_dominates below q c)

  outweighs : (r : Record) → HasSpelling r → IsAbove r → weight_of (front below) < weight r
  outweighs r spelled a =
      let own = head_key_of r.owner in
      let rest = without_log own (front below) in
      let sorted : Sorted rest = sorted_without_log own (front below) (sorted_front below) in
      let light = weight-mono rest r.vector spelled.in_order sorted (λ log. by log (eq_by_cmp key_cmp own log) refl) in
      let parts = weight_by_log own (front below) (sorted_front below) in
      let late = a.later in
      omega (arith, light, parts, late)
    where
      by : (log : Key) (t : Bool) → eq_by_cmp key_cmp (head_key_of r.owner) log ≡ t → seq_of (without_log (head_key_of r.owner) (front below)) log ≤ seq_of r.vector log
      by log true e =
          let zero : seq_of (without_log (head_key_of r.owner) (front below)) log ≡ 0 = ap reach (stamp_at-without_log (front below) (head_key_of r.owner) log ∙ ap (λ t. cond (not t) (stamp_at (front below) log) None) e) in
          omega (arith, zero)
      by log false e =
          let left : seq_of (without_log (head_key_of r.owner) (front below)) log ≡ seq_of (front below) log = ap reach (stamp_at-without_log (front below) (head_key_of r.owner) log ∙ ap (λ t. cond (not t) (stamp_at (front below) log) None) e) in
          let right = full_other r log ((eq_by_cmp_equiv keys_total).symm log (head_key_of r.owner) ∙ e) in
          let le = a.knows log in
          omega (arith, left, right, le)

  lighter : (r q : Record) → HasSpelling r → IsAbove r → Contains below q → weight q < weight r
  lighter r q spelled a c =
      let light = each (λ q. weight q ≤ weight_of (front below)) below q (no_heavier_than_front below (each_from HasSpelling below (λ x d. (good_of view below x closed d).spelled))) c in
      let heavy = outweighs r spelled a in
      omega (arith, light, heavy)

  in_own_log : (s : List Record) (r : Record) (owner : PubKey) → Contains s r → r.owner ≡ owner → Contains (log_of owner s) r
  in_own_log s r owner c owned = in_filter (λ (x : Record). eq_by_cmp owner_cmp owner x.owner) s r c (subst (λ (o : PubKey). eq_by_cmp owner_cmp owner o ≡ true) (sym owned) (owner_itself owner))

  -- what stands in the owner's log of a list stands in the list, and is the owner's
  of_log : (s : List Record) (r : Record) (owner : PubKey) → Contains (log_of owner s) r → Contains s r × (r.owner ≡ owner)
  of_log s r owner c = let w = from_filter (λ (x : Record). eq_by_cmp owner_cmp owner x.owner) s r c in (w.0, same_owner owner r.owner w.1)

  -- the front's entry of a member's log is that of a record of the set
  front_has : (log : Key) (t : Stamp) → IsTrue (is_member view log) → stamp_at (front below) log ≡ Some t → (c : Record) × Contains below c × (own_entry c ≡ (log, t))
  front_has log t member is = ⊎_elim
      (λ none. absurd (cc (none, is)))
      (λ f.
      let w = each (λ (e : Entry). IsTrue (is_member view e.0) → (c : Record) × Contains below c × (own_entry c ≡ e)) (front below) f.0 (front_stands view below closed) f.1
      (subst (λ (k : Key). IsTrue (is_member view k)) (sym f.2) member) in
      let stamp : f.0.1 ≡ t = some_is f.0.1 t (sym f.3 ∙ is) in
      (w.0, w.1, w.2 ∙ ap (λ (k : Key). (k, f.0.1)) f.2 ∙ ap (λ (x : Stamp). (log, x)) stamp))
      (found_stamp (front below) log)

  -- of a member whose log has no record in the set the front has nothing
  no_stamp : (owner : PubKey) → Contains view.members owner → log_of owner below ≡ [] → stamp_at (front below) (head_key_of owner) ≡ None
  no_stamp owner member none = by (stamp_at (front below) (head_key_of owner)) refl
    where
      by : (o : Option Stamp) → stamp_at (front below) (head_key_of owner) ≡ o → o ≡ None
      by None e = refl
      by (Some t) e =
          let w = front_has (head_key_of owner) t (member_is view owner member) e in
          let owned = one_member view w.0.owner owner well (member_of w.0 w.1) member (ap (λ (x : Entry). x.0) w.2) in
          absurd (in_nothing w.0 (subst (λ (l : List Record). Contains l w.0) none (in_own_log below w.0 owner w.1 owned)))

  -- ---- from over the front to the whole

  module _ (s : List Record) (over_front : over.IsClosed view (front below) s) (above : (r : Record) → Contains s r → IsAbove r) where
    good_in : (r : Record) → Contains s r → IsGood view r.owner r
    good_in r c = each (IsGood view r.owner) (log_of r.owner s) r
        (from_good view r.owner (stamp_at (front below) (head_key_of r.owner)) (log_of r.owner s) (over_front.chains r.owner)) (in_own_log s r r.owner c refl)

    joined : (owner : PubKey) (xs ys : List Record) → log_of owner below ≡ xs → log_of owner s ≡ ys → IsChain view owner (xs ++ ys)
    joined owner xs [] e f = subst (λ (l : List Record). IsChain view owner l) (sym (append-nil xs)) (subst (λ (l : List Record). IsChain view owner l) e (closed.chains owner))
    joined owner [] (r ∷ rs) e f =
        let w = of_log s r owner (subst (λ (l : List Record). Contains l r) (sym f) (here r rs)) in
        let member : Contains view.members owner = subst (λ (o : PubKey). Contains view.members o) w.1 (each (λ q. Contains view.members q.owner) s r over_front.members w.0) in
        let goes : GoesOnFrom view owner (stamp_at (front below) (head_key_of owner)) (r ∷ rs) = subst (λ (l : List Record). GoesOnFrom view owner (stamp_at (front below) (head_key_of owner)) l) f (over_front.chains owner) in
        subst (λ (o : Option Stamp). GoesOnFrom view owner o (r ∷ rs)) (no_stamp owner member e) goes
    joined owner (p ∷ ps) (r ∷ rs) e f =
        let w = of_log s r owner (subst (λ (l : List Record). Contains l r) (sym f) (here r rs)) in
        let member : Contains view.members owner = subst (λ (o : PubKey). Contains view.members o) w.1 (each (λ q. Contains view.members q.owner) s r over_front.members w.0) in
        let goes : GoesOnFrom view owner (stamp_at (front below) (head_key_of owner)) (r ∷ rs) = subst (λ (l : List Record). GoesOnFrom view owner (stamp_at (front below) (head_key_of owner)) l) f (over_front.chains owner) in
        let ends : EndsWith below owner (last_after p ps) = record { first = p; rest = ps; log = e; last = refl } in
        let comes : GoesOnFrom view owner (Some (own_entry (last_after p ps)).1) (r ∷ rs) = subst (λ (o : Option Stamp). GoesOnFrom view owner o (r ∷ rs)) (own_stamp view below owner (last_after p ps) well closed member ends) goes in
        let chain : IsChain view owner (p ∷ ps) = subst (λ (l : List Record). IsChain view owner l) e (closed.chains owner) in (
          chain.0,
          chain.1,
          GoesOn-append view owner p ps r rs chain.2 comes.0.good
              (record { seq = comes.0.seq; prev = comes.0.prev; grows = known r (last_after p ps) (above r w.0) (last_stands below owner (last_after p ps) ends) }) comes.1,
        )

    caused : (r : Record) → Contains s r → plain.HasCauses view (below ++ s) r
    caused r c = each_from (λ e. IsTrue (is_member view e.0) → (q : Record) × Contains (below ++ s) q × IsCause q e r) r.vector (λ e within member. ⊎_elim
        (λ under. ⊎_elim
        (λ less. let knows = (above r c).knows e.0 in let cites = cited_reach r e (good_in r c).spelled within in absurd (omega (arith, less, knows, cites)))
        (λ is. let w = front_has e.0 e.1 member is in
        (w.0, Contains-append_left below s w.0 w.1, record { cited = w.2; lighter = lighter r w.0 (good_in r c).spelled (above r c) w.1; known = known r w.0 (above r c) w.1 }))
        under)
        (λ w. (w.0, Contains-append_right below s w.0 w.1, w.2))
        (each (IsMet view (front below) s r) r.vector e (each (over.HasCauses view (front below) s) s r over_front.causes c) within member))

    pub whole_is_closed : plain.IsClosed view (below ++ s)
    whole_is_closed = record {
      ascending = ascends_both below s closed.ascending over_front.ascending (λ q c r d. lighter_is_before q r (lighter r q (good_in r d).spelled (above r d) c));
      members = each_append (λ r. Contains view.members r.owner) below s closed.members over_front.members;
      chains = λ owner. subst (λ (l : List Record). IsChain view owner l) (sym (filter-append (λ (x : Record). eq_by_cmp owner_cmp owner x.owner) below s)) (joined owner (log_of owner below) (log_of owner s) refl refl);
      causes = each_append (plain.HasCauses view (below ++ s)) below s
          (each_from (plain.HasCauses view (below ++ s)) below (λ r c. causes_weaken view below (below ++ s) r (λ q d. Contains-append_left below s q d) (each (plain.HasCauses view below) below r closed.causes c)))
          (each_from (plain.HasCauses view (below ++ s)) s caused);
    }

  -- ---- from the whole to over the front

  -- whether the record is beyond the front in its own log
  abbrev is_beyond : Record → Bool
  is_beyond r = nat_lt (seq_of (front below) (head_key_of r.owner)) r.seq

  low_is_not : (r : Record) → Contains below r → is_beyond r ≡ false
  low_is_not r c = le-ltb (seq_of (front below) (head_key_of r.owner)) r.seq (low r c)

  nothing_goes : (owner : PubKey) (o : Option Stamp) → GoesOnFrom view owner o []
  nothing_goes owner None = tt
  nothing_goes owner (Some t) = tt

  module _ (t : List Record) (whole : plain.IsClosed view t) (from : (r : Record) → Contains t r → Contains below r ⊎ IsAbove r) where
    is_low : (r : Record) → Contains t r → is_beyond r ≡ false → Contains below r
    is_low r c e = ⊎_elim (λ d. d) (λ a. let high : is_beyond r ≡ true = lt-ltb (seq_of (front below) (head_key_of r.owner)) r.seq a.later in absurd (cc (high, e))) (from r c)

    -- the record of the set with the number that the front has of its log is the log's last one there
    is_last : (owner : PubKey) (p q : Record) → EndsWith below owner p → Contains below q → q.owner ≡ owner → p.seq ≤ q.seq → q ≡ p
    is_last owner p q ends c owned le = ⊎_elim (λ e. e) (λ less. absurd (omega (arith, less, le))) (is_last_or_before view below owner p q closed ends c owned)

    goes : (owner : PubKey) (xs : List Record) → log_of owner t ≡ xs → (zs : List Record) → log_of owner below ≡ zs
        → GoesOnFrom view owner (stamp_at (front below) (head_key_of owner)) (beyond (seq_of (front below) (head_key_of owner)) xs)
    goes owner [] e zs f = nothing_goes owner (stamp_at (front below) (head_key_of owner))
    goes owner (x ∷ xs) e zs f = by zs f
      where
        w : Contains t x × (x.owner ≡ owner)
        w = of_log t x owner (subst (λ (l : List Record). Contains l x) (sym e) (here x xs))

        member : Contains view.members owner
        member = subst (λ (o : PubKey). Contains view.members o) w.1 (each (λ q. Contains view.members q.owner) t x whole.members w.0)

        chain : IsChain view owner (x ∷ xs)
        chain = subst (λ (l : List Record). IsChain view owner l) e (whole.chains owner)

        by : (zs : List Record) → log_of owner below ≡ zs → GoesOnFrom view owner (stamp_at (front below) (head_key_of owner)) (beyond (seq_of (front below) (head_key_of owner)) (x ∷ xs))
        by [] f =
            let none = no_stamp owner member f in
            let zero : seq_of (front below) (head_key_of owner) ≡ 0 = ap reach none in
            let one = chain.1.seq in
            let first : nat_lt (seq_of (front below) (head_key_of owner)) x.seq ≡ true = lt-ltb (seq_of (front below) (head_key_of owner)) x.seq (omega (arith, zero, one)) in
            let all : beyond (seq_of (front below) (head_key_of owner)) (x ∷ xs) ≡ x ∷ xs =
            ap (λ b. cond b (x ∷ beyond (seq_of (front below) (head_key_of owner)) xs) (beyond (seq_of (front below) (head_key_of owner)) xs)) first
            ∙ ap (λ (l : List Record). x ∷ l) (all_beyond view owner x xs (seq_of (front below) (head_key_of owner)) (omega (arith, zero, one)) chain.2) in
            subst (λ (l : List Record). GoesOnFrom view owner (stamp_at (front below) (head_key_of owner)) l) (sym all)
            (subst (λ (o : Option Stamp). GoesOnFrom view owner o (x ∷ xs)) (sym none) chain)
        by (z ∷ zs) f =
            let p : Record = last_after z zs in
            let ends : EndsWith below owner p = record { first = z; rest = zs; log = f; last = refl } in
            let stamp = own_stamp view below owner p well closed member ends in
            let number : seq_of (front below) (head_key_of owner) ≡ p.seq = ap reach stamp in
            let began = (good_of view below p closed (last_stands below owner p ends)).spelled.some in
            let one = chain.1.seq in
            let first : nat_lt (seq_of (front below) (head_key_of owner)) x.seq ≡ false = le-ltb (seq_of (front below) (head_key_of owner)) x.seq (omega (arith, number, one, began)) in
            let later : beyond (seq_of (front below) (head_key_of owner)) (x ∷ xs) ≡ beyond (seq_of (front below) (head_key_of owner)) xs =
            ap (λ b. cond b (x ∷ beyond (seq_of (front below) (head_key_of owner)) xs) (beyond (seq_of (front below) (head_key_of owner)) xs)) first in
            subst (λ (l : List Record). GoesOnFrom view owner (stamp_at (front below) (head_key_of owner)) l) (sym later)
            (⊎_elim
            (λ none. subst (λ (l : List Record). GoesOnFrom view owner (stamp_at (front below) (head_key_of owner)) l) (sym none) (nothing_goes owner (stamp_at (front below) (head_key_of owner))))
            (λ b.
            let v = of_log t b.last owner (subst (λ (l : List Record). Contains l b.last) (sym e) b.within) in
            let numbered = b.number in
            let same_log : seq_of (front below) (head_key_of b.last.owner) ≡ seq_of (front below) (head_key_of owner) = ap (λ (o : PubKey). seq_of (front below) (head_key_of o)) v.1 in
            let in_below = is_low b.last v.0 (le-ltb (seq_of (front below) (head_key_of b.last.owner)) b.last.seq (omega (arith, numbered, same_log))) in
            let is : b.last ≡ p = is_last owner p b.last ends in_below v.1 (omega (arith, numbered, number)) in
            let comes : ComesNext view owner (own_entry p).1 b.first = record {
              good = b.good;
              seq = b.follows.seq ∙ ap (λ (r : Record). r.seq + 1) is;
              prev = b.follows.prev ∙ ap (λ (r : Record). r.name) is;
            } in
            subst (λ (l : List Record). GoesOnFrom view owner (stamp_at (front below) (head_key_of owner)) l) (sym b.are)
            (subst (λ (o : Option Stamp). GoesOnFrom view owner o (b.first ∷ b.rest)) (sym stamp) (comes, b.goes)))
            (split_at view owner x xs (seq_of (front below) (head_key_of owner)) (omega (arith, number, one, began)) chain.2))

    met : (r : Record) (e : Entry) (c : Record) → Contains t c → IsCause c e r → (b : Bool) → is_beyond c ≡ b → IsUnder (front below) e ⊎ ((q : Record) × Contains (filter is_beyond t) q × IsCause q e r)
    met r e c within cause true high = inr (c, in_filter is_beyond t c within high, cause)
    met r e c within cause false not_high =
        let in_below = is_low c within not_high in
        let l = ends_with below c.owner (λ none. in_nothing c (subst (λ (l : List Record). Contains l c) none (in_own_log below c c.owner in_below refl))) in
        let stamp = own_stamp view below c.owner l.0 well closed (member_of c in_below) l.1 in
        let number : seq_of (front below) (head_key_of c.owner) ≡ l.0.seq = ap reach stamp in
        inl (subst (λ (x : Entry). IsUnder (front below) x) cause.cited (⊎_elim
        (λ is. inr (stamp ∙ ap (λ (q : Record). Some (own_entry q).1) (sym is)))
        (λ less. inl (omega (arith, less, number)))
        (is_last_or_before view below c.owner l.0 c closed l.1 in_below refl)))

    pub over_is_closed : over.IsClosed view (front below) (filter is_beyond t)
    over_is_closed = record {
      ascending = passing_ascend is_beyond t whole.ascending;
      members = each_from (λ r. Contains view.members r.owner) (filter is_beyond t) (λ r c. each (λ q. Contains view.members q.owner) t r whole.members (from_filter is_beyond t r c).0);
      chains = λ owner. subst (λ (l : List Record). GoesOnFrom view owner (stamp_at (front below) (head_key_of owner)) l)
          (sym (same_tests owner is_beyond (seq_of (front below) (head_key_of owner)) (λ r f. ap (λ (o : PubKey). nat_lt (seq_of (front below) (head_key_of o)) r.seq) (same_owner owner r.owner f)) t))
          (goes owner (log_of owner t) refl (log_of owner below) refl);
      causes = each_from (over.HasCauses view (front below) (filter is_beyond t)) (filter is_beyond t) (λ r c. each_from (IsMet view (front below) (filter is_beyond t) r) r.vector (λ e within member.
          let w = each (λ (f : Entry). IsTrue (is_member view f.0) → (q : Record) × Contains t q × IsCause q f r) r.vector e (each (plain.HasCauses view t) t r whole.causes (from_filter is_beyond t r c).0) within member in
          met r e w.0 w.1 w.2 (is_beyond w.0) refl));
    }

  -- ---- the largest

  module _ (all : List Record) (above : (r : Record) → Contains all r → IsAbove r) where
    high : (r : Record) → Contains all r → is_beyond r ≡ true
    high r c = lt-ltb (seq_of (front below) (head_key_of r.owner)) r.seq (above r c).later

    by_sides : (t : List Record) → ((r : Record) → Contains t r → Contains (below ++ all) r) → (r : Record) → Contains t r → Contains below r ⊎ IsAbove r
    by_sides t within r c = ⊎_elim (λ d. inl d) (λ d. inr (above r d)) (Contains-append_cases below all r (within r c))

    pub to_whole : (s : List Record) → over.IsClosedPart view (front below) (Contains all) s → plain.IsClosedPart view (Contains (below ++ all)) (below ++ s)
    to_whole s p = record {
      part = λ r c. ⊎_elim (λ d. Contains-append_left below all r d) (λ d. Contains-append_right below all r (p.part r d)) (Contains-append_cases below s r c);
      closed = whole_is_closed s p.closed (λ r c. above r (p.part r c));
      largest = λ t within whole r c. by t within whole r c (is_beyond r) refl;
    }
      where
        by : (t : List Record) → ((r : Record) → Contains t r → Contains (below ++ all) r) → plain.IsClosed view t → (r : Record) → Contains t r → (b : Bool) → is_beyond r ≡ b → Contains (below ++ s) r
        by t within whole r c true e = Contains-append_right below s r (p.largest (filter is_beyond t)
            (λ q d. let w = from_filter is_beyond t q d in ⊎_elim (λ l. let not_high = low_is_not q l in let is_high = w.1 in absurd (cc (not_high, is_high))) (λ a. a) (Contains-append_cases below all q (within q w.0)))
            (over_is_closed t whole (by_sides t within)) r (in_filter is_beyond t r c e))
        by t within whole r c false e = ⊎_elim (λ d. Contains-append_left below s r d) (λ d. let is_high = high r d in absurd (cc (is_high, e))) (Contains-append_cases below all r (within r c))

    pub to_over : (s : List Record) → plain.IsClosedPart view (Contains (below ++ all)) (below ++ s) → over.IsClosedPart view (front below) (Contains all) s
    to_over s p = record {
      part = hand;
      closed = subst (λ (l : List Record). over.IsClosed view (front below) l) is_s (over_is_closed (below ++ s) p.closed (by_sides (below ++ s) p.part));
      largest = λ t within over_front r c. ⊎_elim
          (λ d. absurd (apart r (above r (within r c)) d)) (λ d. d)
          (Contains-append_cases below s r (p.largest (below ++ t)
          (λ q d. ⊎_elim (λ l. Contains-append_left below all q l) (λ l. Contains-append_right below all q (within q l)) (Contains-append_cases below t q d))
          (whole_is_closed t over_front (λ q d. above q (within q d))) r (Contains-append_right below t r c)));
    }
      where
        hand : (r : Record) → Contains s r → Contains all r
        hand r c = ⊎_elim (λ d. absurd (stands_once below s p.closed.ascending r d c)) (λ d. d) (Contains-append_cases below all r (p.part r (Contains-append_right below s r c)))

        is_s : filter is_beyond (below ++ s) ≡ s
        is_s = filter-append is_beyond below s
            ∙ ap (λ (l : List Record). l ++ filter is_beyond s) (none_pass_is is_beyond below low_is_not)
            ∙ all_pass_is is_beyond s (λ r c. high r (hand r c))

pub part_over_is_part_of_whole : PartOverIsPartOfWhole
part_over_is_part_of_whole view b below all s well stands above = (
  λ p. to_whole view below well stands.closed all each_above s (subst (λ (v : Vector). over.IsClosedPart view v (Contains all) s) stands.front p),
  λ p. subst (λ (v : Vector). over.IsClosedPart view v (Contains all) s) (sym stands.front) (to_over view below well stands.closed all each_above s p),
)
  where
    each_above : (r : Record) → Contains all r → IsAbove view below well stands.closed r
    each_above r c =
        let a = each (IsAboveTide b) all r above c in
        record { knows = subst (λ (v : Vector). Dominates (full_vector r) v) stands.front a.knows; later = subst (λ (v : Vector). seq_of v (head_key_of r.owner) < r.seq) stands.front a.later }
