-- What an agent knows of another view's members is closed under that view, where it names each log of the floor, and none as a member's that was a number only.
use Rattle.std.proofs.Common.{◌≡◌, ⊎_elim, inl, ℕ, ◌≤◌, Bool, true, false, cond, List, [], ◌∷◌, filter, Option, Some, None, refl, sym, ap, ◌∙◌, subst, arith, Contains}
use Rattle.std.specs.Prelude.{IsTrue}
use Rattle.std.specs.List.{AllByRecursion, list_any}
use Rattle.std.specs.Ordering.{eq_by_cmp}
use Rattle.ivy_base.specs.declared.key.Key.{Key}
use Rattle.ivy_base.specs.declared.key.PubKey.{PubKey}
use Rattle.ivy_base.specs.Naming.{head_key_of, owner_cmp}
use Rattle.tree_model.specs.Tree.{same_key}
use Rattle.tree_model.proofs.Keys.{same_key_is}
use Rattle.log_model.specs.Chain.{GoesOn, IsChain, IsGood}
use Rattle.log_model.specs.Closed.{HasCauses, IsAscending, IsCause, IsClosed, log_of}
use Rattle.log_model.specs.Rank.{front, full_vector, own_entry}
use Rattle.log_model.specs.Record.{Record}
use Rattle.log_model.specs.Standing.{Stand, StandsAmong}
use Rattle.log_model.specs.Vector.{Dominates, Entry, Stamp, Vector, reach, seq_of, stamp_at}
use Rattle.log_model.specs.View.{View, is_member, is_named}
use Rattle.log_model.proofs.Later.{good_of}
use Rattle.log_model.proofs.Lists.{each, each_from, from_filter, here, in_filter, in_nothing, some_passes, who_passes}
use Rattle.log_model.proofs.Opening.{same_owner}
use Rattle.log_model.proofs.Owners.{owner_itself}
use Rattle.log_model.proofs.Part.{found_stamp}
use Rattle.log_model.proofs.Sets.{filter_ascends}
use Rattle.log_model.proofs.Vectors.{Dominates-with_entry}
use Rattle.log_model.proofs.Weights.{Dominates-trans}
use Rattle.turn_laws.proofs.Heads.{member_is}
use Rattle.turn_laws.proofs.Starts.{front_dominates}
use Rattle.turn_model.specs.Basis.{Knows, nothing_held}
use Rattle.turn_model.specs.Known.{EndsAt, IsBacked, IsKnown, IsVerified}
use Rattle.world_model.specs.Logs.{of_members}
use Rattle.world_laws.proofs.NotRefused.{has_part, has_sorted}

-- ---- lists

cond_true : {A : Type 0} (b : Bool) (x y : A) → b ≡ true → cond b x y ≡ x
cond_true true x y e = refl
cond_true false x y e = cc e

-- what one test leaves passes the other
filter_within : (one other : Record → Bool) → ((r : Record) → one r ≡ true → other r ≡ true) → (rs : List Record) → filter one (filter other rs) ≡ filter one rs
filter_within one other both [] = refl
filter_within one other both (r ∷ rs) = by (other r) refl (one r) refl (filter_within one other both rs)
  where
    again : List Record
    again = filter one (filter other rs)

    passes : (a b : Bool) → a ≡ b → (x y : List Record) → x ≡ y → cond a (r ∷ x) x ≡ cond b (r ∷ y) y
    passes a b same x y e = λ i. cond (same i) (r ∷ e i) (e i)

    gone : (b : Bool) → b ≡ false → (x y : List Record) → x ≡ y → x ≡ cond b (r ∷ y) y
    gone true is x y e = cc is
    gone false is x y e = e

    by : (b : Bool) → other r ≡ b → (c : Bool) → one r ≡ c → again ≡ filter one rs → filter one (cond b (r ∷ filter other rs) (filter other rs)) ≡ filter one (r ∷ rs)
    by true is c of_one rest = passes (one r) (one r) refl again (filter one rs) rest
    by false is true of_one rest = let not : other r ≡ true = both r of_one in cc (sym is ∙ not)
    by false is false of_one rest = gone (one r) of_one again (filter one rs) rest

none_left : (rs : List Record) → ((r : Record) → Contains rs r → ⊥) → rs ≡ []
none_left [] h = refl
none_left (r ∷ rs) h = absurd (h r (here r rs))

-- ---- chains under another view

abbrev NamesOnly : View → Record → Type 0
NamesOnly view r = AllByRecursion (λ e. IsTrue (is_named view e.0)) r.vector

good_in : (old view : View) (owner : PubKey) (r : Record) → NamesOnly view r → IsGood old owner r → IsGood view owner r
good_in old view owner r named h = record { owned = h.owned; spelled = h.spelled; number = h.number; named = named }

goes_in : (old view : View) (owner : PubKey) (p : Record) (rs : List Record) → AllByRecursion (NamesOnly view) rs → GoesOn old owner p rs → GoesOn view owner p rs
goes_in old view owner p [] named h = tt
goes_in old view owner p (r ∷ rs) named h = (good_in old view owner r named.0 h.0, h.1, goes_in old view owner r rs named.1 h.2)

chain_in : (old view : View) (owner : PubKey) (rs : List Record) → AllByRecursion (NamesOnly view) rs → IsChain old owner rs → IsChain view owner rs
chain_in old view owner [] named h = tt
chain_in old view owner (r ∷ rs) named h = (good_in old view owner r named.0 h.0, h.1, goes_in old view owner r rs named.1 h.2)

-- ---- members

-- who is a member by a head key
member_of : (view : View) (log : Key) → is_member view log ≡ true → (k : PubKey) × Contains view.members k × (head_key_of k ≡ log)
member_of view log h = let w = who_passes (λ k. same_key (head_key_of k) log) view.members h in (w.0, w.1, same_key_is (head_key_of w.0) log w.2)

abbrev is_in : View → PubKey → Bool
is_in view owner = list_any (eq_by_cmp owner_cmp owner) view.members

is_member_key : (view : View) (owner : PubKey) → is_in view owner ≡ true → Contains view.members owner
is_member_key view owner h = let w = who_passes (eq_by_cmp owner_cmp owner) view.members h in subst (Contains view.members) (same_owner owner w.0 w.2) w.1

is_in_of : (view : View) (owner : PubKey) → Contains view.members owner → is_in view owner ≡ true
is_in_of view owner c = some_passes (eq_by_cmp owner_cmp owner) view.members owner c (owner_itself owner)

-- ---- what is known of the members of another view

-- The other view names each log of the floor, and as a member's only a member's; and members of both have a head key each.
pub record TakesIn (old view : View) (floor : Vector) : Type 0 where
  pub named : (e : Entry) → Contains floor e → is_named view e.0 ≡ true
  pub members : (e : Entry) → Contains floor e → is_member view e.0 ≡ true → is_member old e.0 ≡ true
  pub one_key : (a b : PubKey) → Contains old.members a → Contains view.members b → head_key_of a ≡ head_key_of b → a ≡ b

module _ (old view : View) (floor : Vector) (known : List Record) (takes : TakesIn old view floor) (by_floor : IsKnown old floor known) (closed : IsClosed old known) (covers : Dominates floor (front known)) where
  abbrev left : List Record
  left = of_members view known

  abbrev of_one : Record → Bool
  of_one r = is_in view r.owner

  from_left : (r : Record) → Contains left r → Contains known r × Contains view.members r.owner
  from_left r c = let w = from_filter of_one known r c in (w.0, is_member_key view r.owner w.1)

  into_left : (r : Record) → Contains known r → Contains view.members r.owner → Contains left r
  into_left r c member = in_filter of_one known r c (is_in_of view r.owner member)

  -- an entry of what is known is of a log that the floor has
  in_floor : (r : Record) → Contains known r → (e : Entry) → Contains r.vector e → (d : Entry) × Contains floor d × (d.0 ≡ e.0)
  in_floor r c e e_in =
      let good : IsGood old r.owner r = good_of old known r closed c in
      let far : e.1.seq ≤ seq_of floor e.0 = each (λ (x : Entry). x.1.seq ≤ seq_of floor x.0) r.vector e
      (has_sorted floor r.vector good.spelled.in_order (Dominates-trans floor (front known) r.vector covers (Dominates-trans (front known) (full_vector r) r.vector (front_dominates known r c) (Dominates-with_entry r.vector (own_entry r))))) e_in in
      let some = (each _ r.vector e good.spelled.entries e_in).1 in
      ⊎_elim
      (λ none. let zero : seq_of floor e.0 ≡ 0 = ap reach none in absurd (omega (arith, zero, far, some)))
      (λ f. (f.0, f.1, f.2))
      (found_stamp floor e.0)

  names_only : (r : Record) → Contains known r → NamesOnly view r
  names_only r c = each_from _ r.vector (λ e e_in. let d = in_floor r c e e_in in subst (λ log. IsTrue (is_named view log)) d.2 (takes.named d.0 d.1))

  all_name : (owner : PubKey) → AllByRecursion (NamesOnly view) (log_of owner known)
  all_name owner = each_from (NamesOnly view) (log_of owner known) (λ r c. names_only r (from_filter (λ (q : Record). eq_by_cmp owner_cmp owner q.owner) known r c).0)

  -- ---- logs

  log_left : (owner : PubKey) → Contains view.members owner → log_of owner left ≡ log_of owner known
  log_left owner member = filter_within (λ (r : Record). eq_by_cmp owner_cmp owner r.owner) of_one (λ r own. is_in_of view r.owner (subst (Contains view.members) (sym (same_owner owner r.owner own)) member)) known

  no_log : (owner : PubKey) → (Contains view.members owner → ⊥) → log_of owner left ≡ []
  no_log owner stranger = none_left (log_of owner left) (λ r c.
      let w = from_filter (λ (q : Record). eq_by_cmp owner_cmp owner q.owner) left r c in
      stranger (subst (Contains view.members) (same_owner owner r.owner w.1) (from_left r w.0).1))

  chains : (owner : PubKey) → IsChain view owner (log_of owner left)
  chains owner = by (is_in view owner) refl
    where
      by : (b : Bool) → is_in view owner ≡ b → IsChain view owner (log_of owner left)
      by true is = subst (IsChain view owner) (sym (log_left owner (is_member_key view owner is))) (chain_in old view owner (log_of owner known) (all_name owner) (by_floor.chains owner))
      by false is = subst (IsChain view owner) (sym (no_log owner (λ member. let not : is_in view owner ≡ true = is_in_of view owner member in cc (sym is ∙ not)))) tt

  -- whose log the floor has, was a member
  was_member : (owner : PubKey) → Contains view.members owner → (t : Stamp) → stamp_at floor (head_key_of owner) ≡ Some t → Contains old.members owner
  was_member owner member t at = ⊎_elim
      (λ none. cc (sym none ∙ at))
      (λ f.
      let e : Entry = f.0 in
      let before : is_member old e.0 ≡ true = takes.members e f.1 (subst (λ log. is_member view log ≡ true) (sym f.2) (member_is view owner member)) in
      let k = member_of old e.0 before in
      subst (Contains old.members) (takes.one_key k.0 owner k.1 member (k.2 ∙ f.2)) k.1)
      (found_stamp floor (head_key_of owner))

  ends : (owner : PubKey) → Contains view.members owner → EndsAt (stamp_at floor (head_key_of owner)) (log_of owner left)
  ends owner member = subst (EndsAt (stamp_at floor (head_key_of owner))) (sym (log_left owner member)) (by (stamp_at floor (head_key_of owner)) refl)
    where
      by : (o : Option Stamp) → stamp_at floor (head_key_of owner) ≡ o → EndsAt o (log_of owner known)
      by (Some t) at = subst (λ o. EndsAt o (log_of owner known)) at (by_floor.ends owner (was_member owner member t at))
      by None at = none_left (log_of owner known) (λ r c.
          let w = from_filter (λ (q : Record). eq_by_cmp owner_cmp owner q.owner) known r c in
          let own : Contains old.members owner = subst (Contains old.members) (same_owner owner r.owner w.1) (each (λ (q : Record). Contains old.members q.owner) known r by_floor.members w.0) in
          in_nothing r (subst (λ l. Contains l r) (subst (λ o. EndsAt o (log_of owner known)) at (by_floor.ends owner own)) c))

  members : AllByRecursion (λ (r : Record). Contains view.members r.owner) left
  members = each_from (λ (r : Record). Contains view.members r.owner) left (λ r c. (from_left r c).1)

  ascending : IsAscending left
  ascending = filter_ascends of_one known by_floor.ascending

  causes : (r : Record) → Contains left r → HasCauses view left r
  causes r c = each_from _ r.vector (λ e e_in member.
      let its = from_left r c in
      let d = in_floor r its.0 e e_in in
      let before : is_member old e.0 ≡ true = subst (λ log. is_member old log ≡ true) d.2 (takes.members d.0 d.1 (subst (λ log. is_member view log ≡ true) (sym d.2) member)) in
      let cause = each (λ (x : Entry). IsTrue (is_member old x.0) → (q : Record) × Contains known q × IsCause q x r) r.vector e (each (HasCauses old known) known r closed.causes its.0) e_in before in
      let k = member_of view e.0 member in
      let key : head_key_of cause.0.owner ≡ e.0 = ap (λ (x : Entry). x.0) cause.2.cited in
      let same : cause.0.owner ≡ k.0 = takes.one_key cause.0.owner k.0 (each (λ (q : Record). Contains old.members q.owner) known cause.0 closed.members cause.1) k.1 (key ∙ sym k.2) in
      (cause.0, into_left cause.0 cause.1 (subst (Contains view.members) (sym same) k.1), cause.2))

  pub closed_in : IsClosed view left
  closed_in = record { ascending = ascending; members = members; chains = chains; causes = each_from (HasCauses view left) left causes }

  pub known_in : IsKnown view floor left
  known_in = record { ascending = ascending; members = members; chains = chains; ends = ends }

  pub knows_in : Knows view floor nothing_held left
  knows_in = record { by_floor = known_in; closed = closed_in; holds = inl refl }

  pub stands_in : (met : List (List ℕ)) → Stand met known → Stand met left
  stands_in met h = each_from (StandsAmong met) left (λ r c. each (StandsAmong met) known r h (from_left r c).0)

  pub verified_in : (met : List (List ℕ)) (own : PubKey) (heads : List Entry) → IsVerified met old own floor heads known → IsVerified met view own floor heads left
  verified_in met own heads h = record {
    chains = chains;
    backed = each_from (IsBacked met own floor heads) left (λ r c. each (IsBacked met own floor heads) known r h.backed (from_left r c).0);
  }

  pub covered_in : Dominates floor (front left)
  covered_in log = ⊎_elim
      (λ none. let zero : seq_of (front left) log ≡ 0 = ap reach none in omega (arith, zero))
      (λ f.
      let e : Entry = f.0 in
      let low : e.1.seq ≤ seq_of (front known) e.0 = each (λ (x : Entry). x.1.seq ≤ seq_of (front known) x.0) (front left) e (has_part old known closed left (λ r c. (from_left r c).0)) f.1 in
      let at : seq_of (front left) log ≡ e.1.seq = ap reach f.3 in
      let same : seq_of (front known) e.0 ≡ seq_of (front known) log = ap (seq_of (front known)) f.2 in
      let far : seq_of (front known) log ≤ seq_of floor log = covers log in
      omega (arith, low, at, same, far))
      (found_stamp (front left) log)

  -- of its own log nothing is lost
  pub own_log : (owner : PubKey) → Contains view.members owner → log_of owner left ≡ log_of owner known
  own_log = log_left
