-- The front of a closed set: where all of it is held, how far it goes in a log, and which records are above a basis.
use Rattle.std.proofs.Common.{◌≡◌, ⊎_elim, ℕ, ◌+◌, ◌≤◌, true, List, [], ◌∷◌, ◌++◌, length, map, fold, Option, Some, None, refl, sym, ap, ◌∙◌, subst, arith, Contains, leb-true, ltb-true}
use Rattle.std.specs.Prelude.{IsTrue, nat_lt, nat_le}
use Rattle.std.specs.Ordering.{eq_by_cmp}
use Rattle.std.proofs.lemmas.List.{map-append}
use Rattle.std.proofs.lemmas.List.Sums.{fold-append}
use Rattle.std.proofs.lemmas.List.Elements.{filter-append}
use Rattle.ivy_base.specs.declared.key.Key.{Key}
use Rattle.ivy_base.specs.declared.key.PubKey.{PubKey}
use Rattle.ivy_base.specs.Naming.{owner_cmp, head_key_of}
use Rattle.tree_model.proofs.Sound.{both_true}
use Rattle.log_model.specs.View.{View, IsView, is_member}
use Rattle.log_model.specs.Vector.{Entry, Stamp, Vector, stamp_at, reach, seq_of, Dominates, join}
use Rattle.log_model.specs.Record.{Record}
use Rattle.log_model.specs.Rank.{own_entry, full_vector, front}
use Rattle.log_model.specs.Closed.{log_of, IsClosed}
use Rattle.log_model.proofs.Lists.{in_nothing, each, in_filter, from_filter, passes}
use Rattle.log_model.proofs.Chains.{last_after}
use Rattle.log_model.proofs.Owners.{owner_itself}
use Rattle.log_model.proofs.Opening.{same_owner}
use Rattle.log_model.proofs.Part.{Numbered, numbered, found_stamp}
use Rattle.turn_model.specs.Basis.{Basis, IsAboveTide}
use Rattle.turn_laws.proofs.Heads.{one_member, member_is}
use Rattle.turn_laws.proofs.Starts.{Stands, front_stands, own_stamp}
use Rattle.agent_model.specs.Standing.{dominates}
use Rattle.agent_model.specs.Turning.{is_above}
use Rattle.turn_laws.specs.Laws.{FrontIsJoined}
use Rattle.turn_laws.proofs.Rows.{last_from}

-- ---- the owner's records

pub in_log : (owner : PubKey) (s : List Record) (r : Record) → Contains s r → r.owner ≡ owner → Contains (log_of owner s) r
in_log owner s r c owned = in_filter (λ (x : Record). eq_by_cmp owner_cmp owner x.owner) s r c (subst (λ (o : PubKey). eq_by_cmp owner_cmp owner o ≡ true) (sym owned) (owner_itself owner))

pub from_log : (owner : PubKey) (s : List Record) (r : Record) → Contains (log_of owner s) r → Contains s r × (r.owner ≡ owner)
from_log owner s r c = let w = from_filter (λ (x : Record). eq_by_cmp owner_cmp owner x.owner) s r c in (w.0, same_owner owner r.owner w.1)

pub log-append : (owner : PubKey) (s t : List Record) → log_of owner (s ++ t) ≡ log_of owner s ++ log_of owner t
log-append owner s t = filter-append (λ (x : Record). eq_by_cmp owner_cmp owner x.owner) s t

-- ---- the front in a log

last_from_is : (p : Record) (rs : List Record) → last_from (Some (own_entry p).1) rs ≡ Some (own_entry (last_after p rs)).1
unfolding last_after
last_from_is p [] = refl
last_from_is p (r ∷ rs) = last_from_is r rs

last_number : (n : ℕ) (p : Record) (rs : List Record) → Numbered n (p ∷ rs) → (last_after p rs).seq + 1 ≡ n + length (p ∷ rs)
unfolding last_after
last_number n p [] h = let e = h.0 in omega (arith, e)
last_number n p (r ∷ rs) h = let more = last_number (n + 1) r rs h.1 in omega (arith, more)

module _ (view : View) (s : List Record) (owner : PubKey) (well : IsView view) (closed : IsClosed view s) (member : Contains view.members owner) where
  none_of : (o : Option Stamp) → stamp_at (front s) (head_key_of owner) ≡ o → log_of owner s ≡ [] → o ≡ None
  none_of None e none = refl
  none_of (Some t) e none = ⊎_elim
      (λ nothing. sym e ∙ nothing)
      (λ f.
      let w = each (Stands view s closed) (front s) f.0 (front_stands view s closed) f.1 (subst (λ (k : Key). IsTrue (is_member view k)) (sym f.2) (member_is view owner member)) in
      let owned = one_member view w.0.owner owner well (each (λ r. Contains view.members r.owner) s w.0 closed.members w.1) member (ap (λ (x : Entry). x.0) w.2 ∙ f.2) in
      absurd (in_nothing w.0 (subst (λ (l : List Record). Contains l w.0) none (in_log owner s w.0 w.1 owned))))
      (found_stamp (front s) (head_key_of owner))

  stamp_by : (log : List Record) → log_of owner s ≡ log → stamp_at (front s) (head_key_of owner) ≡ last_from None log
  stamp_by [] e = none_of (stamp_at (front s) (head_key_of owner)) refl e
  stamp_by (p ∷ rs) e =
      own_stamp view s owner (last_after p rs) well closed member (record { first = p; rest = rs; log = e; last = refl }) ∙ sym (last_from_is p rs)

  -- the front has a member's log up to its last record
  pub stamp_of_log : stamp_at (front s) (head_key_of owner) ≡ last_from None (log_of owner s)
  stamp_of_log = stamp_by (log_of owner s) refl

  reach_by : (log : List Record) → Numbered 1 log → reach (last_from None log) ≡ length log
  reach_by [] h = refl
  reach_by (p ∷ rs) h = let e : reach (last_from (Some (own_entry p).1) rs) ≡ (last_after p rs).seq = ap reach (last_from_is p rs) in let n = last_number 1 p rs h in omega (arith, e, n)

  pub reach_of_log : seq_of (front s) (head_key_of owner) ≡ length (log_of owner s)
  reach_of_log = ap reach stamp_of_log ∙ reach_by (log_of owner s) (numbered view owner (log_of owner s) (closed.chains owner))

-- ---- the front of what is held

pub front_is_joined : FrontIsJoined
front_is_joined view s h holds =
    ap front holds.whole
    ∙ ap (λ (vs : List Vector). fold join [] vs) (map-append full_vector holds.below h.held)
    ∙ fold-append join [] (map full_vector holds.below) (map full_vector h.held)
    ∙ ap (λ (v : Vector). fold join v (map full_vector h.held)) (sym holds.stands.front)

-- ---- the tests that a turn makes

pub far_enough : (v w : Vector) → dominates v w ≡ true → Dominates v w
far_enough v w h log = ⊎_elim
    (λ none. let zero : seq_of w log ≡ 0 = ap reach none in omega (arith, zero))
    (λ f.
    let le : f.0.1.seq ≤ seq_of v f.0.0 = leb-true f.0.1.seq (seq_of v f.0.0) (passes (λ (e : Entry). nat_le e.1.seq (seq_of v e.0)) w f.0 h f.1) in
    let at : seq_of w log ≡ f.0.1.seq = ap reach f.3 in
    let same : seq_of v f.0.0 ≡ seq_of v log = ap (λ (k : Key). seq_of v k) f.2 in
    omega (arith, le, at, same))
    (found_stamp w log)

pub is_above_tide : (b : Basis) (r : Record) → is_above b r ≡ true → IsAboveTide b r
is_above_tide b r h =
    let parts = both_true (dominates (full_vector r) b.front) (nat_lt (seq_of b.front (head_key_of r.owner)) r.seq) h in
    record { knows = far_enough (full_vector r) b.front parts.0; later = ltb-true (seq_of b.front (head_key_of r.owner)) r.seq parts.1 }
