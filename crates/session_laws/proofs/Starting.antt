-- What is held, or what a basis covers, ends of each member's log at a record that was known.
use Rattle.std.proofs.Common.{◌≡◌, ⊎_elim, Bool, true, false, cond, List, [], ◌∷◌, ◌++◌, map, Option, Some, None, refl, sym, ap, ◌∙◌, subst, Contains}
use Rattle.std.specs.Prelude.{◌≢◌, IfSome, fold, find, option_map}
use Rattle.std.specs.List.{AllByRecursion}
use Rattle.std.specs.Cmp.{eq_by_cmp_equiv}
use Rattle.std.specs.Ordering.{eq_by_cmp}
use Rattle.std.specs.FinMap.Entries.{find as value_at, find-put, put}
use Rattle.std.proofs.lemmas.List.{map-append}
use Rattle.std.proofs.lemmas.List.Sums.{fold-append}
use Rattle.std.proofs.lemmas.List.Elements.{filter-append}
use Rattle.ivy_base.specs.declared.key.Key.{Key}
use Rattle.ivy_base.specs.declared.key.PubKey.{PubKey}
use Rattle.ivy_base.specs.Naming.{head_key_of, key_cmp, owner_cmp}
use Rattle.tree_model.specs.Tree.{same_key}
use Rattle.tree_model.proofs.Keys.{keys_total, same_key_is, same_key_itself}
use Rattle.log_model.specs.View.{View, IsView, is_member}
use Rattle.log_model.specs.Vector.{Stamp, Entry, Vector, stamp_at, join}
use Rattle.log_model.specs.Record.{Record}
use Rattle.log_model.specs.Rank.{own_entry, full_vector, front}
use Rattle.log_model.specs.Closed.{log_of, IsClosed}
use Rattle.log_model.proofs.Chains.{last_after}
use Rattle.log_model.proofs.Later.{last_stands}
use Rattle.log_model.proofs.Lists.{each, each_right, in_filter, in_nothing}
use Rattle.log_model.proofs.Opening.{same_owner}
use Rattle.log_model.proofs.Owners.{owner_itself}
use Rattle.log_model.proofs.Part.{found_stamp}
use Rattle.log_model.proofs.Weights.{Sorted, sorted_front}
use Rattle.turn_laws.proofs.Heads.{one_member, member_is}
use Rattle.turn_laws.proofs.Starts.{Stands, front_stands, ends_with, own_stamp, good_last}
use Rattle.log_model.specs.Fetched.{Edge, as_edge}
use Rattle.turn_model.specs.Basis.{Basis, Holding, HoldsAll, Knows}
use Rattle.agent_model.specs.Agent.{joined}
use Rattle.agent_model.specs.Standing.{Standing, dominates, edges_of}
use Rattle.agent_model.specs.Candidates.{StandsWithin}
use Rattle.session_model.specs.Refreshing.{LoadsFor, Loaded, counting, start_of}
use Rattle.session_model.specs.Refreshing.LoadsFor.{some as snapshot_to_load}
use Rattle.session_model.specs.Brought.{Brought}
use Rattle.session_model.specs.Refreshing.Refreshes.{loading, fetching}
use Rattle.session_laws.specs.Bringing.{StartsFrom}
use Rattle.session_laws.specs.Starting.{StartIsKnown, StartIsSorted}

same_stamp : (a b : Stamp) → Some a ≡ Some b → a ≡ b
same_stamp a b e = cc e

one_stamp : (o : Option Stamp) (a b : Stamp) → o ≡ Some a → o ≡ Some b → a ≡ b
one_stamp o a b is also = same_stamp a b (sym is ∙ also)

no_stamp : (o : Option Stamp) (t : Stamp) → o ≡ None → o ≡ Some t → ⊥
no_stamp None t none e = cc e
no_stamp (Some s) t none e = cc none

entry_stamp : (e f : Entry) (t : Stamp) → e ≡ f → f.1 ≡ t → e.1 ≡ t
entry_stamp e f t same is = ap (λ (x : Entry). x.1) same ∙ is

entry_key : (e f : Entry) (log : Key) → e ≡ f → f.0 ≡ log → e.0 ≡ log
entry_key e f log same of_log = ap (λ (x : Entry). x.0) same ∙ of_log

-- ---- a front names records of its set

module _ (view : View) (owner : PubKey) (well : IsView view) (member : Contains view.members owner) where
  front_known : (known : List Record) → IsClosed view known → (t : Stamp) → stamp_at (front known) (head_key_of owner) ≡ Some t → (r : Record) × Contains known r × (r.owner ≡ owner) × ((own_entry r).1 ≡ t)
  front_known known closed t e = ⊎_elim
      (λ none. absurd (no_stamp (stamp_at (front known) (head_key_of owner)) t none e))
      (λ f.
      let is : is_member view f.0.0 ≡ true = subst (λ (k : Key). is_member view k ≡ true) (sym f.2) (member_is view owner member) in
      let w = each (Stands view known closed) (front known) f.0 (front_stands view known closed) f.1 is in
      let owned : w.0.owner ≡ owner = one_member view w.0.owner owner well (each (λ (q : Record). Contains view.members q.owner) known w.0 closed.members w.1) member (entry_key (own_entry w.0) f.0 (head_key_of owner) w.2 f.2) in
      (w.0, w.1, owned, entry_stamp (own_entry w.0) f.0 t w.2 (one_stamp (stamp_at (front known) (head_key_of owner)) f.0.1 t f.3 e)))
      (found_stamp (front known) (head_key_of owner))

  -- ---- edges of the records that are held

  -- of the last record, where there is one
  abbrev newest_edge : Option Edge → List Record → Option Edge
  newest_edge before [] = before
  newest_edge before (r ∷ rs) = newest_edge (Some (as_edge r)) rs

  newest_skips : (before : Option Edge) (xs : List Record) (y : Record) (ys : List Record) → newest_edge before (xs ++ y ∷ ys) ≡ newest_edge (Some (as_edge y)) ys
  newest_skips before [] y ys = refl
  newest_skips before (x ∷ xs) y ys = newest_skips (Some (as_edge x)) xs y ys

  newest_is_last : (before : Option Edge) (r : Record) (rs : List Record) → newest_edge before (r ∷ rs) ≡ Some (as_edge (last_after r rs))
  unfolding last_after
  newest_is_last before r [] = refl
  newest_is_last before r (q ∷ rs) = newest_is_last (Some (as_edge r)) q rs

  -- of the last of some and of those after them
  newest_behind : (xs ys : List Record) (p : Record) → newest_edge None (xs ++ ys) ≡ Some (as_edge p) → IfSome (newest_edge None ys) (λ e. e ≡ as_edge p)
  newest_behind xs [] p e = tt
  newest_behind xs (y ∷ ys) p e = subst (λ (o : Option Edge). IfSome o (λ x. x ≡ as_edge p)) (sym (sym (newest_skips None xs y ys) ∙ e)) refl

  abbrev with_edge : List (Key × Edge) → Record → List (Key × Edge)
  with_edge edges r = put key_cmp (head_key_of r.owner) (as_edge r) edges

  -- a member's record is of this log by its owner, and so by its head key
  of_log : (r : Record) → Contains view.members r.owner → eq_by_cmp key_cmp (head_key_of owner) (head_key_of r.owner) ≡ eq_by_cmp owner_cmp owner r.owner
  of_log r its = by (eq_by_cmp owner_cmp owner r.owner) (eq_by_cmp key_cmp (head_key_of owner) (head_key_of r.owner)) refl refl
    where
      by : (b k : Bool) → eq_by_cmp owner_cmp owner r.owner ≡ b → eq_by_cmp key_cmp (head_key_of owner) (head_key_of r.owner) ≡ k → k ≡ b
      by true k mine e = sym e ∙ subst (λ (o : PubKey). eq_by_cmp key_cmp (head_key_of owner) (head_key_of o) ≡ true) (sym (same_owner owner r.owner mine)) (same_key_itself (head_key_of owner))
      by false true other e =
          let same : owner ≡ r.owner = one_member view owner r.owner well member its (same_key_is (head_key_of owner) (head_key_of r.owner) e) in
          let itself : eq_by_cmp owner_cmp owner r.owner ≡ true = subst (λ (o : PubKey). eq_by_cmp owner_cmp owner o ≡ true) same (owner_itself owner) in
          sym itself ∙ other
      by false false other e = refl

  edge_of_newest : (edges : List (Key × Edge)) (rs : List Record) → AllByRecursion (λ r. Contains view.members r.owner) rs
      → value_at key_cmp (head_key_of owner) (fold with_edge edges rs) ≡ newest_edge (value_at key_cmp (head_key_of owner) edges) (log_of owner rs)
  edge_of_newest edges [] its = refl
  edge_of_newest edges (r ∷ rs) its =
      edge_of_newest (with_edge edges r) rs its.1
      ∙ ap (λ (o : Option Edge). newest_edge o (log_of owner rs)) (find-put key_cmp keys_total (head_key_of owner) (head_key_of r.owner) (as_edge r) edges)
      ∙ ap (λ (b : Bool). newest_edge (cond b (Some (as_edge r)) (value_at key_cmp (head_key_of owner) edges)) (log_of owner rs)) (of_log r its.0)
      ∙ by (eq_by_cmp owner_cmp owner r.owner)
    where
      by : (b : Bool) → newest_edge (cond b (Some (as_edge r)) (value_at key_cmp (head_key_of owner) edges)) (log_of owner rs)
          ≡ newest_edge (value_at key_cmp (head_key_of owner) edges) (cond b (r ∷ log_of owner rs) (log_of owner rs))
      by true = refl
      by false = refl

  -- the first entry of the log has its value
  found_value : (log : Key) (edges : List (Key × Edge)) → option_map (λ (e : Key × Edge). e.1) (find (λ (e : Key × Edge). same_key e.0 log) edges) ≡ value_at key_cmp log edges
  found_value log [] = refl
  found_value log (e ∷ edges) = by (same_key e.0 log) (eq_by_cmp key_cmp log e.0) ((eq_by_cmp_equiv keys_total).symm e.0 log) (found_value log edges)
    where
      by : (b c : Bool) → b ≡ c → option_map (λ (x : Key × Edge). x.1) (find (λ (x : Key × Edge). same_key x.0 log) edges) ≡ value_at key_cmp log edges
          → option_map (λ (x : Key × Edge). x.1) (cond b (Some e) (find (λ (x : Key × Edge). same_key x.0 log) edges)) ≡ cond c (Some e.1) (value_at key_cmp log edges)
      by true true same rest = refl
      by true false same rest = cc same
      by false true same rest = cc same
      by false false same rest = rest

  -- ---- where all that was known is held

  module _ (known below held : List Record) (whole : known ≡ below ++ held) (closed : IsClosed view known) where
    logs : log_of owner known ≡ log_of owner below ++ log_of owner held
    logs = ap (log_of owner) whole ∙ filter-append (λ (r : Record). eq_by_cmp owner_cmp owner r.owner) below held

    some_of_log : (r : Record) → Contains known r → r.owner ≡ owner → log_of owner known ≢ []
    some_of_log r within owned = λ none. in_nothing r (subst (λ (l : List Record). Contains l r) none
        (in_filter (λ (q : Record). eq_by_cmp owner_cmp owner q.owner) known r within (subst (λ (o : PubKey). eq_by_cmp owner_cmp owner o ≡ true) (sym owned) (owner_itself owner))))

    newest_known : (edges : List (Key × Edge)) → edges ≡ fold with_edge [] held → (t : Stamp) → stamp_at (front known) (head_key_of owner) ≡ Some t
        → (r : Record) × Contains known r × (r.owner ≡ owner) × ((own_entry r).1 ≡ t) × IfSome (option_map (λ (e : Key × Edge). e.1) (find (λ (e : Key × Edge). same_key e.0 (head_key_of owner)) edges)) (λ e. e ≡ as_edge r)
    newest_known edges of_held t e =
        let one = front_known known closed t e in
        let last = ends_with known owner (some_of_log one.0 one.1 one.2) in
        let at : Some (own_entry last.0).1 ≡ Some t = sym (own_stamp view known owner last.0 well closed member last.1) ∙ e in
        let members : AllByRecursion (λ r. Contains view.members r.owner) held = each_right (λ (r : Record). Contains view.members r.owner) below held (subst (AllByRecursion (λ (r : Record). Contains view.members r.owner)) whole closed.members) in
        let edge = found_value (head_key_of owner) edges ∙ ap (value_at key_cmp (head_key_of owner)) of_held ∙ edge_of_newest [] held members in
        let newest : newest_edge None (log_of owner below ++ log_of owner held) ≡ Some (as_edge last.0) =
        ap (newest_edge None) (sym logs ∙ last.1.log) ∙ newest_is_last None last.1.first last.1.rest ∙ ap (λ (r : Record). Some (as_edge r)) last.1.last in (
          last.0,
          last_stands known owner last.0 last.1,
          (good_last view known owner last.0 well closed member last.1).owned,
          same_stamp (own_entry last.0).1 t at,
          subst (λ (o : Option Edge). IfSome o (λ x. x ≡ as_edge last.0)) (sym edge) (newest_behind (log_of owner below) (log_of owner held) last.0 newest),
        )

-- how far all that is held goes is the front of what is known
pub joined_front : (view : View) (known : List Record) (h : Holding) → HoldsAll view known h → joined h ≡ front known
joined_front view known h all =
    ap (λ (v : Vector). fold join v (map full_vector h.held)) all.stands.front
    ∙ sym (fold-append join [] (map full_vector all.below) (map full_vector h.held))
    ∙ ap (fold join []) (sym (map-append full_vector all.below h.held))
    ∙ ap front (sym all.whole)

-- ---- the law

held_is_known : (s : Standing) (of : Holding) (knew : List Record) → IsView s.view → Knows s.view s.floor of knew → s.held ≡ joined of → s.edges ≡ edges_of of → StartsFrom s s.held knew
held_is_known s of knew well knows held edges owner member t e = ⊎_elim
    (λ nothing. absurd (no_stamp (stamp_at s.held (head_key_of owner)) t (ap (λ (v : Vector). stamp_at v (head_key_of owner)) (held ∙ ap joined nothing)) e))
    (λ all. newest_known s.view owner well member knew all.below of.held all.whole knows.closed s.edges edges t
    (ap (λ (v : Vector). stamp_at v (head_key_of owner)) (sym (held ∙ joined_front s.view knew of all)) ∙ e))
    knows.holds

basis_is_known : (s : Standing) (b : Basis) (knew : List Record) → IsView s.view → StandsWithin s.view knew b → s.edges ≡ [] → StartsFrom s b.front knew
basis_is_known s b knew well within none owner member t e =
    let w = front_known s.view owner well member within.0 within.1.closed t (ap (λ (v : Vector). stamp_at v (head_key_of owner)) (sym within.1.front) ∙ e) in (
      w.0,
      within.2 w.0 w.1,
      w.2,
      w.3,
      subst (λ (edges : List (Key × Edge)). IfSome (option_map (λ (x : Key × Edge). x.1) (find (λ (x : Key × Edge). same_key x.0 (head_key_of owner)) edges)) (λ x. x ≡ as_edge w.0)) (sym none) tt,
    )

-- a basis is loaded only where there is a snapshot
where_loaded : {P : Type 0} {root : Option Key} {brought : List Brought} {b : Basis} → LoadsFor root brought (Loaded (Some b)) → IfSome root (λ r. P) → P
where_loaded (snapshot_to_load loads) h = h

pub start_is_known : StartIsKnown
start_is_known s of knew _ _ _ _ well knows held edges nothing loaded (loading loads) = held_is_known s of knew well knows held edges
start_is_known s of knew _ notes _ end well knows held edges nothing loaded (fetching {loaded = blocks} basis loads fetches) = by basis loads loaded
  where
    by : (o : Option Basis) → LoadsFor s.to_load blocks (Loaded o) → IfSome (counting s.floor o) (StandsWithin s.view knew) → StartsFrom s (start_of s (counting s.floor o)) knew
    by None load within = held_is_known s of knew well knows held edges
    by (Some b) load within = chosen (dominates s.floor b.front) within
      where
        chosen : (test : Bool) → IfSome (cond test (Some b) None) (StandsWithin s.view knew) → StartsFrom s (start_of s (cond test (Some b) None)) knew
        chosen true is_within = basis_is_known s b knew well is_within (edges ∙ ap edges_of (where_loaded load nothing))
        chosen false is_within = held_is_known s of knew well knows held edges

held_is_sorted : (s : Standing) (of : Holding) (knew : List Record) → Knows s.view s.floor of knew → s.held ≡ joined of → Sorted s.held
held_is_sorted s of knew knows held = ⊎_elim
    (λ nothing. subst Sorted (sym (held ∙ ap joined nothing)) refl)
    (λ all. subst Sorted (sym (held ∙ joined_front s.view knew of all)) (sorted_front knew))
    knows.holds

pub start_is_sorted : StartIsSorted
start_is_sorted s of knew _ _ _ _ knows held loaded (loading loads) = held_is_sorted s of knew knows held
start_is_sorted s of knew _ notes _ end knows held loaded (fetching basis loads fetches) = by (counting s.floor basis) loaded
  where
    by : (o : Option Basis) → IfSome o (StandsWithin s.view knew) → Sorted (start_of s o)
    by None within = held_is_sorted s of knew knows held
    by (Some b) within = subst Sorted (sym within.1.front) (sorted_front within.0)
