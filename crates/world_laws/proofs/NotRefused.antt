-- An agent that has no snapshot to load and no basis isn't refused its turn: it holds what its refresh started from, or all that it knows.
use Rattle.std.proofs.Common.{◌≡◌, ◌≤◌, Bool, true, false, cond, not, ◌&&◌, ◌||◌, List, [], ◌∷◌, filter, Option, Some, None, refl, sym, ap, ◌∙◌, subst, arith, le-leb, ltb-true, lt-ltb, Contains}
use Rattle.std.specs.Prelude.{nat_lt, nat_le}
use Rattle.std.specs.Option.{option_map_or}
use Rattle.std.specs.List.{AllByRecursion, list_any}
use Rattle.std.specs.Ordering.{eq_by_cmp}
use Rattle.std.proofs.lemmas.List.Elements.{Contains-append_right}
use Rattle.ivy_base.specs.declared.key.PubKey.{PubKey}
use Rattle.ivy_base.specs.Naming.{head_key_of, key_cmp, owner_cmp}
use Rattle.tree_model.proofs.Keys.{keys_total, same_key_itself}
use Rattle.log_model.specs.View.{View}
use Rattle.log_model.specs.Vector.{Entry, Stamp, Vector, Dominates, stamp_at, seq_of, reach}
use Rattle.log_model.specs.Record.{Record}
use Rattle.log_model.specs.Rank.{front, full_vector, own_entry}
use Rattle.log_model.specs.Closed.{IsClosed, log_of}
use Rattle.log_model.proofs.Later.{good_of, seq_with}
use Rattle.log_model.proofs.Lists.{all_pass, each, each_from, from_filter, here, in_nothing}
use Rattle.log_model.proofs.Opening.{same_owner}
use Rattle.log_model.proofs.Weights.{Sorted, sorted_with_entry}
use Rattle.turn_model.specs.Basis.{Basis, Holding, HoldsAll, fresh_basis}
use Rattle.turn_model.specs.Known.{EndsAt, IsKnown}
use Rattle.turn_laws.proofs.Entries.{each_front}
use Rattle.turn_laws.proofs.Starts.{front_dominates}
use Rattle.agent_model.specs.Agent.{joined}
use Rattle.agent_model.specs.Standing.{Chain, Refresh, beyond, dominates, go_on_from, new_in, new_records}
use Rattle.agent_model.specs.Turning.{is_above, is_behind, is_below_tide, is_there, lacks}
use Rattle.session_laws.proofs.NotBehind.{none_passes}
use Rattle.session_laws.proofs.OwnParts.{from_flat_map}
use Rattle.snapshot_model.proofs.SortedEntries.{each_found}
use Rattle.session_laws.proofs.Starting.{joined_front}

-- ---- how far all that is known goes

-- a vector goes as far as each entry of another
abbrev pub HasEach : Vector → Vector → Type 0
HasEach v w = AllByRecursion (λ e. e.1.seq ≤ seq_of v e.0) w

pub has_sorted : (v w : Vector) → Sorted w → Dominates v w → HasEach v w
has_sorted v w sorted far = each_from (λ (e : Entry). e.1.seq ≤ seq_of v e.0) w (λ e c.
    let at : seq_of w e.0 ≡ e.1.seq = ap reach (each (λ (d : Entry). stamp_at w d.0 ≡ Some d.1) w e (each_found key_cmp keys_total w sorted) c) in
    let le : seq_of w e.0 ≤ seq_of v e.0 = far e.0 in
    omega (arith, at, le))

pub goes_far : (v w : Vector) → HasEach v w → dominates v w ≡ true
goes_far v w has = all_pass (λ (e : Entry). nat_le e.1.seq (seq_of v e.0)) w (λ e c. le-leb e.1.seq (seq_of v e.0) (each (λ (d : Entry). d.1.seq ≤ seq_of v d.0) w e has c))

module _ (view : View) (known : List Record) (closed : IsClosed view known) where
  has_record : (r : Record) → Contains known r → HasEach (front known) (full_vector r)
  has_record r c = has_sorted (front known) (full_vector r) (sorted_with_entry r.vector (own_entry r) (good_of view known r closed c).spelled.in_order) (front_dominates known r c)

  pub has_part : (below : List Record) → ((r : Record) → Contains below r → Contains known r) → HasEach (front known) (front below)
  has_part below within = each_front (λ (e : Entry). e.1.seq ≤ seq_of (front known) e.0) below
      (each_from (λ (r : Record). HasEach (front known) (full_vector r)) below (λ r c. has_record r (within r c)))

  -- the record that the floor names is known
  has_floor : (owner : PubKey) (t : Stamp) → EndsAt (Some t) (log_of owner known) → t.seq ≤ seq_of (front known) (head_key_of owner)
  has_floor owner t ends =
      let last = ends.1 in
      let w = from_filter (λ (q : Record). eq_by_cmp owner_cmp owner q.owner) known last (subst (λ (l : List Record). Contains l last) (sym ends.2) (Contains-append_right ends.0 (last ∷ []) last (here last []))) in
      let owned : last.owner ≡ owner = same_owner owner last.owner w.1 in
      let far : seq_of (full_vector last) (head_key_of last.owner) ≤ seq_of (front known) (head_key_of last.owner) = front_dominates known last w.0 (head_key_of last.owner) in
      let itself : seq_of (full_vector last) (head_key_of last.owner) ≡ last.seq = seq_with last.vector last (head_key_of last.owner) (good_of view known last closed w.0).spelled.of_others
      ∙ ap (λ (b : Bool). cond b last.seq (seq_of last.vector (head_key_of last.owner))) (same_key_itself (head_key_of last.owner)) in
      let number : last.seq ≡ t.seq = ap (λ (x : Stamp). x.seq) ends.3 in
      subst (λ (o : PubKey). t.seq ≤ seq_of (front known) (head_key_of o)) owned (omega (arith, far, itself, number))

-- ---- not behind

either : (a b : Bool) → a ≡ true → b ≡ false → (not a || b) ≡ false
either true b f g = g
either false b f g = cc f

-- an agent that holds all that it knows
module _ (view : View) (known : List Record) (h : Holding) (floor : Vector) (closed : IsClosed view known) (by_floor : IsKnown view floor known) (all : HoldsAll view known h) where
  pub has_held : (w : Vector) → HasEach (front known) w → dominates (joined h) w ≡ true
  has_held w has = goes_far (joined h) w (subst (λ (v : Vector). HasEach v w) (sym (joined_front view known h all)) has)

  lacks_none : (new : List Record) (owner : PubKey) → Contains view.members owner → lacks floor (joined h) new (head_key_of owner) ≡ false
  lacks_none new owner member = by (stamp_at floor (head_key_of owner)) (by_floor.ends owner member)
    where
      by : (o : Option Stamp) → EndsAt o (log_of owner known) → option_map_or (λ t. nat_lt (seq_of (joined h) (head_key_of owner)) t.seq && not (is_there new (head_key_of owner) t)) o false ≡ false
      by None ends = refl
      by (Some t) ends = chosen (nat_lt (seq_of (joined h) (head_key_of owner)) t.seq) refl
        where
          chosen : (b : Bool) → nat_lt (seq_of (joined h) (head_key_of owner)) t.seq ≡ b → (b && not (is_there new (head_key_of owner) t)) ≡ false
          chosen false near = refl
          chosen true far =
              let less = ltb-true (seq_of (joined h) (head_key_of owner)) t.seq far in
              let reached = has_floor view known closed owner t ends in
              let same : seq_of (joined h) (head_key_of owner) ≡ seq_of (front known) (head_key_of owner) = ap (λ (v : Vector). seq_of v (head_key_of owner)) (joined_front view known h all) in
              absurd (omega (arith, less, reached, same))

  pub all_held_not_behind : (own : PubKey) (given : Refresh) → dominates (joined h) given.started ≡ true → is_behind view own floor h given ≡ false
  all_held_not_behind own given far =
      either (dominates (joined h) given.started) (list_any (λ owner. lacks floor (joined h) (new_records own floor h given) (head_key_of owner)) view.members) far
      (none_passes (λ (owner : PubKey). lacks floor (joined h) (new_records own floor h given) (head_key_of owner)) view.members
      (each_from (λ (owner : PubKey). lacks floor (joined h) (new_records own floor h given) (head_key_of owner) ≡ false) view.members (λ owner member. lacks_none (new_records own floor h given) owner member)))

-- ---- not below the tide

-- what is new has a number
module _ (own : PubKey) (floor : Vector) (h : Holding) where
  in_beyond : (v : Vector) (c : Chain) (r : Record) → Contains (beyond v c) r → 1 ≤ r.seq
  in_beyond v c r within = by (go_on_from (stamp_at v (head_key_of c.owner)) (filter (λ q. nat_lt (seq_of v (head_key_of c.owner)) q.seq) c.records)) within
    where
      by : (b : Bool) → Contains (cond b (filter (λ q. nat_lt (seq_of v (head_key_of c.owner)) q.seq) c.records) []) r → 1 ≤ r.seq
      by false none = absurd (in_nothing r none)
      by true some =
          let less = ltb-true (seq_of v (head_key_of c.owner)) r.seq (from_filter (λ (q : Record). nat_lt (seq_of v (head_key_of c.owner)) q.seq) c.records r some).1 in
          omega (arith, less)

  in_new : (c : Chain) (r : Record) → Contains (new_in own floor h c) r → 1 ≤ r.seq
  in_new c r within = by (eq_by_cmp owner_cmp own c.owner) within
    where
      by : (b : Bool) → Contains (cond b (filter (λ q. nat_le q.seq (seq_of floor (head_key_of c.owner))) (beyond (joined h) c)) (beyond (joined h) c)) r → 1 ≤ r.seq
      by true mine = in_beyond (joined h) c r (from_filter (λ (q : Record). nat_le q.seq (seq_of floor (head_key_of c.owner))) (beyond (joined h) c) r mine).0
      by false its = in_beyond (joined h) c r its

  is_new : (given : Refresh) (r : Record) → Contains (new_records own floor h given) r → 1 ≤ r.seq
  is_new given r within = let w = from_flat_map (new_in own floor h) given.chains r within in in_new w.0 r w.2

  above_fresh : (r : Record) → 1 ≤ r.seq → is_above fresh_basis r ≡ true
  above_fresh r some = lt-ltb 0 r.seq (omega (arith, some))

  pub fresh_not_below : (given : Refresh) → h.basis ≡ fresh_basis → is_below_tide own floor h given ≡ false
  fresh_not_below given fresh = none_passes (λ (r : Record). not (is_above h.basis r)) (new_records own floor h given)
      (each_from (λ (r : Record). not (is_above h.basis r) ≡ false) (new_records own floor h given)
      (λ r c. subst (λ (b : Basis). not (is_above b r) ≡ false) (sym fresh) (ap not (above_fresh r (is_new given r c)))))
