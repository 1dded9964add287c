-- What a turn takes by what is held is what it takes by the definition.
use Rattle.std.proofs.Common.{◌≡◌, ◌⊎◌, inl, inr, ⊎_elim, ℕ, ◌≤◌, Bool, true, false, cond, List, [], ◌∷◌, ◌++◌, map, filter, Option, Some, None, refl, sym, ap, ◌∙◌, subst, arith, Contains, le-leb}
use Rattle.std.specs.Prelude.{◌&&◌, is_some, IfSome, nat_le, nat_lt}
use Rattle.std.specs.List.{AllByRecursion}
use Rattle.std.specs.Ordering.{eq_by_cmp}
use Rattle.std.proofs.lemmas.List.{append-nil}
use Rattle.ivy_base.specs.declared.key.PubKey.{PubKey}
use Rattle.ivy_base.specs.Naming.{IsCollisionFree, head_key_of, owner_cmp}
use Rattle.log_model.specs.View.{View, IsView}
use Rattle.log_model.specs.Vector.{Stamp, Vector, stamp_at, reach, seq_of}
use Rattle.log_model.specs.Record.{Record}
use Rattle.log_model.specs.Closed.{log_of, IsClosed, IsClosedPart}
use Rattle.log_model.specs.Replay.{in_order}
use Rattle.log_model.specs.Standing.{StandsAmong}
use Rattle.log_model.proofs.Lists.{in_nothing, each, each_from}
use Rattle.log_model.proofs.Opening.{same_owner}
use Rattle.log_model.proofs.Sets.{same_list, chain_ascends}
use Rattle.turn_model.specs.Basis.{Basis, Holding, HoldsAll, Knows, IsAboveTide, nothing_held}
use Rattle.turn_model.specs.Known.{EndsAt}
use Rattle.turn_model.specs.Turn.{Candidate, IsAvailable, IsPrefixOf}
use Rattle.causal_order.specs.Available.{above, IsNewPart}
use Rattle.agent_model.specs.Agent.{Agent, joined}
use Rattle.agent_model.specs.Standing.{Chain, Refresh, dominates, go_on_from, going_on, beyond}
use Rattle.agent_model.specs.Candidates.{Grounds, MayTurn, StandsWithin, IsCandidateOf, BringsOf}
use Rattle.turn_laws.specs.Taking.{refresh_with, with_new, within}
use Rattle.agent_model.specs.Turning.{is_behind, is_below_tide}
use Rattle.turn_laws.specs.Laws.{IsGoneOn, IsTakenBy, OwnLogEndsAtFloor, TakenIsByDefinition}
use Rattle.turn_laws.proofs.Brought.{IsTold, IsOfHead, choose, brought_row}
use Rattle.turn_laws.proofs.Going.{IsGoing, below_known}
use Rattle.turn_laws.proofs.Hand.{Hand, ends_last, known_available, candidate_available, hand_above, hand_is_known}
use Rattle.turn_laws.proofs.Lists.{from_map}
use Rattle.turn_laws.proofs.Over.{whole_part}
use Rattle.turn_laws.proofs.Fronts.{in_log, from_log, front_is_joined, stamp_of_log}
use Rattle.turn_laws.proofs.Rows.{IsRow, is_above, all_pass_is, row_good, chain_row, last_from, last_from-append}

-- ---- what a turn goes on from

-- a turn of an agent goes on so
pub going_is_gone_on : {S : Type 0} (a : Agent S) (basis : Option Basis) → IsGoneOn a.holding basis (going_on a basis)
going_is_gone_on a None = refl
going_is_gone_on a (Some b) = by (is_some a.to_load && dominates a.floor b.front)
  where
    by : (test : Bool) → (cond test (record { basis = b; held = [] }) a.holding ≡ a.holding) ⊎ (cond test (record { basis = b; held = [] }) a.holding ≡ record { basis = b; held = [] })
    by true = inr refl
    by false = inl refl

-- of what is known, all that is known is held, or a part below the basis alone
pub record IsHeldPart (view : View) (known : List Record) (h : Holding) : Type 0 where
  pub part : List Record
  pub holds : HoldsAll view part h
  pub closed : IsClosed view part
  pub of_known : (r : Record) → Contains part r → Contains known r
  pub all_or_none : ((r : Record) → Contains known r → Contains part r) ⊎ (h.held ≡ [])

nothing_closed : (view : View) → IsClosed view []
nothing_closed view = record { ascending = tt; members = tt; chains = λ owner. tt; causes = tt }

held_nothing : (view : View) (known : List Record) → IsHeldPart view known nothing_held
held_nothing view known = record {
  part = [];
  holds = record { below = []; stands = record { closed = nothing_closed view; front = refl; tide = refl; tree = refl }; whole = refl; above = tt };
  closed = nothing_closed view;
  of_known = λ r c. absurd (in_nothing r c);
  all_or_none = inr refl;
}

held_all : (view : View) (floor : Vector) (known : List Record) (holding : Holding) → Knows view floor holding known → IsHeldPart view known holding
held_all view floor known holding k = ⊎_elim
    (λ none. subst (λ (x : Holding). IsHeldPart view known x) (sym none) (held_nothing view known))
    (λ all. record { part = known; holds = all; closed = k.closed; of_known = λ r c. c; all_or_none = inl (λ r c. c) })
    k.holds

held_loaded : (view : View) (known : List Record) (b : Basis) → StandsWithin view known b → IsHeldPart view known (record { basis = b; held = [] })
held_loaded view known b w = record {
  part = w.0;
  holds = record { below = w.0; stands = w.1; whole = sym (append-nil w.0); above = tt };
  closed = w.1.closed;
  of_known = w.2;
  all_or_none = inr refl;
}

held_part : (view : View) (floor : Vector) (known : List Record) (holding h : Holding) (basis : Option Basis) → Knows view floor holding known → IsGoneOn holding basis h
    → IfSome basis (StandsWithin view known) → IsHeldPart view known h
held_part view floor known holding h None k gone loaded = subst (λ (x : Holding). IsHeldPart view known x) (sym gone) (held_all view floor known holding k)
held_part view floor known holding h (Some b) k gone loaded = ⊎_elim
    (λ e. subst (λ (x : Holding). IsHeldPart view known x) (sym e) (held_all view floor known holding k))
    (λ e. subst (λ (x : Holding). IsHeldPart view known x) (sym e) (held_loaded view known b loaded))
    gone

-- ---- nothing that was brought is cut

-- of the own log no record counts beyond the floor
cut_none : (b : Bool) (m : ℕ) (xs : List Record) → (b ≡ true → (r : Record) → Contains xs r → r.seq ≤ m) → cond b (filter (λ r. nat_le r.seq m) xs) xs ≡ xs
cut_none true m xs low = all_pass_is (λ (r : Record). nat_le r.seq m) xs (λ r c. le-leb r.seq m (low refl r c))
cut_none false m xs low = refl

beyond_of : (b : Bool) (n : ℕ) (xs : List Record) (r : Record) → Contains (cond b (filter (λ x. nat_lt n x.seq) xs) []) r → Contains xs r
beyond_of true n xs r c = (is_above n xs r c).0
beyond_of false n xs r c = absurd (in_nothing r c)

-- the stamp that a log ends at
ends_from : (o : Option Stamp) (xs : List Record) → EndsAt o xs → last_from None xs ≡ o
ends_from None xs ends = ap (last_from None) ends
ends_from (Some t) xs ends = ap (last_from None) ends.2 ∙ last_from-append None ends.0 (ends.1 ∷ []) ∙ ap Some ends.3

module _ (grounds : Grounds) (view : View) (own : PubKey) (floor : Vector) (holding h : Holding) (known : List Record)
    (brought : Refresh) (apart : IsCollisionFree grounds.met) (well : IsView view) (k : Knows view floor holding known) (gone : IsGoneOn holding brought.basis h) (may : MayTurn grounds view own known brought)
    (caught_up : is_behind view own floor h brought ≡ false) (none_below : is_below_tide own floor h brought ≡ false) where
  pub held : IsHeldPart view known h
  held = held_part view floor known holding h brought.basis k gone may.loaded

  -- ---- the candidates

  chosen : (cs : List Candidate) × (map (λ c. c.owner) cs ≡ view.members) × AllByRecursion (λ c. IsTold grounds view own known brought c.owner c.chain) cs
  chosen = choose grounds view own known brought may.same_own may.knew_before may.brings.once view.members may.brings.each

  is_told : (d : Candidate) → Contains chosen.0 d → IsTold grounds view own known brought d.owner d.chain
  is_told d c = each (λ (x : Candidate). IsTold grounds view own known brought x.owner x.chain) chosen.0 d chosen.2 c

  member_of : (c : Chain) → Contains brought.chains c → Contains view.members c.owner
  member_of c stands = each (λ (x : Chain). Contains view.members x.owner) brought.chains c may.brings.members stands

  -- what was brought of a log is known, or of a head that its candidate is determined by
  abbrev Told : PubKey → List Record → List Record → Type 0
  Told owner chain records = ((r : Record) → Contains records r → Contains known r) ⊎ IsOfHead grounds.met view own grounds.standing.floor owner chain records

  told_of : (c : Chain) → Contains brought.chains c → (d : Candidate) × Contains chosen.0 d × (d.owner ≡ c.owner) × Told c.owner d.chain c.records
  told_of c stands =
      let w = from_map (λ (x : Candidate). x.owner) chosen.0 c.owner (subst (λ (l : List PubKey). Contains l c.owner) (sym chosen.1) (member_of c stands)) in
      (w.0, w.1, w.2, subst (λ (o : PubKey). Told o w.0.chain c.records) w.2 ((is_told w.0 w.1).goes_forth c stands (sym w.2)))

  -- ---- what was brought

  row_of : (c : Chain) → Contains brought.chains c → IsRow view c.owner c.records
  row_of c stands = brought_row grounds view brought may.by_floor may.brings.once c.owner (each (BringsOf grounds view brought) view.members c.owner may.brings.each (member_of c stands)) c stands refl

  within_floor : (r : Record) → Contains known r → (o : Option Stamp) → stamp_at floor (head_key_of r.owner) ≡ o → EndsAt o (log_of r.owner known) → r.seq ≤ seq_of floor (head_key_of r.owner)
  within_floor r c None e ends = absurd (in_nothing r (subst (λ (l : List Record). Contains l r) ends (in_log r.owner known r c refl)))
  within_floor r c (Some t) e ends =
      let low = ends_last view r.owner t (log_of r.owner known) (k.closed.chains r.owner) ends r (in_log r.owner known r c refl) in
      let at : seq_of floor (head_key_of r.owner) ≡ t.seq = ap reach e in
      omega (arith, low, at)

  low_own : (c : Chain) → Contains brought.chains c → eq_by_cmp owner_cmp own c.owner ≡ true → (r : Record) → Contains c.records r → r.seq ≤ seq_of floor (head_key_of c.owner)
  low_own c stands mine r d =
      let t = told_of c stands in
      let owned : r.owner ≡ c.owner = (row_good view c.owner c.records (row_of c stands) r d).owned in
      ⊎_elim
      (λ all. subst (λ (o : PubKey). r.seq ≤ seq_of floor (head_key_of o)) owned (within_floor r (all r d) (stamp_at floor (head_key_of r.owner)) refl
      (k.by_floor.ends r.owner (subst (λ (o : PubKey). Contains view.members o) (sym owned) (member_of c stands)))))
      (λ o. absurd (o.other (same_owner own c.owner mine)))
      t.3

  pub going : IsGoing view grounds.met own floor known h brought held.part
  going = record {
    well = well;
    apart = apart;
    closed = k.closed;
    by_floor = k.by_floor;
    stand = may.stand;
    holds = held.holds;
    part_closed = held.closed;
    of_known = held.of_known;
    all_or_none = held.all_or_none;
    caught_up = caught_up;
    none_below = none_below;
    members = member_of;
    rows = row_of;
    standing = λ c stands. ⊎_elim
        (λ all. each_from (λ r. StandsAmong grounds.met r) c.records (λ r d. each (λ r. StandsAmong grounds.met r) known r may.stand (all r d)))
        (λ o. o.stand)
        (told_of c stands).3;
    once = may.brings.once;
    uncut = λ c stands. cut_none (eq_by_cmp owner_cmp own c.owner) (seq_of floor (head_key_of c.owner)) c.records (low_own c stands);
    uncut_new = λ c stands. cut_none (eq_by_cmp owner_cmp own c.owner) (seq_of floor (head_key_of c.owner)) (beyond (joined h) c)
        (λ mine r d. low_own c stands mine r
        (beyond_of (go_on_from (stamp_at (joined h) (head_key_of c.owner)) (above (seq_of (joined h) (head_key_of c.owner)) c.records)) (seq_of (joined h) (head_key_of c.owner)) c.records r d));
  }

  -- ---- what is available

  abbrev below : List Record
  below = going.holds.below

  abbrev OverFront : Record → Type 0
  OverFront r = Hand going r

  hand_to : (r : Record) → OverFront r → IsAvailable known chosen.0 r
  hand_to r hand = ⊎_elim
      (λ c. inl c)
      (λ w.
      let t = told_of w.0 w.1 in
      inr (t.0, t.1, subst (λ (o : PubKey). IsPrefixOf (log_of o known) t.0.chain) (sym t.2) w.2.0, w.2.1))
      (hand_is_known going grounds.knew grounds.standing.floor may.by_floor may.knew_before r hand
      (λ c stands. let t = told_of c stands in (t.0.chain, t.3)))

  to_hand : (r : Record) → IsAvailable known chosen.0 r → Contains below r ⊎ OverFront r
  to_hand r (inl c) = known_available going r c
  to_hand r (inr (d, stands, goes_on, c)) = ⊎_elim
      (λ all. known_available going r (all r c))
      (λ b. candidate_available going d.owner d.chain b goes_on r c)
      (is_told d stands).goes_back

  -- ---- the own log

  own_known : (r : Record) → r.owner ≡ own → IsAvailable known chosen.0 r → Contains known r
  own_known r mine (inl c) = c
  own_known r mine (inr (d, stands, goes_on, c)) = ⊎_elim
      (λ all. all r c)
      (λ b. absurd (b.other (sym (row_good view d.owner d.chain (chain_row view d.owner d.chain b.chain_of_log) r c).owned ∙ mine)))
      (is_told d stands).goes_back

  -- ---- what is taken

  module _ (new : List Record) (part : IsNewPart view h.basis.front h.held (map (within own floor) brought.chains) new) where
    abbrev taken : List Record
    taken = below ++ in_order (h.held ++ new)

    largest_part : IsClosedPart view (IsAvailable known chosen.0) taken
    largest_part = whole_part view h.basis below well going.holds.stands OverFront (IsAvailable known chosen.0)
        (hand_above going)
        (λ r c. inl (below_known going r c))
        hand_to to_hand (in_order (h.held ++ new)) part.largest

    all_held : HoldsAll view taken (with_new h new)
    all_held = record {
      below = below;
      stands = going.holds.stands;
      whole = refl;
      above = each_from (IsAboveTide h.basis) (in_order (h.held ++ new)) (λ r c. hand_above going r (part.largest.part r c));
    }

    pub is_taken : IsTakenBy (record { grounds = grounds; started = brought.started }) view known (with_new h new) taken
    is_taken = record {
      candidates = chosen.0;
      of_heads = record {
        of_members = chosen.1;
        each = each_from (λ (d : Candidate). IsCandidateOf grounds view brought.started d.owner d.chain) chosen.0 (λ d c. (is_told d c).is_candidate);
      };
      largest = largest_part;
      holds = all_held;
    }

    own_logs : log_of own taken ≡ log_of own known
    own_logs =
        let closed = largest_part.closed in
        same_list (log_of own taken) (log_of own known) (chain_ascends view own (log_of own taken) (closed.chains own)) (chain_ascends view own (log_of own known) (k.closed.chains own))
        (λ r c. let w = from_log own taken r c in in_log own known r (own_known r w.1 (largest_part.part r w.0)) w.1)
        (λ r c. let w = from_log own known r c in in_log own taken r (largest_part.largest known (λ q d. inl d) k.closed r w.0) w.1)

    pub own_ends : Contains view.members own → stamp_at (joined (with_new h new)) (head_key_of own) ≡ stamp_at floor (head_key_of own)
    own_ends member =
        sym (ap (λ (v : Vector). stamp_at v (head_key_of own)) (front_is_joined view taken (with_new h new) all_held))
        ∙ stamp_of_log view taken own well largest_part.closed member
        ∙ ap (last_from None) own_logs
        ∙ ends_from (stamp_at floor (head_key_of own)) (log_of own known) (k.by_floor.ends own member)

pub taken_is_by_definition : TakenIsByDefinition
taken_is_by_definition grounds view own floor holding h known batch basis edges new apart well k gone may under takes =
    (_, is_taken grounds view own floor holding h known (refresh_with batch basis) apart well k gone may takes.caught_up takes.above new takes.part)

pub own_log_ends_at_floor : OwnLogEndsAtFloor
own_log_ends_at_floor grounds view own floor holding h known batch basis edges new apart well k gone may under takes =
    own_ends grounds view own floor holding h known (refresh_with batch basis) apart well k gone may takes.caught_up takes.above new takes.part
