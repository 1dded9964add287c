-- What a turn goes on from, and what of the chains that were brought goes on from it.
use Rattle.std.proofs.Common.{◌≡◌, ◌⊎◌, inl, inr, ⊎_elim, ℕ, ◌+◌, ◌-◌, ◌==◌, ◌≤◌, Bool, true, false, cond, ◌&&◌, not, List, [], ◌∷◌, ◌++◌, length, length-append, Option, Some, None, refl, sym, ap, ◌∙◌, subst, append_assoc, arith, Contains, ltb-false, eq-eqb, eqb-true}
use Rattle.std.specs.Prelude.{nat_lt, nat_eq}
use Rattle.std.specs.Option.{option_map_or}
use Rattle.std.proofs.lemmas.List.Elements.{Contains-append_left, Contains-append_right, Contains-append_cases}
use Rattle.ivy_base.specs.declared.key.Key.{Key}
use Rattle.ivy_base.specs.declared.key.PubKey.{PubKey}
use Rattle.ivy_base.specs.Naming.{IsCollisionFree, head_key_of}
use Rattle.tree_model.specs.Tree.{same_key}
use Rattle.tree_model.proofs.Keys.{same_key_is, same_key_itself}
use Rattle.tree_model.proofs.Sound.{both_true}
use Rattle.log_model.specs.View.{View, IsView}
use Rattle.log_model.specs.Vector.{Stamp, Vector, stamp_at, seq_of, Dominates}
use Rattle.log_model.specs.Record.{Record}
use Rattle.log_model.specs.Rank.{own_entry, full_vector, front}
use Rattle.log_model.specs.Chain.{IsChain, IsFirst}
use Rattle.log_model.specs.Closed.{log_of, IsClosed}
use Rattle.log_model.specs.Spelling.{HasSpelling}
use Rattle.log_model.specs.Standing.{StandsAmong, Stand}
use Rattle.log_model.proofs.Lists.{both, in_nothing, each, each_from, each_append, who_passes}
use Rattle.log_model.proofs.Part.{numbered}
use Rattle.log_model.proofs.Weights.{Dominates-trans}
use Rattle.log_model.specs.Fetched.{HasRecord}
use Rattle.log_records.proofs.Fitting.{next_by}
use Rattle.turn_model.specs.Basis.{Holding, HoldsAll, IsAboveTide}
use Rattle.turn_model.specs.Known.{EndsAt, IsKnown}
use Rattle.turn_model.specs.Turn.{IsPrefixOf}
use Rattle.turn_laws.proofs.Heads.{one_member}
use Rattle.turn_laws.proofs.Starts.{front_dominates}
use Rattle.causal_order.specs.Available.{held_to, above, news, Extends}
use Rattle.causal_order.specs.Over.{GoesOnFrom}
use Rattle.agent_model.specs.Agent.{joined}
use Rattle.agent_model.specs.Standing.{Chain, Refresh, dominates, go_on_from, beyond, new_in, new_records}
use Rattle.turn_laws.specs.Taking.{within}
use Rattle.agent_model.specs.Turning.{is_above, is_there, lacks, is_behind, is_below_tide}
use Rattle.turn_laws.proofs.Fronts.{in_log, from_log, log-append, stamp_of_log, reach_of_log, front_is_joined, is_above_tide}
use Rattle.turn_laws.proofs.Lists.{in_flat_map, from_flat_map, none_passes, neither}
use Rattle.turn_laws.proofs.Names.{prefix_to, prefix_within, has_end}
use Rattle.turn_laws.proofs.Rows.{IsRow, is_above as row_is_above, row_above, row_good, within_first, last_from, last_from-append, goes_after, chain_over}

-- What a turn goes on from, of a closed part of what is known: all that is known, or nothing above the basis. It isn't refused. Of each log one chain at most was
-- brought, a member's, and all of it counts.
pub record IsGoing (view : View) (met : List (List ℕ)) (own : PubKey) (floor : Vector) (known : List Record) (h : Holding) (brought : Refresh) (part : List Record) : Type 0 where
  pub well : IsView view
  pub apart : IsCollisionFree met
  pub closed : IsClosed view known
  pub by_floor : IsKnown view floor known
  pub stand : Stand met known
  pub holds : HoldsAll view part h
  pub part_closed : IsClosed view part
  pub of_known : (r : Record) → Contains part r → Contains known r
  pub all_or_none : ((r : Record) → Contains known r → Contains part r) ⊎ (h.held ≡ [])
  pub caught_up : is_behind view own floor h brought ≡ false
  pub none_below : is_below_tide own floor h brought ≡ false
  pub members : (c : Chain) → Contains brought.chains c → Contains view.members c.owner
  pub rows : (c : Chain) → Contains brought.chains c → IsRow view c.owner c.records
  pub standing : (c : Chain) → Contains brought.chains c → Stand met c.records
  pub once : (c d : Chain) → Contains brought.chains c → Contains brought.chains d → c.owner ≡ d.owner → c ≡ d
  pub uncut : (c : Chain) → Contains brought.chains c → within own floor c ≡ c.records
  pub uncut_new : (c : Chain) → Contains brought.chains c → new_in own floor h c ≡ beyond (joined h) c

-- ---- the test of a chain

opens : (r : Record) → HasSpelling r → r.seq ≡ 1 → IsFirst r
opens r f one = (next_by r None 0 f refl).0 (eq-eqb (r.seq - 1) 0 (omega (arith, one)))

goes_test : (view : View) (owner : PubKey) (o : Option Stamp) (xs : List Record) (r : Record) → Contains xs r → GoesOnFrom view owner o xs → go_on_from o xs ≡ true
goes_test view owner o [] r c g = absurd (in_nothing r c)
goes_test view owner None (x ∷ xs) r c g = eq-eqb x.seq 1 g.1.seq
goes_test view owner (Some t) (x ∷ xs) r c g =
    both (nat_eq x.seq (t.seq + 1)) (same_key x.prev t.name) (eq-eqb x.seq (t.seq + 1) g.0.seq) (subst (λ (k : Key). same_key x.prev k ≡ true) g.0.prev (same_key_itself x.prev))

test_goes : (view : View) (owner : PubKey) (o : Option Stamp) (xs : List Record) → IsRow view owner xs → go_on_from o xs ≡ true → GoesOnFrom view owner o xs
test_goes view owner o [] row h = cc
test_goes view owner None (x ∷ xs) row h = (row.0, opens x row.0.spelled (eqb-true x.seq 1 h), row.1)
test_goes view owner (Some t) (x ∷ xs) row h =
    let parts = both_true (nat_eq x.seq (t.seq + 1)) (same_key x.prev t.name) h in
    (record { good = row.0; seq = eqb-true x.seq (t.seq + 1) parts.0; prev = same_key_is x.prev t.name parts.1 }, row.1)

pub chosen : (b : Bool) (xs : List Record) (r : Record) → Contains (cond b xs []) r → (b ≡ true) × Contains xs r
chosen true xs r c = (refl, c)
chosen false xs r c = absurd (in_nothing r c)

pub not_false : (b : Bool) → not b ≡ false → b ≡ true
not_false true h = refl
not_false false h = cc

-- a number isn't lacking: it isn't greater, or the record of it is there
unless : (a b : Bool) → (a && not b) ≡ false → (a ≡ false) ⊎ (b ≡ true)
unless true true h = inr refl
unless true false h = cc
unless false b h = inl refl

stamp_is : (s t : Stamp) → s.seq ≡ t.seq → s.name ≡ t.name → s ≡ t
stamp_is s t seqs names = λ i. record { seq = seqs i; name = names i }

module _ {view : View} {met : List (List ℕ)} {own : PubKey} {floor : Vector} {known : List Record} {h : Holding} {brought : Refresh} {part : List Record}
    (g : IsGoing view met own floor known h brought part) where
  abbrev pub below : List Record
  below = g.holds.below

  joined_is : joined h ≡ front part
  joined_is = sym (front_is_joined view part h g.holds)

  pub in_part : (r : Record) → Contains part r → Contains below r ⊎ Contains h.held r
  in_part r c = Contains-append_cases below h.held r (subst (λ (l : List Record). Contains l r) g.holds.whole c)

  pub below_known : (r : Record) → Contains below r → Contains known r
  below_known r c = g.of_known r (subst (λ (l : List Record). Contains l r) (sym g.holds.whole) (Contains-append_left below h.held r c))

  pub held_known : (r : Record) → Contains h.held r → Contains known r
  held_known r c = g.of_known r (subst (λ (l : List Record). Contains l r) (sym g.holds.whole) (Contains-append_right below h.held r c))

  -- ---- a member's log

  pub log_stands : (owner : PubKey) (s : List Record) → ((r : Record) → Contains s r → Contains known r) → Stand met (log_of owner s)
  log_stands owner s of_known = each_from (λ r. StandsAmong met r) (log_of owner s) (λ r c. each (λ r. StandsAmong met r) known r g.stand (of_known r (from_log owner s r c).0))

  pub part_prefix : (owner : PubKey) → IsPrefixOf (log_of owner part) (log_of owner known)
  part_prefix owner = prefix_within met g.apart view owner (log_of owner part) (log_of owner known) (g.part_closed.chains owner) (g.closed.chains owner)
      (log_stands owner part g.of_known) (log_stands owner known (λ r c. c))
      (λ r c. let w = from_log owner part r c in in_log owner known r (g.of_known r w.0) w.1)

  pub log_parts : (owner : PubKey) → log_of owner part ≡ log_of owner below ++ log_of owner h.held
  log_parts owner = ap (log_of owner) g.holds.whole ∙ log-append owner below h.held

  module _ (owner : PubKey) (member : Contains view.members owner) where
    joined_stamp : stamp_at (joined h) (head_key_of owner) ≡ last_from None (log_of owner part)
    joined_stamp = ap (λ (v : Vector). stamp_at v (head_key_of owner)) joined_is ∙ stamp_of_log view part owner g.well g.part_closed member

    pub joined_reach : seq_of (joined h) (head_key_of owner) ≡ length (log_of owner part)
    joined_reach = ap (λ (v : Vector). seq_of v (head_key_of owner)) joined_is ∙ reach_of_log view part owner g.well g.part_closed member

    pub front_stamp : stamp_at h.basis.front (head_key_of owner) ≡ last_from None (log_of owner below)
    front_stamp = ap (λ (v : Vector). stamp_at v (head_key_of owner)) g.holds.stands.front ∙ stamp_of_log view below owner g.well g.holds.stands.closed member

    front_reach : seq_of h.basis.front (head_key_of owner) ≡ length (log_of owner below)
    front_reach = ap (λ (v : Vector). seq_of v (head_key_of owner)) g.holds.stands.front ∙ reach_of_log view below owner g.well g.holds.stands.closed member

    pub joined_from : stamp_at (joined h) (head_key_of owner) ≡ last_from (stamp_at h.basis.front (head_key_of owner)) (log_of owner h.held)
    joined_from =
        joined_stamp
        ∙ ap (last_from None) (log_parts owner)
        ∙ last_from-append None (log_of owner below) (log_of owner h.held)
        ∙ ap (λ (o : Option Stamp). last_from o (log_of owner h.held)) (sym front_stamp)

    pub held_number : held_to h.basis.front h.held owner ≡ seq_of (joined h) (head_key_of owner)
    held_number =
        let at : seq_of h.basis.front (head_key_of owner) ≡ length (log_of owner below) = front_reach in
        let all : seq_of (joined h) (head_key_of owner) ≡ length (log_of owner part) = joined_reach in
        let parts : length (log_of owner part) ≡ length (log_of owner below ++ log_of owner h.held) = ap length (log_parts owner) in
        let sum : length (log_of owner below ++ log_of owner h.held) ≡ length (log_of owner below) + length (log_of owner h.held) = length-append (log_of owner below) (log_of owner h.held) in
        omega (arith, at, all, parts, sum)

    pub news_are : (xs : List Record) → news h.basis.front h.held owner xs ≡ above (seq_of (joined h) (head_key_of owner)) xs
    news_are xs = ap (λ (n : ℕ). above n xs) held_number

    -- a record of the log that is numbered within what is held is of the part
    pub of_part : (r : Record) → Contains (log_of owner known) r → r.seq ≤ seq_of (joined h) (head_key_of owner) → Contains (log_of owner part) r
    of_part r c le =
        let all = joined_reach in
        within_first (log_of owner part) (log_of owner known) r (numbered view owner (log_of owner known) (g.closed.chains owner)) (part_prefix owner) c (omega (arith, le, all))

    -- what the floor names of the log is held, or was brought
    pub floor_met : (t : Stamp) → stamp_at floor (head_key_of owner) ≡ Some t
        → (t.seq ≤ seq_of (joined h) (head_key_of owner)) ⊎ ((c : Chain) × Contains brought.chains c × (c.owner ≡ owner) × (r : Record) × Contains (beyond (joined h) c) r × ((own_entry r).1 ≡ t))
    floor_met t e =
        let new = new_records own floor h brought in
        let parts = neither (not (dominates (joined h) brought.started)) _ g.caught_up in
        let there : lacks floor (joined h) new (head_key_of owner) ≡ false = none_passes (λ (o : PubKey). lacks floor (joined h) new (head_key_of o)) view.members owner parts.1 member in
        let some : (nat_lt (seq_of (joined h) (head_key_of owner)) t.seq && not (is_there new (head_key_of owner) t)) ≡ false =
        sym (ap (λ (o : Option Stamp). option_map_or (λ (x : Stamp). nat_lt (seq_of (joined h) (head_key_of owner)) x.seq && not (is_there new (head_key_of owner) x)) o false) e) ∙ there in
        ⊎_elim
        (λ less. inl (ltb-false (seq_of (joined h) (head_key_of owner)) t.seq less))
        (λ is. inr (brought_there (who_passes (λ r. same_key (head_key_of r.owner) (head_key_of owner) && r.seq == t.seq && same_key r.name t.name) new is)))
        (unless (nat_lt (seq_of (joined h) (head_key_of owner)) t.seq) (is_there new (head_key_of owner) t) some)
      where
        brought_there : ((r : Record) × Contains (new_records own floor h brought) r × ((same_key (head_key_of r.owner) (head_key_of owner) && r.seq == t.seq && same_key r.name t.name) ≡ true))
            → (c : Chain) × Contains brought.chains c × (c.owner ≡ owner) × (r : Record) × Contains (beyond (joined h) c) r × ((own_entry r).1 ≡ t)
        brought_there (r, within_new, same) =
            let parts = both_true (same_key (head_key_of r.owner) (head_key_of owner) && r.seq == t.seq) (same_key r.name t.name) same in
            let inner = both_true (same_key (head_key_of r.owner) (head_key_of owner)) (r.seq == t.seq) parts.0 in
            let w = from_flat_map (new_in own floor h) brought.chains r within_new in
            let c = w.0 in
            let in_beyond : Contains (beyond (joined h) c) r = subst (λ (l : List Record). Contains l r) (g.uncut_new c w.1) w.2 in
            let in_above = (chosen (go_on_from (stamp_at (joined h) (head_key_of c.owner)) (above (seq_of (joined h) (head_key_of c.owner)) c.records)) (above (seq_of (joined h) (head_key_of c.owner)) c.records) r in_beyond).1 in
            let owned : r.owner ≡ c.owner = (row_good view c.owner (above (seq_of (joined h) (head_key_of c.owner)) c.records) (row_above view c.owner (seq_of (joined h) (head_key_of c.owner)) c.records (g.rows c w.1)) r in_above).owned in
            let logs : head_key_of c.owner ≡ head_key_of owner = ap head_key_of (sym owned) ∙ same_key_is (head_key_of r.owner) (head_key_of owner) inner.0 in (
              c,
              w.1,
              one_member view c.owner owner g.well (g.members c w.1) member logs,
              r,
              in_beyond,
              stamp_is (own_entry r).1 t (eqb-true r.seq t.seq inner.1) (same_key_is r.name t.name parts.1),
            )

  -- ---- a chain that was brought

  module _ (c : Chain) (stands : Contains brought.chains c) where
    -- how far its log is held; what it has beyond that; and that after what is held
    abbrev pub to : ℕ
    to = seq_of (joined h) (head_key_of c.owner)

    abbrev pub rest : List Record
    rest = above to c.records

    abbrev pub full : List Record
    full = log_of c.owner part ++ rest

    member : Contains view.members c.owner
    member = g.members c stands

    -- where it passes the test, it extends what is held, if nothing is
    pub extends_by : h.held ≡ [] → go_on_from (stamp_at (joined h) (head_key_of c.owner)) rest ≡ true → Extends view h.basis.front h.held c.owner c.records
    extends_by none passes =
        let goes = test_goes view c.owner (stamp_at (joined h) (head_key_of c.owner)) rest (row_above view c.owner to c.records (g.rows c stands)) passes in
        let none_of_log : log_of c.owner h.held ≡ [] = ap (log_of c.owner) none in
        let from : GoesOnFrom view c.owner (stamp_at h.basis.front (head_key_of c.owner)) rest =
        subst (λ (o : Option Stamp). GoesOnFrom view c.owner o rest) (joined_from c.owner member ∙ ap (λ (l : List Record). last_from (stamp_at h.basis.front (head_key_of c.owner)) l) none_of_log) goes in
        subst (λ (l : List Record). GoesOnFrom view c.owner (stamp_at h.basis.front (head_key_of c.owner)) l)
        (sym (ap (λ (l : List Record). l ++ news h.basis.front h.held c.owner c.records) none_of_log ∙ news_are c.owner member c.records)) from

    module _ (ext : Extends view h.basis.front h.held c.owner c.records) where
      over_front : GoesOnFrom view c.owner (stamp_at h.basis.front (head_key_of c.owner)) (log_of c.owner h.held ++ rest)
      over_front = subst (λ (l : List Record). GoesOnFrom view c.owner (stamp_at h.basis.front (head_key_of c.owner)) (log_of c.owner h.held ++ l)) (news_are c.owner member c.records) ext

      goes : GoesOnFrom view c.owner (stamp_at (joined h) (head_key_of c.owner)) rest
      goes = subst (λ (o : Option Stamp). GoesOnFrom view c.owner o rest) (sym (joined_from c.owner member))
          (goes_after view c.owner (stamp_at h.basis.front (head_key_of c.owner)) (log_of c.owner h.held) rest over_front)

      -- all of it is new then, and above the basis
      pub rest_above : (r : Record) → Contains rest r → IsAboveTide h.basis r
      rest_above r d =
          let passes : go_on_from (stamp_at (joined h) (head_key_of c.owner)) rest ≡ true = goes_test view c.owner (stamp_at (joined h) (head_key_of c.owner)) rest r d goes in
          let is_beyond : beyond (joined h) c ≡ rest = ap (λ b. cond b rest []) passes in
          let new : Contains (new_in own floor h c) r = subst (λ (l : List Record). Contains l r) (sym (g.uncut_new c stands ∙ is_beyond)) d in
          is_above_tide h.basis r (not_false (is_above h.basis r)
          (none_passes (λ (x : Record). not (is_above h.basis x)) (new_records own floor h brought) r g.none_below (in_flat_map (new_in own floor h) brought.chains c r stands new)))

      knows_below : (q : Record) → Contains (log_of c.owner below) q → (y : Record) → IsAboveTide h.basis y → Dominates (full_vector y) (full_vector q)
      knows_below q d y a = Dominates-trans (full_vector y) (front below) (full_vector q) (subst (λ (v : Vector). Dominates (full_vector y) v) g.holds.stands.front a.knows)
          (front_dominates below q (from_log c.owner below q d).0)

      -- with what is held it is the beginning of a log
      pub full_chain : IsChain view c.owner full
      full_chain =
          let goes_on : GoesOnFrom view c.owner (last_from None (log_of c.owner below)) (log_of c.owner h.held ++ rest) =
          subst (λ (o : Option Stamp). GoesOnFrom view c.owner o (log_of c.owner h.held ++ rest)) (front_stamp c.owner member) over_front in
          let chain = chain_over view c.owner (log_of c.owner below) (log_of c.owner h.held ++ rest) (g.holds.stands.closed.chains c.owner) goes_on
          (λ q d y e. knows_below q d y (⊎_elim
          (λ f. each (IsAboveTide h.basis) h.held y g.holds.above (from_log c.owner h.held y f).0)
          (λ f. rest_above y f)
          (Contains-append_cases (log_of c.owner h.held) rest y e))) in
          subst (λ (l : List Record). IsChain view c.owner l) (sym (ap (λ (l : List Record). l ++ rest) (log_parts c.owner) ∙ append_assoc (log_of c.owner below) (log_of c.owner h.held) rest)) chain

      pub full_stands : Stand met full
      full_stands = each_append (λ r. StandsAmong met r) (log_of c.owner part) rest (log_stands c.owner part g.of_known)
          (each_from (λ r. StandsAmong met r) rest (λ r d. each (λ r. StandsAmong met r) c.records r (g.standing c stands) (row_is_above to c.records r d).0))

      has_floor : (t : Stamp) → stamp_at floor (head_key_of c.owner) ≡ Some t → EndsAt (Some t) (log_of c.owner known) → HasRecord t full
      has_floor t e ends = ⊎_elim
          (λ le.
          let w = has_end t (log_of c.owner known) ends in
          let low : w.0.seq ≡ t.seq = ap (λ (x : Stamp). x.seq) w.2 in
          (w.0, Contains-append_left (log_of c.owner part) rest w.0 (of_part c.owner member w.0 w.1 (omega (arith, le, low))), w.2))
          (λ b.
          let same : b.0 ≡ c = g.once b.0 c b.1 stands b.2 in
          let in_beyond : Contains (beyond (joined h) c) b.3 = subst (λ (x : Chain). Contains (beyond (joined h) x) b.3) same b.4 in
          (b.3, Contains-append_right (log_of c.owner part) rest b.3 (chosen (go_on_from (stamp_at (joined h) (head_key_of c.owner)) rest) rest b.3 in_beyond).1, b.5))
          (floor_met c.owner member t e)

      known_by : (o : Option Stamp) → stamp_at floor (head_key_of c.owner) ≡ o → EndsAt o (log_of c.owner known) → IsPrefixOf (log_of c.owner known) full
      known_by None e none = (full, ap (λ (l : List Record). l ++ full) none)
      known_by (Some t) e ends = prefix_to met g.apart view c.owner t (log_of c.owner known) full (g.closed.chains c.owner) full_chain (log_stands c.owner known (λ r d. d)) full_stands ends (has_floor t e ends)

      -- and all that is known of the log is of it
      pub known_prefix : IsPrefixOf (log_of c.owner known) full
      known_prefix = known_by (stamp_at floor (head_key_of c.owner)) refl (g.by_floor.ends c.owner member)
