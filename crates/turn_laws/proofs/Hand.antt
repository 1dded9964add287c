-- What is available by what is held is what is available by what is known and the candidates.
use Rattle.std.proofs.Common.{◌≡◌, ◌⊎◌, inl, inr, ⊎_elim, ℕ, ◌≤◌, not, List, [], ◌∷◌, ◌++◌, map, Option, Some, None, refl, sym, ap, ◌∙◌, subst, append_assoc, arith, Contains}
use Rattle.std.proofs.lemmas.List.Elements.{Contains-append_right, Contains-append_cases}
use Rattle.ivy_base.specs.declared.key.PubKey.{PubKey}
use Rattle.ivy_base.specs.Naming.{head_key_of}
use Rattle.log_model.specs.View.{View}
use Rattle.log_model.specs.Vector.{Stamp, Vector, stamp_at, seq_of}
use Rattle.log_model.specs.Record.{Record}
use Rattle.log_model.specs.Chain.{IsChain}
use Rattle.log_model.specs.Closed.{log_of}
use Rattle.log_model.proofs.Lists.{in_nothing, each}
use Rattle.log_model.proofs.Part.{numbered}
use Rattle.log_records.proofs.Batches.{ends_behind}
use Rattle.turn_model.specs.Basis.{Holding, IsAboveTide}
use Rattle.turn_model.specs.Candidates.{PassesThrough, MakeChain}
use Rattle.turn_model.specs.Known.{EndsAt, IsKnown}
use Rattle.turn_model.specs.Turn.{IsPrefixOf}
use Rattle.causal_order.specs.Available.{above, news, Extends}
use Rattle.causal_order.specs.Available as over
use Rattle.causal_order.specs.Over.{GoesOnFrom}
use Rattle.turn_laws.proofs.OneChain.{one_chain}
use Rattle.agent_model.specs.Agent.{joined}
use Rattle.agent_model.specs.Standing.{Chain, Refresh, dominates, go_on_from, beyond}
use Rattle.agent_model.specs.Candidates.{records_above}
use Rattle.turn_laws.specs.Taking.{within}
use Rattle.turn_laws.proofs.Brought.{IsOfHead, IsBrought}
use Rattle.turn_laws.proofs.Fronts.{in_log, from_log, far_enough}
use Rattle.turn_laws.proofs.Going.{IsGoing, in_part, held_known, not_false, log_stands, part_prefix, log_parts, joined_reach, front_stamp, news_are, of_part, floor_met, chosen, to, rest, full, extends_by, rest_above, full_chain, full_stands, known_prefix}
use Rattle.turn_laws.proofs.Lists.{in_map, from_map, neither}
use Rattle.turn_laws.proofs.Names.{prefix_within, prefix_has}
use Rattle.turn_laws.proofs.Rows.{is_above, above_above, above_split, chain_row, row_good, last_greatest, ends_above, last_from, goes_after}

-- of a log that ends at a stamp no record has a greater number
pub ends_last : (view : View) (owner : PubKey) (t : Stamp) (xs : List Record) → IsChain view owner xs → EndsAt (Some t) xs → (r : Record) → Contains xs r → r.seq ≤ t.seq
ends_last view owner t xs chain ends r c =
    let far = last_greatest view owner ends.0 ends.1 (chain_row view owner (ends.0 ++ ends.1 ∷ []) (subst (λ (l : List Record). IsChain view owner l) ends.2 chain)) r (subst (λ (l : List Record). Contains l r) ends.2 c) in
    let last : ends.1.seq ≡ t.seq = ap (λ (x : Stamp). x.seq) ends.3 in
    omega (arith, far, last)

prefix_trans : (xs ys zs : List Record) → IsPrefixOf xs ys → IsPrefixOf ys zs → IsPrefixOf xs zs
prefix_trans xs ys zs p q = (p.0 ++ q.0, sym (append_assoc xs p.0 q.0) ∙ ap (λ (l : List Record). l ++ q.0) p.1 ∙ q.1)

passes_by : (o : Option Stamp) (front chain : List Record) → EndsAt o front → IsPrefixOf front chain → PassesThrough o chain
passes_by None front chain ends p = tt
passes_by (Some t) front chain ends p = (front, p.0, sym p.1, ends)

module _ {view : View} {met : List (List ℕ)} {own : PubKey} {floor : Vector} {known : List Record} {h : Holding} {brought : Refresh} {part : List Record}
    (g : IsGoing view met own floor known h brought part) where
  abbrev pub Hand : Record → Type 0
  Hand r = over.IsAvailable view h.basis.front h.held (map (within own floor) brought.chains) r

  abbrev Below : Record → Type 0
  Below r = Contains g.holds.below r ⊎ Hand r

  pub of_held : (r : Record) → Contains part r → Below r
  of_held r c = ⊎_elim (λ d. inl d) (λ d. inr (inl d)) (in_part g r c)

  -- a record of a chain that extends what is held is available
  pub chain_hand : (c : Chain) (stands : Contains brought.chains c) → Extends view h.basis.front h.held c.owner c.records → (r : Record) → r.owner ≡ c.owner
      → Contains (rest g c stands) r → Hand r
  chain_hand c stands ext r owned d =
      let member = g.members c stands in
      let fresh : Contains (news h.basis.front h.held c.owner c.records) r =
      subst (λ (l : List Record). Contains l r) (sym (news_are g c.owner member c.records)) d in
      inr (
        c.records,
        subst (λ (l : List Record). Contains (map (within own floor) brought.chains) l) (g.uncut c stands) (in_map (within own floor) brought.chains c stands),
        subst (λ (o : PubKey). Extends view h.basis.front h.held o c.records) (sym owned) ext,
        subst (λ (o : PubKey). Contains (news h.basis.front h.held o c.records) r) (sym owned) fresh,
      )

  of_chain : (c : Chain) (stands : Contains brought.chains c) → Extends view h.basis.front h.held c.owner c.records → (r : Record) → r.owner ≡ c.owner → Contains (rest g c stands) r → Below r
  of_chain c stands ext r owned d = inr (chain_hand c stands ext r owned d)

  -- ---- what is known

  found : (r : Record) → Contains known r → h.held ≡ [] → (c : Chain) (stands : Contains brought.chains c) → c.owner ≡ r.owner → (q : Record) → Contains (beyond (joined h) c) q → Below r
  found r k none c stands owned q d =
      let after = rest g c stands in
      let w = chosen (go_on_from (stamp_at (joined h) (head_key_of c.owner)) after) after q d in
      let ext = extends_by g c stands none w.0 in
      let all = known_prefix g c stands ext in
      let mine = in_log c.owner known r k (sym owned) in
      ⊎_elim
      (λ e. of_held r (from_log c.owner part r e).0)
      (λ e. of_chain c stands ext r (sym owned) e)
      (Contains-append_cases (log_of c.owner part) after r (prefix_has (log_of c.owner known) (full g c stands) all r mine))

  by_floor : (r : Record) → Contains known r → h.held ≡ [] → (o : Option Stamp) → stamp_at floor (head_key_of r.owner) ≡ o → EndsAt o (log_of r.owner known) → Below r
  by_floor r k none None e ends = absurd (in_nothing r (subst (λ (l : List Record). Contains l r) ends (in_log r.owner known r k refl)))
  by_floor r k none (Some t) e ends =
      let member = each (λ q. Contains view.members q.owner) known r g.closed.members k in
      let mine = in_log r.owner known r k refl in
      let le = ends_last view r.owner t (log_of r.owner known) (g.closed.chains r.owner) ends r mine in
      ⊎_elim
      (λ low. of_held r (from_log r.owner part r (of_part g r.owner member r mine (omega (arith, le, low)))).0)
      (λ b. found r k none b.0 b.1 b.2 b.3 b.4)
      (floor_met g r.owner member t e)

  -- what is known is below the basis, or available
  pub known_available : (r : Record) → Contains known r → Below r
  known_available r k = ⊎_elim
      (λ all. of_held r (all r k))
      (λ none. by_floor r k none (stamp_at floor (head_key_of r.owner)) refl (g.by_floor.ends r.owner (each (λ q. Contains view.members q.owner) known r g.closed.members k)))
      g.all_or_none

  -- ---- what is of a candidate

  module _ (c : Chain) (stands : Contains brought.chains c) (chain : List Record) (of_log : IsChain view c.owner chain) (carried : c.records ≡ records_above brought.started c.owner chain)
      (goes_on : IsPrefixOf (log_of c.owner known) chain) where
    started_below : seq_of brought.started (head_key_of c.owner) ≤ seq_of (joined h) (head_key_of c.owner)
    started_below =
        let parts = neither (not (dominates (joined h) brought.started)) _ g.caught_up in
        far_enough (joined h) brought.started (not_false (dominates (joined h) brought.started) parts.0) (head_key_of c.owner)

    longer : IsPrefixOf (log_of c.owner part) chain
    longer = prefix_trans (log_of c.owner part) (log_of c.owner known) chain (part_prefix g c.owner) goes_on

    split_chain : IsChain view c.owner (log_of c.owner part ++ longer.0)
    split_chain = subst (λ (l : List Record). IsChain view c.owner l) (sym longer.1) of_log

    -- what is brought of it goes on from what is held
    rest_is : rest g c stands ≡ longer.0
    rest_is =
        let n = seq_of (joined h) (head_key_of c.owner) in
        ap (above n) carried
        ∙ above_above (seq_of brought.started (head_key_of c.owner)) n chain started_below
        ∙ ap (above n) (sym longer.1)
        ∙ above_split n (log_of c.owner part) longer.0 (numbered view c.owner (log_of c.owner part ++ longer.0) split_chain)
        (joined_reach g c.owner (g.members c stands))

    extends : Extends view h.basis.front h.held c.owner c.records
    extends =
        let member = g.members c stands in
        let front = stamp_at h.basis.front (head_key_of c.owner) in
        let parts : log_of c.owner part ++ longer.0 ≡ log_of c.owner g.holds.below ++ (log_of c.owner h.held ++ longer.0) =
        ap (λ (l : List Record). l ++ longer.0) (log_parts g c.owner) ∙ append_assoc (log_of c.owner g.holds.below) (log_of c.owner h.held) longer.0 in
        let from : GoesOnFrom view c.owner (last_from None (log_of c.owner g.holds.below)) (log_of c.owner h.held ++ longer.0) =
        goes_after view c.owner None (log_of c.owner g.holds.below) (log_of c.owner h.held ++ longer.0) (subst (λ (l : List Record). IsChain view c.owner l) parts split_chain) in
        subst (λ (l : List Record). GoesOnFrom view c.owner front (log_of c.owner h.held ++ l))
        (sym (news_are g c.owner member c.records ∙ rest_is))
        (subst (λ (o : Option Stamp). GoesOnFrom view c.owner o (log_of c.owner h.held ++ longer.0)) (sym (front_stamp g c.owner member)) from)

    of_candidate : (r : Record) → Contains chain r → Below r
    of_candidate r d = ⊎_elim
        (λ e. of_held r (from_log c.owner part r e).0)
        (λ e. of_chain c stands extends r (row_good view c.owner chain (chain_row view c.owner chain of_log) r d).owned (subst (λ (l : List Record). Contains l r) (sym rest_is) e))
        (Contains-append_cases (log_of c.owner part) longer.0 r (subst (λ (l : List Record). Contains l r) (sym longer.1) d))

  pub candidate_available : (owner : PubKey) (chain : List Record) → IsBrought view own brought owner chain → IsPrefixOf (log_of owner known) chain → (r : Record) → Contains chain r → Below r
  candidate_available owner chain b goes_on r d = of_candidate b.carried b.stands chain
      (subst (λ (o : PubKey). IsChain view o chain) (sym b.owned) b.chain_of_log)
      (subst (λ (o : PubKey). b.carried.records ≡ records_above brought.started o chain) (sym b.owned) b.above)
      (subst (λ (o : PubKey). IsPrefixOf (log_of o known) chain) (sym b.owned) goes_on) r d

  -- ---- what is available is known, or of a candidate

  -- the record is held, or of a chain that was brought and extends what is held
  abbrev pub IsOfBrought : Record → Type 0
  IsOfBrought r = (c : Chain) × (stands : Contains brought.chains c) × Extends view h.basis.front h.held c.owner c.records
      × Contains (rest g c stands) r × (r.owner ≡ c.owner)

  of_news : (r : Record) (c : Chain) → Contains brought.chains c → Extends view h.basis.front h.held r.owner c.records → Contains (news h.basis.front h.held r.owner c.records) r → IsOfBrought r
  of_news r c stands ext d =
      let member = g.members c stands in
      let owned : r.owner ≡ c.owner = (row_good view c.owner c.records (g.rows c stands) r (is_above (over.held_to h.basis.front h.held r.owner) c.records r d).0).owned in
      let fresh : Contains (news h.basis.front h.held c.owner c.records) r = subst (λ (o : PubKey). Contains (news h.basis.front h.held o c.records) r) owned d in (
        c,
        stands,
        subst (λ (o : PubKey). Extends view h.basis.front h.held o c.records) owned ext,
        subst (λ (l : List Record). Contains l r) (news_are g c.owner member c.records) fresh,
        owned,
      )

  pub hand_cases : (r : Record) → Hand r → Contains h.held r ⊎ IsOfBrought r
  hand_cases r (inl c) = inl c
  hand_cases r (inr (records, stands, ext, c)) =
      let w = from_map (within own floor) brought.chains records stands in
      let same : w.0.records ≡ records = sym (g.uncut w.0 w.1) ∙ w.2 in
      inr (of_news r w.0 w.1
      (subst (λ (l : List Record). Extends view h.basis.front h.held r.owner l) (sym same) ext)
      (subst (λ (l : List Record). Contains (news h.basis.front h.held r.owner l) r) (sym same) c))

  -- what is available is above the basis
  pub hand_above : (r : Record) → Hand r → IsAboveTide h.basis r
  hand_above r hand = ⊎_elim
      (λ c. each (IsAboveTide h.basis) h.held r g.holds.above c)
      (λ b. rest_above g b.0 b.1 b.2 r b.3)
      (hand_cases r hand)

  -- what is available is known, or of the candidate of its log, which goes on from what is known
  module _ (knew : List Record) (before : Vector) (by_before : IsKnown view before knew) (knew_known : (r : Record) → Contains knew r → Contains known r) where
    -- the chain that extends what is held is one to the head
    makes : (c : Chain) (stands : Contains brought.chains c) → Extends view h.basis.front h.held c.owner c.records → (r : Record) → Contains (rest g c stands) r
        → (head : Stamp) → EndsAt (Some head) c.records → MakeChain (record { blocks = met; view = view; floor = before }) c.owner head (full g c stands)
    makes c stands ext r d head ends =
        let all = full g c stands in
        let old = prefix_within met g.apart view c.owner (log_of c.owner knew) (log_of c.owner known) (by_before.chains c.owner) (g.closed.chains c.owner)
        (log_stands g c.owner knew knew_known)
        (log_stands g c.owner known (λ q k. k))
        (λ q k. let w = from_log c.owner knew q k in in_log c.owner known q (knew_known q w.0) w.1) in
        let goes_on = prefix_trans (log_of c.owner knew) (log_of c.owner known) all old (known_prefix g c stands ext) in
        record {
          chain_of_log = full_chain g c stands ext;
          stand = full_stands g c stands ext;
          ends = ends_behind head (log_of c.owner part) (rest g c stands)
              (ends_above view c.owner (to g c stands) head c.records (g.rows c stands) ends r d);
          passes = passes_by (stamp_at before (head_key_of c.owner)) (log_of c.owner knew) all (by_before.ends c.owner (g.members c stands)) goes_on;
        }

    -- the chain goes on from what is known of the log, and has the record
    abbrev pub GoesOnWith : PubKey → List Record → Record → Type 0
    GoesOnWith owner chain r = IsPrefixOf (log_of owner known) chain × Contains chain r

    of_head : (c : Chain) (stands : Contains brought.chains c) → Extends view h.basis.front h.held c.owner c.records → (r : Record) → Contains (rest g c stands) r
        → (chain : List Record) → IsOfHead met view own before c.owner chain c.records → GoesOnWith c.owner chain r
    of_head c stands ext r d chain o =
        let after = rest g c stands in
        let all = full g c stands in
        let of_c = (is_above (to g c stands) c.records r d).0 in
        let made = makes c stands ext r d o.head (o.ends r of_c) in
        let goes_on = known_prefix g c stands ext in
        ⊎_elim
        (λ over_passed. absurd (over_passed all made))
        (λ other.
        let same : all ≡ chain = one_chain (record { blocks = met; view = view; floor = before }) g.apart c.owner o.head all chain made other in (
          subst (λ (l : List Record). IsPrefixOf (log_of c.owner known) l) same goes_on,
          subst (λ (l : List Record). Contains l r) same (Contains-append_right (log_of c.owner part) after r d),
        ))
        o.makes

    pub hand_is_known : (r : Record) → Hand r
        → (told : (c : Chain) → Contains brought.chains c → (chain : List Record) × (((q : Record) → Contains c.records q → Contains known q) ⊎ IsOfHead met view own before c.owner chain c.records))
        → Contains known r ⊎ ((c : Chain) × (stands : Contains brought.chains c) × GoesOnWith c.owner (told c stands).0 r)
    hand_is_known r hand told = ⊎_elim
        (λ c. inl (held_known g r c))
        (λ b. ⊎_elim
        (λ all. inl (all r (is_above (to g b.0 b.1) b.0.records r b.3).0))
        (λ o. inr (b.0, b.1, of_head b.0 b.1 b.2 r b.3 (told b.0 b.1).0 o))
        (told b.0 b.1).1)
        (hand_cases r hand)
