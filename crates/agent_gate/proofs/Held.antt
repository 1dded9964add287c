-- What an agent holds, of a basis that is fresh and with no snapshot to load: no refusal drops it, and from the first entry on it is all that is known.
use Rattle.std.proofs.Common.{◌≡◌, ◌⊎◌, inl, inr, ⊎_elim, ◌≤◌, Bool, true, false, cond, not, List, [], ◌∷◌, ◌++◌, filter, flat_map, map, Option, None, Err, refl, sym, ap, ◌∙◌, subst, arith, Contains, ltb-true, lt-ltb}
use Rattle.std.specs.Prelude.{nat_le, nat_lt}
use Rattle.std.specs.Ordering.{eq_by_cmp}
use Rattle.std.proofs.lemmas.List.Elements.{Contains-append_cases}
use Rattle.ivy_base.specs.declared.key.PubKey.{PubKey}
use Rattle.ivy_base.specs.declared.operation.Moment.{Moment}
use Rattle.ivy_base.specs.Naming.{head_key_of, owner_cmp}
use Rattle.log_model.specs.Record.{Record}
use Rattle.log_model.specs.Signing.{Signing}
use Rattle.log_model.specs.Vector.{Vector, seq_of, stamp_at}
use Rattle.log_model.specs.View.{View}
use Rattle.log_model.proofs.Lists.{from_filter, in_nothing, who_passes}
use Rattle.turn_model.specs.Basis.{Basis, Holding, HoldsAll, fresh_basis}
use Rattle.turn_model.specs.Turn.{Asked}
use Rattle.agent_model.specs.Agent.{Agent, Kept, joined, own}
use Rattle.agent_model.specs.Standing.{Chain, Refresh, beyond, go_on_from, new_in, new_records}
use Rattle.agent_model.specs.Turning.{Behind, BelowTide, TurnEnd, Turns, is_above, is_below_tide}
use Rattle.agent_model.specs.Turning.Turns.{behind, below, answers}
use Rattle.log_fetch.specs.declared.turned.TurnFault.{TurnFault}
use Rattle.log_fetch.specs.declared.turned.TurnFault.TheVariants as fault
use Rattle.ivy_agent.specs.Holders.{Holder}
use Rattle.agent_gate.specs.declared.request.TurnRequest.{TurnRequest}
use Rattle.agent_gate.specs.Folding.{Execution, HoldsFromFirst, Point}
use Rattle.agent_gate.specs.Taking.{AgentEntry, AgentKind, Became, Taken, TurnsInView}
use Rattle.agent_gate.proofs.Histories.{entry_of, fresh_stays_fresh}
use Rattle.agent_gate.proofs.Left.{goes_on_held}

-- ---- nothing is below a fresh basis

module _ (own : PubKey) (floor : Vector) (h : Holding) (brought : Refresh) where
  -- what goes on from a front has a number
  numbered_beyond : (v : Vector) (c : Chain) (r : Record) → Contains (beyond v c) r → 1 ≤ r.seq
  numbered_beyond v c r within = by (go_on_from (stamp_at v (head_key_of c.owner)) (filter (λ q. nat_lt (seq_of v (head_key_of c.owner)) q.seq) c.records)) within
    where
      by : (b : Bool) → Contains (cond b (filter (λ q. nat_lt (seq_of v (head_key_of c.owner)) q.seq) c.records) []) r → 1 ≤ r.seq
      by false none = absurd (in_nothing r none)
      by true some = let less = ltb-true (seq_of v (head_key_of c.owner)) r.seq (from_filter (λ (q : Record). nat_lt (seq_of v (head_key_of c.owner)) q.seq) c.records r some).1 in omega (arith, less)

  numbered_in : (c : Chain) (r : Record) → Contains (new_in own floor h c) r → 1 ≤ r.seq
  numbered_in c r within = by (eq_by_cmp owner_cmp own c.owner) within
    where
      by : (b : Bool) → Contains (cond b (filter (λ q. nat_le q.seq (seq_of floor (head_key_of c.owner))) (beyond (joined h) c)) (beyond (joined h) c)) r → 1 ≤ r.seq
      by true own_log = numbered_beyond (joined h) c r (from_filter (λ (q : Record). nat_le q.seq (seq_of floor (head_key_of c.owner))) (beyond (joined h) c) r own_log).0
      by false other = numbered_beyond (joined h) c r other

  numbered : (chains : List Chain) (r : Record) → Contains (flat_map (new_in own floor h) chains) r → 1 ≤ r.seq
  numbered [] r new = absurd (in_nothing r new)
  numbered (c ∷ chains) r new = ⊎_elim (numbered_in c r) (numbered chains r) (Contains-append_cases (new_in own floor h c) (flat_map (new_in own floor h) chains) r new)

  none_below : h.basis ≡ fresh_basis → is_below_tide own floor h brought ≡ true → ⊥
  none_below fresh low =
      let its = who_passes (λ (r : Record). not (is_above h.basis r)) (new_records own floor h brought) low in
      let some = numbered brought.chains its.0 its.1 in
      let above : is_above fresh_basis its.0 ≡ true = lt-ltb 0 its.0.seq (omega (arith, some)) in
      let apart : true ≡ false = sym its.2 ∙ ap (λ (b : Basis). not (is_above b its.0)) fresh ∙ ap not above in
      cc apart

-- ---- refusals

module _ {S : Type 0} (signs : Signing S) (brought : Refresh) (a : Agent S) (view : View) (fails : Bool) (asked : Asked) (now : Moment)
    (unloaded : a.to_load ≡ None) (fresh : a.holding.basis ≡ fresh_basis) where
  kept_by : (end : TurnEnd) (after : Agent S) (saving : Option (Kept S)) → Turns signs brought (record { agent = a; view = view; now = now; fails = fails }) asked end after saving
      → (end ≡ Behind) ⊎ (end ≡ BelowTide) → after.holding ≡ a.holding
  kept_by _ _ _ (behind is) refused = refl
  kept_by _ _ _ (below caught_up is) refused =
      absurd (none_below (own signs a) a.floor a.holding brought fresh
      (subst (λ (h : Holding). is_below_tide (own signs a) a.floor h brought ≡ true) (goes_on_held signs a brought.basis unloaded) is))
  kept_by _ _ _ (answers h written reply after saving caught_up above base may becomes by) (inl e) = absurd (cc e)
  kept_by _ _ _ (answers h written reply after saving caught_up above base may becomes by) (inr e) = absurd (cc e)

module _ {K S : Type 0} (kind : AgentKind K S) (opening : Holder K S) (taken : List Taken) where
  pub refused_holds : (before after : Holder K S) (asked : TurnRequest) (fault : TurnFault) → opening.agent.to_load ≡ None → opening.agent.holding.basis ≡ fresh_basis
      → Became kind opening taken before → TurnsInView kind before asked (Err fault) after → after.agent.holding ≡ before.agent.holding
  refused_holds before after asked why unloaded fresh was refused = by why refused
    where
      still : (before.agent.to_load ≡ None) × (before.agent.holding.basis ≡ fresh_basis)
      still = fresh_stays_fresh kind opening before (map entry_of taken) unloaded fresh (record { taken = taken; entries = refl; became = was })

      by : (why : TurnFault) → TurnsInView kind before asked (Err why) after → after.agent.holding ≡ before.agent.holding
      by (fault.Behind standing) is = kept_by kind.signs _ before.agent is.view _ _ _ still.0 still.1 _ after.agent _ is.turn.turns.turns (inl refl)
      by (fault.BelowTide standing) is = kept_by kind.signs _ before.agent is.view _ _ _ still.0 still.1 _ after.agent _ is.turn.turns.turns (inr refl)
      by fault.Memory is = ap (λ (x : Holder K S). x.agent.holding) is.turn

-- ---- from the first entry on

module _ {K S : Type 0} (c : Execution) (g : Point) (opening : Holder K S) where
  pub holds_then : (value : Holder K S) (taken : List Taken) (t : Taken) → HoldsAll c.view g.known value.agent.holding
      → HoldsFromFirst c g opening value (map entry_of (taken ++ t ∷ []))
  holds_then value [] t all = all
  holds_then value (u ∷ taken) t all = all

  pub still_holds : (before after : Holder K S) (history : List AgentEntry) → after.agent.holding ≡ before.agent.holding
      → HoldsFromFirst c g opening before history → HoldsFromFirst c g opening after history
  still_holds before after [] same held = same ∙ held
  still_holds before after (e ∷ history) same held = subst (HoldsAll c.view g.known) (sym same) held
