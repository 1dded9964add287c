-- The turn of an agent with no snapshot to load and no basis isn't refused; so a session begins again once at most.
use Rattle.std.proofs.Common.{◌≡◌, ◌⊎◌, inl, inr, ⊎_elim, ℕ, zero, suc, ◌≤◌, Bool, true, false, cond, ◌&&◌, List, [], Option, Some, None, refl, sym, ap, ◌∙◌, subst, arith}
use Rattle.std.specs.Prelude.{is_some, IfSome}
use Rattle.std.specs.FinMap.Entries.{is_sorted}
use Rattle.ivy_base.specs.declared.key.Key.{Key}
use Rattle.ivy_base.specs.declared.key.PubKey.{PubKey}
use Rattle.ivy_base.specs.declared.operation.Moment.{Moment}
use Rattle.ivy_base.specs.Naming.{IsCollisionFree, key_cmp}
use Rattle.log_model.specs.View.{View}
use Rattle.log_model.specs.Vector.{Vector, Dominates}
use Rattle.log_model.specs.Rank.{front}
use Rattle.turn_model.specs.Basis.{Basis, Holding, HoldsAll, fresh_basis}
use Rattle.turn_model.specs.Turn.{Asked}
use Rattle.agent_model.specs.Agent.{joined}
use Rattle.agent_model.specs.Candidates.{StandsWithin}
use Rattle.agent_model.specs.Standing.{Refresh, Standing, dominates, going_on}
use Rattle.agent_model.specs.Turning.{TurnEnd, Turns, is_behind, is_below_tide}
use Rattle.agent_model.specs.Turning.Turns.{behind, below, answers as answers_it}
use Rattle.session_model.specs.Brought.{Brought, brought_in}
use Rattle.session_model.specs.Executions.{HasRefreshed, IsRefusal}
use Rattle.session_model.specs.Executions.TakesTurn.{answers, begins_again, gives_up}
use Rattle.session_model.specs.Refreshing.{Done, Loaded, LoadsFor, Note, RefreshEnd, Refreshes, counting, start_of}
use Rattle.session_model.specs.Refreshing.LoadsFor.{none as nothing_to_load, some as snapshot_to_load}
use Rattle.session_model.specs.Refreshing.Refreshes.{loading, fetching}
use Rattle.session_laws.proofs.Refreshed.{done_is_not_behind}
use Rattle.session_laws.proofs.Starting.{start_is_sorted}
use Rattle.world_model.specs.Agents.{HssAgent, HssKept, hss_signing, own_hss_key}
use Rattle.world_model.specs.World.{Participant, named_bytes, participant}
use Rattle.world_model.specs.GhostState.{known_of}
use Rattle.world_model.specs.Keepers.{fails_next}
use Rattle.world_model.specs.Steps.{Configuration}
use Rattle.world_laws.specs.Invariant.{BeganFresh, IsInHand, IsSoundSession, Invariant, KeepsUp}
use Rattle.world_laws.specs.Invariant.KeepsUp.{still, grown, dropped}
use Rattle.world_laws.specs.Laws.{SecondTurnIsAnswered}
use Rattle.world_laws.proofs.Bringing.{agent_sound, are_named, basis_known, found_named, in_a_view, its_key, its_view, knew_before, knew_stand, some_same, starts}
use Rattle.world_laws.proofs.NotRefused.{HasEach, all_held_not_behind, fresh_not_below, goes_far, has_held, has_part, has_sorted}

-- ---- from where a refresh starts

started_from : {s : Standing} {brought : List Brought} {notes : List Note} {given : Refresh} {end : RefreshEnd} → Refreshes s brought notes given end
    → (given.started ≡ s.held) ⊎ ((b : Basis) × (given.basis ≡ Some b) × (given.started ≡ b.front))
started_from (loading loads) = inl refl
started_from {s = s} (fetching basis loads fetches) = by (counting s.floor basis)
  where
    by : (o : Option Basis) → (start_of s o ≡ s.held) ⊎ ((b : Basis) × (o ≡ Some b) × (start_of s o ≡ b.front))
    by None = inl refl
    by (Some b) = inr (b, refl, refl)

none_loaded : {o : Option Key} {brought : List Brought} {basis : Option Basis} → LoadsFor o brought (Loaded basis) → o ≡ None → basis ≡ None
none_loaded nothing_to_load none = refl
none_loaded (snapshot_to_load loads) none = cc none

no_basis : {s : Standing} {brought : List Brought} {notes : List Note} {given : Refresh} {end : RefreshEnd} → Refreshes s brought notes given end → s.to_load ≡ None → given.basis ≡ None
no_basis (loading loads) none = refl
no_basis {s = s} (fetching basis loads fetches) none = ap (counting s.floor) (none_loaded loads none)

not_some : (o : Option Basis) (b : Basis) → o ≡ None → o ≡ Some b → ⊥
not_some o b none some = cc (sym none ∙ some)

pub started_held : {s : Standing} {brought : List Brought} {notes : List Note} {given : Refresh} {end : RefreshEnd} → Refreshes s brought notes given end → s.to_load ≡ None → given.started ≡ s.held
started_held {given = given} refreshes none = ⊎_elim (λ held. held) (λ f. absurd (not_some given.basis f.0 (no_basis refreshes none) f.1)) (started_from refreshes)

-- ---- of a session's agent

pub one_view : (v w : View) → Some v ≡ Some w → v ≡ w
one_view v w e = cc e

-- without a snapshot to load a turn goes on from what is held
pub goes_on_held : (a : HssAgent) (o : Option Basis) → a.to_load ≡ None → going_on a o ≡ a.holding
goes_on_held a None none = refl
goes_on_held a (Some b) none = by (is_some a.to_load) (ap is_some none)
  where
    by : (t : Bool) → t ≡ false → cond (t && dominates a.floor b.front) (record { basis = b; held = [] }) a.holding ≡ a.holding
    by false f = refl
    by true f = cc f

-- a turn that is neither behind nor below the tide isn't refused
not_refused : (given : Refresh) (a : HssAgent) (view : View) (fails : Bool) (asked : Asked) (now : Moment) (end : TurnEnd) (after : HssAgent) (saving : Option HssKept)
    → is_behind view (own_hss_key a) a.floor (going_on a given.basis) given ≡ false → is_below_tide (own_hss_key a) a.floor (going_on a given.basis) given ≡ false
    → Turns hss_signing given (record { agent = a; view = view; now = now; fails = fails }) asked end after saving → IsRefusal end → ⊥
not_refused given a view fails asked now _ _ _ ahead above (behind is) refusal = cc (sym is ∙ ahead)
not_refused given a view fails asked now _ _ _ ahead above (below near is) refusal = cc (sym is ∙ above)
not_refused given a view fails asked now _ _ _ ahead above (answers_it h written reply after saving near over basis takes becomes by) refusal = absurd refusal

module _ (c : Configuration) (keeps : Invariant (c.world, c.ghost_state)) (apart : IsCollisionFree (named_bytes c.world)) (sound : IsSoundSession c.world c.ghost_state c.session c.began)
    (p : Participant) (is_p : participant c.world c.session.by ≡ Some p) (in_view : p.agent.view ≡ Some c.session.standing.view) where
  same_participant : sound.by ≡ p
  same_participant = some_same sound.by p (sym sound.is_by ∙ is_p)

  pub keeps_up : KeepsUp c.session sound.of p.agent (known_of c.ghost_state p.name)
  keeps_up = subst (λ (name : List ℕ). KeepsUp c.session sound.of p.agent (known_of c.ghost_state name)) (sym (found_named c.world.participants c.session.by p is_p).1)
      (subst (λ (q : Participant). KeepsUp c.session sound.of q.agent (known_of c.ghost_state c.session.by)) same_participant sound.keeps_up)

  module _ (notes : List Note) (given : Refresh) (done : HasRefreshed c.session notes given) where
    pub sorted : is_sorted key_cmp given.started ≡ true
    sorted = start_is_sorted c.session.standing sound.of c.began.knew (brought_in c.session.parts) notes given Done sound.knows sound.held
        (basis_known c keeps apart sound p is_p in_view notes given done) done.1

    -- the agent is as it was
    still_not_behind : p.agent.to_load ≡ None → p.agent.to_load ≡ c.session.standing.to_load → joined p.agent.holding ≡ c.session.standing.held → p.agent.floor ≡ c.session.standing.floor
        → is_behind c.session.standing.view c.session.standing.own p.agent.floor p.agent.holding given ≡ false
    still_not_behind none load held floor =
        subst (λ (v : Vector). is_behind c.session.standing.view c.session.standing.own v p.agent.holding given ≡ false) (sym floor)
        (done_is_not_behind (named_bytes c.world) c.session.standing p.agent.holding c.began.knew (brought_in c.session.parts) notes given apart
        (in_a_view c keeps apart sound p is_p in_view) sound.knows.by_floor (knew_stand c keeps apart sound p is_p in_view) (starts c keeps apart sound p is_p in_view notes given done)
        (are_named c keeps apart sound p is_p in_view) done.1 (held ∙ sym (started_held done.1 (sym load ∙ none))) sorted)

    -- all that it knows is held
    pub grown_not_behind : HoldsAll c.session.standing.view (known_of c.ghost_state p.name) p.agent.holding → Dominates (joined p.agent.holding) c.session.standing.held
        → is_behind c.session.standing.view c.session.standing.own p.agent.floor p.agent.holding given ≡ false
    grown_not_behind all far =
        let knows = (agent_sound c keeps apart sound p is_p in_view).knows in
        all_held_not_behind c.session.standing.view (known_of c.ghost_state p.name) p.agent.holding p.agent.floor knows.closed knows.by_floor all c.session.standing.own given (by (started_from done.1))
      where
        by : (given.started ≡ c.session.standing.held) ⊎ ((b : Basis) × (given.basis ≡ Some b) × (given.started ≡ b.front)) → dominates (joined p.agent.holding) given.started ≡ true
        by (inl held) = goes_far (joined p.agent.holding) given.started (has_sorted (joined p.agent.holding) given.started sorted
            (subst (λ (v : Vector). Dominates (joined p.agent.holding) v) (sym held) far))
        by (inr (b, is_b, started)) =
            let knows = (agent_sound c keeps apart sound p is_p in_view).knows in
            let within : StandsWithin c.session.standing.view c.began.knew b = subst (λ (o : Option Basis). IfSome o (StandsWithin c.session.standing.view c.began.knew)) is_b (basis_known c keeps apart sound p is_p in_view notes given done) in
            has_held c.session.standing.view (known_of c.ghost_state p.name) p.agent.holding p.agent.floor knows.closed knows.by_floor all given.started
            (subst (HasEach (front (known_of c.ghost_state p.name))) (sym (started ∙ within.1.front))
            (has_part c.session.standing.view (known_of c.ghost_state p.name) knows.closed within.0 (λ q within_q. knew_before c keeps apart sound p is_p in_view q (within.2 q within_q))))

    -- either, where what was held wasn't dropped
    not_behind : p.agent.to_load ≡ None → ((BeganFresh c.session sound.of → ⊥) → c.session.starts ≡ 0 → ⊥)
        → is_behind c.session.standing.view c.session.standing.own p.agent.floor p.agent.holding given ≡ false
    not_behind none not_dropped = by keeps_up
      where
        by : KeepsUp c.session sound.of p.agent (known_of c.ghost_state p.name) → is_behind c.session.standing.view c.session.standing.own p.agent.floor p.agent.holding given ≡ false
        by (still load held floor) = still_not_behind none load held floor
        by (grown load all far) = grown_not_behind all far
        by (dropped other first load basis) = absurd (not_dropped other first)

  -- so its turn isn't refused
  pub turn_not_refused : c.session.standing.own ≡ own_hss_key p.agent → p.agent.to_load ≡ None → p.agent.holding.basis ≡ fresh_basis → ((BeganFresh c.session sound.of → ⊥) → c.session.starts ≡ 0 → ⊥)
      → (notes : List Note) (given : Refresh) → HasRefreshed c.session notes given
      → (view : View) (fails : Bool) (asked : Asked) (now : Moment) (end : TurnEnd) (after : HssAgent) (saving : Option HssKept) → p.agent.view ≡ Some view → Turns hss_signing given (record { agent = p.agent; view = view; now = now; fails = fails }) asked end after saving → IsRefusal end → ⊥
  turn_not_refused own_key none fresh not_dropped notes given done view fails asked now end after saving entered turns refusal =
      not_refused given p.agent view fails asked now end after saving ahead above turns refusal
    where
      held : going_on p.agent given.basis ≡ p.agent.holding
      held = goes_on_held p.agent given.basis none

      same_view : c.session.standing.view ≡ view
      same_view = one_view c.session.standing.view view (sym in_view ∙ entered)

      ahead : is_behind view (own_hss_key p.agent) p.agent.floor (going_on p.agent given.basis) given ≡ false
      ahead = subst (λ (v : View). is_behind v (own_hss_key p.agent) p.agent.floor (going_on p.agent given.basis) given ≡ false) same_view
          (subst (λ (o : PubKey). is_behind c.session.standing.view o p.agent.floor (going_on p.agent given.basis) given ≡ false) own_key
          (subst (λ (h : Holding). is_behind c.session.standing.view c.session.standing.own p.agent.floor h given ≡ false) (sym held) (not_behind notes given done none not_dropped)))

      above : is_below_tide (own_hss_key p.agent) p.agent.floor (going_on p.agent given.basis) given ≡ false
      above = subst (λ (h : Holding). is_below_tide (own_hss_key p.agent) p.agent.floor h given ≡ false) (sym held) (fresh_not_below (own_hss_key p.agent) p.agent.floor p.agent.holding given fresh)

-- ---- the law

abbrev pub IsFreshNow : HssAgent → Type 0
IsFreshNow a = (a.to_load ≡ None) × (a.holding.basis ≡ fresh_basis)

-- after it began again
module _ (c : Configuration) (r : ℕ) (keeps : Invariant (c.world, c.ghost_state)) (apart : IsCollisionFree (named_bytes c.world)) (hand : IsInHand c r)
    (p : Participant) (is_p : participant c.world c.session.by ≡ Some p) where
  later_not_refused : (sound : IsSoundSession c.world c.ghost_state c.session c.began) → 1 ≤ c.session.starts → (notes : List Note) (given : Refresh) → HasRefreshed c.session notes given
      → (view : View) (fails : Bool) (asked : Asked) (now : Moment) (end : TurnEnd) (after : HssAgent) (saving : Option HssKept) → p.agent.view ≡ Some view → Turns hss_signing given (record { agent = p.agent; view = view; now = now; fails = fails }) asked end after saving → IsRefusal end → ⊥
  later_not_refused sound some =
      let usual : IsFreshNow p.agent = subst (λ (q : Participant). IsFreshNow q.agent) (some_same sound.by p (sym sound.is_by ∙ is_p)) (sound.anew some) in
      turn_not_refused c keeps apart sound p is_p (its_view c r hand p is_p) (its_key c r hand p is_p) usual.0 usual.1 (λ other first. omega (arith, some, first))

  pub none_refused_later : (notes : List Note) (given : Refresh) → HasRefreshed c.session notes given
      → (view : View) (fails : Bool) (asked : Asked) (now : Moment) (end : TurnEnd) (after : HssAgent) (saving : Option HssKept) → p.agent.view ≡ Some view → Turns hss_signing given (record { agent = p.agent; view = view; now = now; fails = fails }) asked end after saving → IsRefusal end → c.session.starts ≡ 0
  none_refused_later notes given done view fails asked now end after saving entered turns refusal = by c.session.starts refl
    where
      by : (n : ℕ) → c.session.starts ≡ n → c.session.starts ≡ 0
      by zero e = e
      by (suc n) e = absurd (later_not_refused (hand.sound apart) (omega (arith, e)) notes given done view fails asked now end after saving entered turns refusal)

pub second_turn_is_answered : SecondTurnIsAnswered
second_turn_is_answered c p r view _ _ _ _ keeps apart replicas hand is_p entered (answers notes given xid asked reply applied after saving done asks turns) refusal = absurd refusal
second_turn_is_answered c p r view _ _ _ _ keeps apart replicas hand is_p entered (begins_again notes given xid asked end after saving done asks turns refused few) refusal =
    none_refused_later c r keeps apart hand p is_p notes given done view (fails_next p.keeper) asked c.world.now end after saving entered turns refused
second_turn_is_answered c p r view _ _ _ _ keeps apart replicas hand is_p entered (gives_up notes given xid asked end after saving done asks turns refused many) refusal =
    none_refused_later c r keeps apart hand p is_p notes given done view (fails_next p.keeper) asked c.world.now end after saving entered turns refused
