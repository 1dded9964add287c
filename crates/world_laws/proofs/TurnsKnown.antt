-- What an agent knows after a turn that was answered, where no names collide: what it took, and what it wrote.
use Rattle.std.proofs.Common.{◌≡◌, ◌≢◌, ◌⊎◌, inl, inr, ⊎_elim, ℕ, ◌≤◌, List, [], ◌∷◌, ◌++◌, filter, Option, Some, None, refl, sym, ap, ◌∙◌, subst, arith, Contains}
use Rattle.std.specs.List.{AllByRecursion}
use Rattle.std.specs.Prelude.{IfSome, IsTrue}
use Rattle.std.proofs.lemmas.List.Elements.{Contains-append_left, Contains-append_cases}
use Rattle.ivy_base.specs.declared.key.Key.{Key}
use Rattle.ivy_base.specs.declared.key.PubKey.{PubKey}
use Rattle.ivy_base.specs.Naming.{IsCollisionFree, head_key_of}
use Rattle.tree_model.specs.Tree.{same_key}
use Rattle.tree_model.proofs.Keys.{same_key_is}
use Rattle.log_model.specs.Chain.{IsGood}
use Rattle.log_model.specs.Closed.{IsClosed, IsClosedPart, log_of}
use Rattle.log_model.specs.Rank.{front}
use Rattle.log_model.specs.Record.{Record}
use Rattle.log_model.specs.Standing.{Stand, StandsAmong}
use Rattle.log_model.specs.ViewKeys.{HasKeys}
use Rattle.log_model.proofs.Standing.{stands_among_more}
use Rattle.log_model.specs.Vector.{Dominates, Entry, Stamp, Vector, join, reach, seq_of, stamp_at}
use Rattle.log_model.specs.View.{View, IsView, is_named}
use Rattle.log_model.proofs.Later.{good_of}
use Rattle.log_model.proofs.Lists.{each, each_from, from_filter}
use Rattle.log_model.proofs.Weights.{sorted_front}
use Rattle.nfs_model.specs.declared.replies.Reply.{Reply}
use Rattle.turn_laws.proofs.Starts.{ends_with, front_dominates}
use Rattle.turn_laws.proofs.Turns.{turn_closed}
use Rattle.turn_model.specs.Basis.{Holding, HoldsAll}
use Rattle.turn_model.specs.Known.{EndsAt, IsBacked, IsKnown, IsUnderHead, IsVerified}
use Rattle.turn_model.specs.Turn.{Asked, Candidate, IsAvailable, Turned, turn_on}
use Rattle.agent_model.specs.Agent.{joined, kept_of}
use Rattle.agent_model.specs.Candidates.{AreCandidatesOf, Grounds}
use Rattle.agent_model.specs.Standing.{Refresh}
use Rattle.agent_model.specs.Turning.{IsByDefinition, IsTurnOf, inputs_before, with_held}
use Rattle.session_model.specs.Brought.{all_heads, brought_in, heads_at}
use Rattle.session_model.specs.Executions.{grounds_of, HasRefreshed}
use Rattle.session_model.specs.Refreshing.{Done, Note}
use Rattle.session_model.specs.Replies.{Asks}
use Rattle.session_laws.proofs.OneRefresh.{refresh_is_deterministic}
use Rattle.session_laws.proofs.Starting.{joined_front}
use Rattle.world_model.specs.Agents.{HssAgent, IsHssKept, IsHssTurnIn, hss_signing, hss_inputs, own_hss_key as own}
use Rattle.world_model.specs.Keepers.{fails_next}
use Rattle.world_model.specs.World.{Participant, named_bytes, participant}
use Rattle.world_model.specs.GhostState.{Knowing, knowing_of, known_of}
use Rattle.world_model.specs.Steps.{Configuration, turning_of}
use Rattle.world_laws.specs.Invariant.{IsInHand, IsKeptSo, IsSavedWell, IsSound, IsSoundSession, Invariant}
use Rattle.world_laws.proofs.Bringing.{agent_sound, found_named, in_a_view, its_key, its_view, knew_before, refresh_may_turn}
use Rattle.world_laws.proofs.MoreMet.{more_stand, more_verified}
use Rattle.world_laws.proofs.OneAsked.{caller_is_identity, one_asked}
use Rattle.world_laws.proofs.SignedHeads.{from_map}
use Rattle.world_laws.proofs.TurnsBlocks.{stand_met}
use Rattle.agent_laws.proofs.Floors.{joined_known, joined_second, own_number}
use Rattle.agent_laws.proofs.Sets.{holds_written}
use Rattle.world_laws.proofs.TurnsTaken.{IsBrought, brought_under, has_known, of_hand, one_candidates, one_taken, own_log_known}

-- ---- what is known and held

-- of an agent that knew some records by a floor: the set that it knows and holds then, by that floor with what is held joined into it
pub record KnowsThen (view : View) (own : PubKey) (floor : Vector) (received : List Entry) (known : List Record) (met : List (List ℕ)) (h : Holding) (set : List Record) : Type 0 where
  pub more : (r : Record) → Contains known r → Contains set r
  pub closed : IsClosed view set
  pub holds : HoldsAll view set h
  pub by_floor : IsKnown view (join floor (joined h)) set
  pub covers : Dominates (join floor (joined h)) (front set)
  pub stand : Stand met set
  pub verified : IsVerified met view own (join floor (joined h)) received set

-- an own record, or another's under a head that was received
abbrev pub IsOwnOrUnder : List (List ℕ) → List Entry → PubKey → Record → Type 0
IsOwnOrUnder met received own r = (r.owner ≡ own) ⊎ ((r.owner ≡ own → ⊥) × IsUnderHead met received r)

module _ (view : View) (well : IsView view) (own : PubKey) (member : Contains view.members own) (floor : Vector) (received : List Entry) (known : List Record) (by_floor : IsKnown view floor known)
    (met : List (List ℕ)) (h : Holding) (set : List Record) (more : (r : Record) → Contains known r → Contains set r) (closed : IsClosed view set) (holds : HoldsAll view set h)
    (sound : (r : Record) → Contains set r → IsOwnOrUnder met received own r) where
  front_is : joined h ≡ front set
  front_is = joined_front view set h holds

  far : Dominates (join floor (joined h)) (front set)
  far log = subst (λ (v : Vector). seq_of (front set) log ≤ seq_of (join floor v) log) (sym front_is) (joined_second log floor (front set) (sorted_front set))

  backed : (r : Record) → Contains set r → IsOwnOrUnder met received own r → IsBacked met own (join floor (joined h)) received r
  backed r c (inl mine) =
      let number = own_number view well own member r (subst (λ (o : PubKey). IsGood view o r) mine (good_of view set r closed c)) in
      let low = front_dominates set r c (head_key_of own) in
      let high = far (head_key_of own) in
      inl (mine, omega (arith, number, low, high))
  backed r c (inr other) = inr other

  pub verified_then : IsVerified met view own (join floor (joined h)) received set
  verified_then = record { chains = closed.chains; backed = each_from (IsBacked met own (join floor (joined h)) received) set (λ r c. backed r c (sound r c)) }

  pub knows_then : Stand met set → KnowsThen view own floor received known met h set
  knows_then stand = record {
    more = more;
    closed = closed;
    holds = holds;
    by_floor = subst (λ (v : Vector). IsKnown view (join floor v) set) (sym front_is) (joined_known view well floor known set by_floor more closed);
    covers = far;
    stand = stand;
    verified = verified_then;
  }

-- among more blocks
pub knows_more : {view : View} {own : PubKey} {floor : Vector} {received : List Entry} {known : List Record} {met : List (List ℕ)} {h : Holding} {set : List Record} (more : List (List ℕ)) → ((b : List ℕ) → Contains met b → Contains more b)
    → KnowsThen view own floor received known met h set → KnowsThen view own floor received known more h set
knows_more {view} {own} {floor} {received} {known} {met} {h} {set} more grows k = record {
  more = k.more;
  closed = k.closed;
  holds = k.holds;
  by_floor = k.by_floor;
  covers = k.covers;
  stand = more_stand met more grows set k.stand;
  verified = more_verified met more grows view own (join floor (joined h)) received set k.verified;
}

-- a log that a stamp ends isn't empty
ended_begun : (o : Option Stamp) (log : List Record) → EndsAt o log → 1 ≤ reach o → log ≢ []
ended_begun None log ends some none = absurd (omega (arith, some))
ended_begun (Some t) log ends some none = nothing_there ends.0 ends.1 (sym ends.2 ∙ none)
  where
    nothing_there : (before : List Record) (last : Record) → before ++ last ∷ [] ≡ [] → ⊥
    nothing_there [] last e = cc e
    nothing_there (r ∷ before) last e = cc e

-- ---- a turn that was answered

module _ (c : Configuration) (r : ℕ) (p : Participant) (keeps : Invariant (c.world, c.ghost_state)) (hand : IsInHand c r) (is_p : participant c.world c.session.by ≡ Some p)
    (notes : List Note) (given : Refresh) (xid : ℕ) (asked : Asked) (reply : Reply) (done : HasRefreshed c.session notes given) (asks : Asks c.session.standing.view c.session.message xid asked)
    (h : Holding) (written : List Record) (by_definition : IsByDefinition hss_signing given (turning_of c.world p c.session.standing.view) asked h written reply) (turned : Turned) where
  abbrev view : View
  view = c.session.standing.view

  abbrev a : HssAgent
  a = p.agent

  abbrev knowing : Knowing
  knowing = knowing_of c.ghost_state p.name

  abbrev heads : Key → List Stamp
  heads = heads_at (brought_in c.session.parts)

  abbrev grounds : Grounds
  grounds = grounds_of (named_bytes c.world) c.session c.began.knew

  module _ (apart : IsCollisionFree (named_bytes c.world))
      (is_turn : IsHssTurnIn (named_bytes c.world) (turning_of c.world p c.session.standing.view) c.session c.began.knew (known_of c.ghost_state p.name) turned) where
    its : IsSoundSession c.world c.ghost_state c.session c.began
    its = hand.sound apart

    in_view : a.view ≡ Some view
    in_view = its_view c r hand p is_p

    pub agent : IsSound c.world.met p knowing view
    agent = agent_sound c keeps apart its p is_p in_view

    of : IsTurnOf hss_signing (record { grounds = grounds; started = given.started }) (record { agent = a; view = view; now = c.world.now; fails = fails_next p.keeper }) knowing.known asked h written reply
    of = let may = refresh_may_turn c p r notes given keeps apart hand is_p done in by_definition grounds knowing.known apart may.0 may.1

    given_is : is_turn.given ≡ given
    given_is = (refresh_is_deterministic c.session.standing (brought_in c.session.parts) is_turn.notes notes is_turn.given given Done Done is_turn.refreshed.1 done.1).1

    pub asked_is : is_turn.asked ≡ asked
    asked_is = one_asked view c.session.message is_turn.xid xid is_turn.asked asked is_turn.asks asks

    abbrev candidates : List Candidate
    candidates = is_turn.is_turn.candidates

    pub are_candidates : AreCandidatesOf grounds view given.started candidates
    are_candidates = subst (λ (g : Refresh). AreCandidatesOf grounds view g.started candidates) given_is is_turn.is_turn.of_heads

    -- ---- what it took

    abbrev pub taken : List Record
    taken = is_turn.taken

    pub largest : IsClosedPart view (IsAvailable knowing.known candidates) taken
    largest = is_turn.is_turn.largest

    taken_is : of.taken ≡ taken
    taken_is = one_taken view knowing.known candidates of.taken taken
        (subst (λ (l : List Candidate). IsClosedPart view (IsAvailable knowing.known l) of.taken)
        (one_candidates grounds view given.started apart of.is_turn.candidates candidates of.is_turn.of_heads are_candidates) of.is_turn.largest) largest

    pub turned_is : turned ≡ turn_on (hss_inputs a view (fails_next p.keeper)) taken asked c.world.now
    turned_is = is_turn.is_turn.by_set ∙ ap (λ (x : Asked). turn_on (hss_inputs a view (fails_next p.keeper)) taken x c.world.now) asked_is

    pub writes : taken ++ written ≡ (turn_on (inputs_before hss_signing a view) taken asked c.world.now).set
    writes = subst (λ (t : List Record). t ++ written ≡ (turn_on (inputs_before hss_signing a view) t asked c.world.now).set) taken_is of.writes

    holds : HoldsAll view taken h
    holds = subst (λ (t : List Record). HoldsAll view t h) taken_is of.holds

    before : (q : Record) → Contains c.began.knew q → Contains knowing.known q
    before = knew_before c keeps apart its p is_p in_view

    own_is : c.session.standing.own ≡ own a
    own_is = its_key c r hand p is_p

    pub well : IsView view
    well = in_a_view c keeps apart its p is_p in_view

    pub kept : IsHssKept (kept_of a)
    kept = (each (IsKeptSo IsSavedWell) c.world.participants p keeps.saved (found_named c.world.participants c.session.by p is_p).0).3.agent

    pub member : Contains view.members (own a)
    member = (subst (λ (o : Option View). IfSome o (λ v. IsView v × HasKeys v × Contains v.members (own a) × AllByRecursion (λ e. IsTrue (is_named v e.0)) a.floor)) in_view kept.view).2

    -- the heads that were brought were received
    were : (log : Key) (t : Stamp) → Contains (heads log) t → Contains knowing.received (log, t)
    were log t among =
        let found = from_map (λ (e : Entry). e.1) (filter (λ (e : Entry). same_key e.0 log) (all_heads (brought_in c.session.parts))) t among in
        let entry = from_filter (λ (e : Entry). same_key e.0 log) (all_heads (brought_in c.session.parts)) found.0 found.1 in
        let one : found.0 ≡ (log, t) = (λ i. (same_key_is found.0.0 log entry.1 i, sym found.2 i)) in
        subst (λ (n : List ℕ). Contains (knowing_of c.ghost_state n).received (log, t)) (sym (found_named c.world.participants c.session.by p is_p).1)
        (subst (Contains (knowing_of c.ghost_state c.session.by).received) one (its.received found.0 entry.0))

    brought : (q : Record) → IsBrought grounds view given.started knowing.known before candidates are_candidates q
        → (q.owner ≡ c.session.standing.own → ⊥) × IsUnderHead c.world.met knowing.received q × StandsAmong c.world.met q
    brought q b = brought_under grounds view given.started knowing.known before candidates are_candidates knowing.received were c.world.met
        (λ chain owner is_chain stands. stand_met (c.world, c.ghost_state) keeps view owner chain is_chain stands) q b

    available : (q : Record) → Contains taken q → IsOwnOrUnder c.world.met knowing.received (own a) q × StandsAmong c.world.met q
    available q among = ⊎_elim
        (λ known. (of_backed (each (IsBacked c.world.met (own a) a.floor knowing.received) knowing.known q agent.verified.backed known), each (StandsAmong c.world.met) knowing.known q agent.stand known))
        (λ new. let b = brought q new in (inr (subst (λ (o : PubKey). q.owner ≡ o → ⊥) own_is b.0, b.1), b.2))
        (of_hand grounds view given.started knowing.known before candidates are_candidates q (largest.part q among))
      where
        of_backed : IsBacked c.world.met (own a) a.floor knowing.received q → IsOwnOrUnder c.world.met knowing.received (own a) q
        of_backed (inl mine) = inl mine.0
        of_backed (inr other) = inr other

    has_all : (q : Record) → Contains knowing.known q → Contains taken q
    has_all = has_known grounds view given.started knowing.known before candidates are_candidates agent.knows.closed taken largest

    pub taken_known : KnowsThen view (own a) a.floor knowing.received knowing.known c.world.met h taken
    taken_known = knows_then view well (own a) member a.floor knowing.received knowing.known agent.knows.by_floor c.world.met h taken has_all largest.closed holds
        (λ q among. (available q among).0) (each_from (StandsAmong c.world.met) taken (λ q among. (available q among).1))

    pub same_own_log : log_of (own a) taken ≡ log_of (own a) knowing.known
    same_own_log = subst (λ (o : PubKey). log_of o taken ≡ log_of o knowing.known) own_is
        (own_log_known grounds view given.started knowing.known before candidates are_candidates agent.knows.closed taken largest)

    -- ---- and what it wrote

    begun : log_of (own a) taken ≢ []
    begun = ended_begun (stamp_at a.floor (head_key_of (own a))) (log_of (own a) taken)
        (subst (EndsAt (stamp_at a.floor (head_key_of (own a)))) (sym same_own_log) (agent.knows.by_floor.ends (own a) member)) kept.some

    written_closed : IsClosed view (taken ++ written)
    written_closed = let last = ends_with taken (own a) begun in
        subst (IsClosed view) (sym writes)
        (turn_closed (inputs_before hss_signing a view) taken asked c.world.now last.0 well member largest.closed last.1 (caller_is_identity asks.caller) asks.arguments.fit keeps.moment)

    module _ (owned : AllByRecursion (λ q. q.owner ≡ own a) written) where
      has_more : (q : Record) → Contains knowing.known q → Contains (taken ++ written) q
      has_more q known = Contains-append_left taken written q (has_all q known)

      written_holds : HoldsAll view (taken ++ written) (with_held h written)
      written_holds = holds_written view (own a) taken h holds (inputs_before hss_signing a view) refl asked c.world.now written writes

      at_either : (q : Record) → Contains (taken ++ written) q → IsOwnOrUnder c.world.met knowing.received (own a) q
      at_either q among = ⊎_elim (λ old. (available q old).0) (λ new. inl (each (λ (x : Record). x.owner ≡ own a) written q owned new)) (Contains-append_cases taken written q among)

      pub written_verified : IsVerified c.world.met view (own a) (join a.floor (joined (with_held h written))) knowing.received (taken ++ written)
      written_verified = verified_then view well (own a) member a.floor knowing.received knowing.known agent.knows.by_floor c.world.met (with_held h written) (taken ++ written) has_more written_closed written_holds at_either

      -- among blocks with those of these records
      module _ (more : List (List ℕ)) (grows : (b : List ℕ) → Contains c.world.met b → Contains more b) (stand : Stand more written) where
        in_more : (q : Record) → IsOwnOrUnder c.world.met knowing.received (own a) q → IsOwnOrUnder more knowing.received (own a) q
        in_more q (inl mine) = inl mine
        in_more q (inr (other, u)) =
            inr (other, record { head = u.head; received = u.received; log = u.log; linked = u.linked; stand = more_stand c.world.met more grows u.log u.stand; of_log = u.of_log; ends = u.ends; below = u.below })

        stands : (q : Record) → Contains (taken ++ written) q → StandsAmong more q
        stands q among = ⊎_elim (λ old. stands_among_more c.world.met more q grows (available q old).1) (λ new. each (StandsAmong more) written q stand new) (Contains-append_cases taken written q among)

        pub written_known : KnowsThen view (own a) a.floor knowing.received knowing.known more (with_held h written) (taken ++ written)
        written_known = knows_then view well (own a) member a.floor knowing.received knowing.known agent.knows.by_floor more (with_held h written) (taken ++ written) has_more written_closed written_holds
            (λ q among. in_more q (at_either q among)) (each_from (StandsAmong more) (taken ++ written) stands)
