-- A session has one turn at most, where no names collide: what was brought to it, what it takes, what is written, and what becomes of its
-- agent.
use Rattle.std.proofs.Common.{◌≡◌, ℕ, ◌+◌, ◌≤◌, Bool, true, false, List, [], ◌∷◌, ◌++◌, length, Option, Some, None, refl, sym, ap, ◌∙◌, subst, arith, Contains}
use Rattle.std.proofs.lemmas.List.{append_cancel_left}
use Rattle.std.specs.List.{AllByRecursion}
use Rattle.ivy_base.specs.declared.operation.Moment.{Moment}
use Rattle.ivy_base.specs.Naming.{IsCollisionFree, head_key_of}
use Rattle.log_model.proofs.Later.{good_of}
use Rattle.log_model.proofs.Lists.{each, each_from}
use Rattle.log_model.specs.Closed.{IsClosed, IsClosedPart}
use Rattle.log_model.specs.Rank.{front}
use Rattle.log_model.specs.Record.{Record}
use Rattle.log_model.specs.Vector.{Vector, seq_of}
use Rattle.log_model.specs.View.{View, IsView}
use Rattle.ring_model.proofs.Lists.{cons_head, cons_tail, nil_cons}
use Rattle.turn_laws.proofs.Starts.{front_dominates}
use Rattle.turn_model.specs.Basis.{Basis, Holding, HoldsAll, IsAboveTide}
use Rattle.turn_model.specs.Turn.{Asked, Candidate, IsAvailable, Turned, turn_on}
use Rattle.turn_model.specs.Work.{applied_between}
use Rattle.nfs_model.specs.declared.replies.Reply.{Reply}
use Rattle.agent_model.specs.Agent.{kept_of}
use Rattle.agent_model.specs.Standing.{Refresh, begun_again_in, going_on}
use Rattle.agent_model.specs.Turning.{Answered, Becomes, IsByDefinition, TurnEnd, Turns, inputs_before, written_by}
use Rattle.agent_model.specs.Turning.Becomes.{reads, saves, loses}
use Rattle.agent_model.specs.Turning.Turns.{behind, below, answers as turn_answers}
use Rattle.session_model.specs.Brought.{brought_in}
use Rattle.session_model.specs.Executions.{grounds_of, HasRefreshed, IsRefusal, anew, answered_by_turn, ended}
use Rattle.session_model.specs.Executions.TakesTurn.{answers, begins_again, gives_up}
use Rattle.session_model.specs.Refreshing.{Done, Note}
use Rattle.session_model.specs.Replies.{Asks, said_no_memory, said_of}
use Rattle.session_model.specs.Sessions.{Session}
use Rattle.session_laws.proofs.OneRefresh.{refresh_is_deterministic}
use Rattle.world_model.specs.Agents.{HssAgent, IsHssTurnIn, HssKept, TakesHssTurn, hss_signing as hss, hss_inputs}
use Rattle.world_model.specs.Keepers.{fails_next}
use Rattle.world_model.specs.World.{Participant, named_bytes, participant}
use Rattle.world_model.specs.GhostState.{known_of}
use Rattle.world_model.specs.Steps.{Configuration, after_turn, turn_told, turning_of, world_after}
use Rattle.world_laws.specs.Invariant.{IsInHand, Invariant}
use Rattle.world_laws.proofs.Bringing.{in_a_view, its_view}
use Rattle.world_laws.proofs.OneAsked.{one_asked, one_xid}
use Rattle.agent_laws.proofs.Floors.{own_number}
use Rattle.world_laws.proofs.TurnsKnown.{are_candidates, taken_known, turned_is, writes}
use Rattle.world_laws.proofs.TurnsTaken.{one_candidates, one_taken}

-- ---- a basis and a set tell what is held

-- two parts of a list are told by two properties that nothing has both of
module _ (P Q : Record → Type 0) (never : (r : Record) → P r → Q r → ⊥) where
  one_part : (a b c d : List Record) → a ++ b ≡ c ++ d → AllByRecursion P a → AllByRecursion Q b → AllByRecursion P c → AllByRecursion Q d → b ≡ d
  one_part [] b [] d same pa qb pc qd = same
  one_part [] [] (y ∷ c) d same pa qb pc qd = absurd (nil_cons y (c ++ d) same)
  one_part [] (x ∷ b) (y ∷ c) d same pa qb pc qd = absurd (never y pc.0 (subst Q (cons_head x b y (c ++ d) same) qb.0))
  one_part (x ∷ a) b [] [] same pa qb pc qd = absurd (nil_cons x (a ++ b) (sym same))
  one_part (x ∷ a) b [] (y ∷ d) same pa qb pc qd = absurd (never x pa.0 (subst Q (sym (cons_head x (a ++ b) y d same)) qd.0))
  one_part (x ∷ a) b (y ∷ c) d same pa qb pc qd = one_part a b c d (cons_tail x (a ++ b) y (c ++ d) same) pa.1 qb pc.1 qd

module _ (basis : Basis) where
  abbrev IsBelow : Record → Type 0
  IsBelow r = r.seq ≤ seq_of basis.front (head_key_of r.owner)

  not_both : (r : Record) → IsBelow r → IsAboveTide basis r → ⊥
  not_both r low high = let later = high.later in omega (arith, low, later)

  all_below : (view : View) → IsView view → (part : List Record) → IsClosed view part → basis.front ≡ front part → AllByRecursion IsBelow part
  all_below view well part closed is = each_from IsBelow part (λ r among.
      let number = own_number view well r.owner (each (λ (q : Record). Contains view.members q.owner) part r closed.members among) r (good_of view part r closed among) in
      let far = front_dominates part r among (head_key_of r.owner) in
      let same : seq_of basis.front (head_key_of r.owner) ≡ seq_of (front part) (head_key_of r.owner) = ap (λ (v : Vector). seq_of v (head_key_of r.owner)) is in
      omega (arith, number, far, same))

pub one_holding : (view : View) → IsView view → (set : List Record) (h g : Holding) → h.basis ≡ g.basis → HoldsAll view set h → HoldsAll view set g → h ≡ g
one_holding view well set h g same holds held =
    let rest : h.held ≡ g.held = one_part (IsBelow h.basis) (IsAboveTide h.basis) (not_both h.basis) holds.below h.held held.below g.held (sym holds.whole ∙ held.whole)
    (all_below h.basis view well holds.below holds.stands.closed holds.stands.front) holds.above
    (all_below h.basis view well held.below held.stands.closed (ap (λ (b : Basis). b.front) same ∙ held.stands.front)) (subst (λ (b : Basis). AllByRecursion (IsAboveTide b) g.held) (sym same) held.above) in
    λ i. record { basis = same i; held = rest i }

-- ---- what becomes of an agent is determined by what it takes and writes

nothing_written : (before : List Record) (last : Record) → [] ≡ before ++ last ∷ [] → ⊥
nothing_written [] last e = nil_cons last [] e
nothing_written (x ∷ before) last e = nil_cons x (before ++ last ∷ []) e

same_before : (a b : List Record) (x y : Record) → a ++ x ∷ [] ≡ b ++ y ∷ [] → a ≡ b
same_before [] [] x y e = refl
same_before [] (z ∷ b) x y e = absurd (nothing_written b y (cons_tail x [] z (b ++ y ∷ []) e))
same_before (w ∷ a) [] x y e = absurd (nothing_written a x (sym (cons_tail w (a ++ x ∷ []) y [] e)))
same_before (w ∷ a) (z ∷ b) x y e = ap (λ (q : Record). q ∷ a) (cons_head w (a ++ x ∷ []) z (b ++ y ∷ []) e) ∙ ap (λ (l : List Record). z ∷ l) (same_before a b x y (cons_tail w (a ++ x ∷ []) z (b ++ y ∷ []) e))

same_last : (a b : List Record) (x y : Record) → a ++ x ∷ [] ≡ b ++ y ∷ [] → x ≡ y
same_last [] [] x y e = cons_head x [] y [] e
same_last [] (z ∷ b) x y e = absurd (nothing_written b y (cons_tail x [] z (b ++ y ∷ []) e))
same_last (w ∷ a) [] x y e = absurd (nothing_written a x (sym (cons_tail w (a ++ x ∷ []) y [] e)))
same_last (w ∷ a) (z ∷ b) x y e = same_last a b x y (cons_tail w (a ++ x ∷ []) z (b ++ y ∷ []) e)

true_or_false : (b : Bool) → b ≡ true → b ≡ false → ⊥
true_or_false b is not = cc (sym is ∙ not)

one_becoming : (view : View) (a : HssAgent) (h : Holding) (fails : Bool) (written wrote : List Record) (after then_so : HssAgent) (saving keep : Option HssKept) → written ≡ wrote
    → Becomes hss view a h fails written after saving → Becomes hss view a h fails wrote then_so keep → (after ≡ then_so) × (saving ≡ keep)
one_becoming view a h fails _ _ _ _ _ _ same reads reads = (refl, refl)
one_becoming view a h fails _ _ _ _ _ _ same reads (saves before last may fine) = absurd (nothing_written before last same)
one_becoming view a h fails _ _ _ _ _ _ same reads (loses before last may lost) = absurd (nothing_written before last same)
one_becoming view a h fails _ _ _ _ _ _ same (saves before last may fine) reads = absurd (nothing_written before last (sym same))
one_becoming view a h fails _ _ _ _ _ _ same (saves before last may fine) (saves others final might well) = (
  λ i. written_by hss a h (same_before before others last final same i) (same_last before others last final same i),
  λ i. Some (kept_of (written_by hss a h (same_before before others last final same i) (same_last before others last final same i))),
)
one_becoming view a h fails _ _ _ _ _ _ same (saves before last may fine) (loses others final might lost) = absurd (true_or_false fails lost fine)
one_becoming view a h fails _ _ _ _ _ _ same (loses before last may lost) reads = absurd (nothing_written before last (sym same))
one_becoming view a h fails _ _ _ _ _ _ same (loses before last may lost) (saves others final might fine) = absurd (true_or_false fails lost fine)
one_becoming view a h fails _ _ _ _ _ _ same (loses before last may lost) (loses others final might gone) =
    (refl, λ i. Some (kept_of (written_by hss a h (same_before before others last final same i) (same_last before others last final same i))))

-- ---- a turn is refused in one way, or answered

refused_one : (given : Refresh) (a : HssAgent) (view : View) (fails : Bool) (asked other : Asked) (now : Moment) (end stop : TurnEnd) (after then_so : HssAgent) (saving keep : Option HssKept) → IsRefusal end → IsRefusal stop
    → Turns hss given (record { agent = a; view = view; now = now; fails = fails }) asked end after saving → Turns hss given (record { agent = a; view = view; now = now; fails = fails }) other stop then_so keep → (end ≡ stop) × (after ≡ then_so) × (saving ≡ keep)
refused_one given a view fails asked other now _ _ _ _ _ _ refusing denying (behind far) (behind too) = (refl, refl, refl)
refused_one given a view fails asked other now _ _ _ _ _ _ refusing denying (behind far) (below near low) = absurd (true_or_false _ far near)
refused_one given a view fails asked other now _ _ _ _ _ _ refusing denying (behind far) (turn_answers h written reply after saving near over basis may becomes by_definition) = absurd denying
refused_one given a view fails asked other now _ _ _ _ _ _ refusing denying (below near low) (behind far) = absurd (true_or_false _ far near)
refused_one given a view fails asked other now _ _ _ _ _ _ refusing denying (below near low) (below close too) = (refl, refl, refl)
refused_one given a view fails asked other now _ _ _ _ _ _ refusing denying (below near low) (turn_answers h written reply after saving close over basis may becomes by_definition) = absurd denying
refused_one given a view fails asked other now _ _ _ _ _ _ refusing denying (turn_answers h written reply after saving near over basis may becomes by_definition) turn = absurd refusing

not_refused_too : (given : Refresh) (a : HssAgent) (view : View) (fails : Bool) (asked other : Asked) (now : Moment) (reply : Reply) (applied : ℕ) (stop : TurnEnd) (after then_so : HssAgent) (saving keep : Option HssKept) → IsRefusal stop
    → Turns hss given (record { agent = a; view = view; now = now; fails = fails }) asked (Answered reply applied) after saving → Turns hss given (record { agent = a; view = view; now = now; fails = fails }) other stop then_so keep → ⊥
not_refused_too given a view fails asked other now _ _ _ _ _ _ _ refusal (turn_answers h written reply after saving near over basis may becomes by_definition) (behind far) = true_or_false _ far near
not_refused_too given a view fails asked other now _ _ _ _ _ _ _ refusal (turn_answers h written reply after saving near over basis may becomes by_definition) (below close low) = true_or_false _ low over
not_refused_too given a view fails asked other now _ _ _ _ _ _ _ refusal (turn_answers h written reply after saving near over basis may becomes by_definition) (turn_answers g wrote also then_so keep close above base might comes definition) = absurd refusal

-- ---- a session's turn

-- what a turn that was answered leaves
abbrev pub configuration_after : Configuration → Participant → View → HssAgent → Option HssKept → ℕ → Turned → Session → Configuration
configuration_after c p view after saving applied turned t =
    record { world = world_after c.world (record (after_turn p after saving) { work = applied }); ghost_state = turn_told c p view after turned; session = t; began = c.began }

-- and one that was refused
abbrev pub configuration_refused : Configuration → Participant → HssAgent → Option HssKept → Session → Configuration
configuration_refused c p after saving t = record c { world = world_after c.world (after_turn p after saving); session = t; began = record c.began { knew = known_of c.ghost_state p.name } }

one_given : (s : Session) (notes others : List Note) (given also : Refresh) → HasRefreshed s notes given → HasRefreshed s others also → (notes ≡ others) × (given ≡ also)
one_given s notes others given also done again = let one = refresh_is_deterministic s.standing (brought_in s.parts) notes others given also Done Done done.1 again.1 in (one.0, one.1)

-- what two turns that were answered have in common
record SameAnswered (after then_so : HssAgent) (saving keep : Option HssKept) (applied more : ℕ) (turned then_it : Turned) : Type 0 where
  agents : after ≡ then_so
  saved : saving ≡ keep
  work : applied ≡ more
  turns : turned ≡ then_it

module _ (c : Configuration) (p : Participant) where
  abbrev view : View
  view = c.session.standing.view

  abbrev IsIts : Turned → Type 0
  IsIts turned = IsHssTurnIn (named_bytes c.world) (turning_of c.world p c.session.standing.view) c.session c.began.knew (known_of c.ghost_state p.name) turned

  module _ (r : ℕ) (keeps : Invariant (c.world, c.ghost_state)) (hand : IsInHand c r) (is_p : participant c.world c.session.by ≡ Some p) (apart : IsCollisionFree (named_bytes c.world)) where
    module _ (notes : List Note) (given : Refresh) (xid : ℕ) (asked : Asked) (done : HasRefreshed c.session notes given) (asks : Asks c.session.standing.view c.session.message xid asked)
        (h g : Holding) (written wrote : List Record) (reply also : Reply)
        (defined : IsByDefinition hss given (turning_of c.world p c.session.standing.view) asked h written reply)
        (definition : IsByDefinition hss given (turning_of c.world p c.session.standing.view) asked g wrote also)
        (turned then_it : Turned) (its : IsIts turned) (too : IsIts then_it) where
      same_taken : its.taken ≡ too.taken
      same_taken = one_taken view (known_of c.ghost_state p.name) too.is_turn.candidates its.taken too.taken
          (subst (λ (l : List Candidate). IsClosedPart view (IsAvailable (known_of c.ghost_state p.name) l) its.taken)
          (one_candidates (grounds_of (named_bytes c.world) c.session c.began.knew) view given.started apart its.is_turn.candidates too.is_turn.candidates
          (are_candidates c r p keeps hand is_p notes given xid asked reply done asks h written defined turned apart its)
          (are_candidates c r p keeps hand is_p notes given xid asked also done asks g wrote definition then_it apart too)) its.is_turn.largest) too.is_turn.largest

      same_turned : turned ≡ then_it
      same_turned = turned_is c r p keeps hand is_p notes given xid asked reply done asks h written defined turned apart its
          ∙ ap (λ (s : List Record). turn_on (hss_inputs p.agent view (fails_next p.keeper)) s asked c.world.now) same_taken
          ∙ sym (turned_is c r p keeps hand is_p notes given xid asked also done asks g wrote definition then_it apart too)

      same_written : written ≡ wrote
      same_written = append_cancel_left its.taken written wrote
          (writes c r p keeps hand is_p notes given xid asked reply done asks h written defined turned apart its
          ∙ ap (λ (s : List Record). (turn_on (inputs_before hss p.agent view) s asked c.world.now).set) same_taken
          ∙ sym (writes c r p keeps hand is_p notes given xid asked also done asks g wrote definition then_it apart too)
          ∙ ap (λ (s : List Record). s ++ wrote) (sym same_taken))

      same_held : h.basis ≡ g.basis → h ≡ g
      same_held basis = one_holding view (in_a_view c keeps apart (hand.sound apart) p is_p (its_view c r hand p is_p)) too.taken h g basis
          (subst (λ (s : List Record). HoldsAll view s h) same_taken (taken_known c r p keeps hand is_p notes given xid asked reply done asks h written defined turned apart its).holds)
          (taken_known c r p keeps hand is_p notes given xid asked also done asks g wrote definition then_it apart too).holds

    one_answer : (notes : List Note) (given : Refresh) (xid : ℕ) (asked : Asked) → HasRefreshed c.session notes given → Asks c.session.standing.view c.session.message xid asked
        → (reply also : Reply) (applied more : ℕ) (after then_so : HssAgent) (saving keep : Option HssKept) (turned then_it : Turned) → IsIts turned → IsIts then_it
        → Turns hss given (turning_of c.world p view) asked (Answered reply applied) after saving
        → Turns hss given (turning_of c.world p view) asked (Answered also more) then_so keep → SameAnswered after then_so saving keep applied more turned then_it
    one_answer notes given xid asked done asks _ _ _ _ _ _ _ _ turned then_it its too (turn_answers h written reply after saving near over basis_is may becomes defined)
        (turn_answers g wrote also then_so keep close above base might comes definition) =
        let basis : h.basis ≡ g.basis = basis_is ∙ sym base in
        let held : h ≡ g = same_held notes given xid asked done asks h g written wrote reply also defined definition turned then_it its too basis in
        let news : written ≡ wrote = same_written notes given xid asked done asks h g written wrote reply also defined definition turned then_it its too in
        let both = one_becoming view p.agent g (fails_next p.keeper) written wrote after then_so saving keep news (subst (λ (x : Holding). Becomes hss view p.agent x (fails_next p.keeper) written after saving) held becomes) comes in
        record {
          agents = both.0;
          saved = both.1;
          work = λ i. applied_between (going_on p.agent given.basis).held (held i).held + length (news i);
          turns = same_turned notes given xid asked done asks h g written wrote reply also defined definition turned then_it its too;
        }

    pub turns_one : (reply also : Reply) (applied more : ℕ) (after then_so : HssAgent) (saving keep : Option HssKept) (t u : Session) (turned then_it : Turned)
        → TakesHssTurn (turning_of c.world p view) c.session (Answered reply applied) after saving t → TakesHssTurn (turning_of c.world p view) c.session (Answered also more) then_so keep u
        → turned.reply ≡ reply → then_it.reply ≡ also → IsIts turned → IsIts then_it
        → configuration_after c p view after saving applied turned t ≡ configuration_after c p view then_so keep more then_it u
    turns_one _ _ _ _ _ _ _ _ _ _ turned then_it (answers notes given xid asked reply applied after saving done asks turn) (answers others brought number ask also more then_so keep again asking turning) replies answering its too =
        let one = one_given c.session notes others given brought done again in
        let same_ask : asked ≡ ask = one_asked view c.session.message xid number asked ask asks asking in
        let same_number : xid ≡ number = one_xid view c.session.message xid number asked ask asks asking in
        let second : Turns hss given (turning_of c.world p view) asked (Answered also more) then_so keep =
        subst (λ (g : Refresh). Turns hss g (turning_of c.world p view) asked (Answered also more) then_so keep) (sym one.1)
        (subst (λ (a : Asked). Turns hss brought (turning_of c.world p view) a (Answered also more) then_so keep) (sym same_ask) turning) in
        let same = one_answer notes given xid asked done asks reply also applied more after then_so saving keep turned then_it its too turn second in
        let say : reply ≡ also = sym replies ∙ ap (λ (x : Turned). x.reply) same.turns ∙ answering in
        λ i. configuration_after c p view (same.agents i) (same.saved i) (same.work i) (same.turns i) (answered_by_turn c.session (said_of (same_number i) (say i)) (one.0 i) (same.agents i).pending)
    turns_one _ _ _ _ _ _ _ _ _ _ turned then_it (answers notes given xid asked reply applied after saving done asks turn) (begins_again others brought number ask end then_so keep again asking turning refused few) replies answering its too = absurd refused
    turns_one _ _ _ _ _ _ _ _ _ _ turned then_it (answers notes given xid asked reply applied after saving done asks turn) (gives_up others brought number ask end then_so keep again asking turning refused many) replies answering its too = absurd refused
    turns_one _ _ _ _ _ _ _ _ _ _ turned then_it (begins_again notes given xid asked end after saving done asks turn refused few) takes replies answering its too = absurd refused
    turns_one _ _ _ _ _ _ _ _ _ _ turned then_it (gives_up notes given xid asked end after saving done asks turn refused many) takes replies answering its too = absurd refused

  -- ---- refusals

  -- a turn of the session, whatever it ends with
  record IsTurn (end : TurnEnd) (after : HssAgent) (saving : Option HssKept) : Type 0 where
    notes : List Note
    given : Refresh
    xid : ℕ
    asked : Asked
    done : HasRefreshed c.session notes given
    asks : Asks c.session.standing.view c.session.message xid asked
    turn : Turns hss given (turning_of c.world p c.session.standing.view) asked end after saving

  turn_of : {end : TurnEnd} {after : HssAgent} {saving : Option HssKept} {t : Session} → TakesHssTurn (turning_of c.world p view) c.session end after saving t → IsTurn end after saving
  turn_of (answers notes given xid asked reply applied after saving done asks turn) = record { notes = notes; given = given; xid = xid; asked = asked; done = done; asks = asks; turn = turn }
  turn_of (begins_again notes given xid asked end after saving done asks turn refused few) = record { notes = notes; given = given; xid = xid; asked = asked; done = done; asks = asks; turn = turn }
  turn_of (gives_up notes given xid asked end after saving done asks turn refused many) = record { notes = notes; given = given; xid = xid; asked = asked; done = done; asks = asks; turn = turn }

  pub not_both_ways : (reply : Reply) (applied : ℕ) (stop : TurnEnd) (after then_so : HssAgent) (saving keep : Option HssKept) (t u : Session) → IsRefusal stop
      → TakesHssTurn (turning_of c.world p view) c.session (Answered reply applied) after saving t → TakesHssTurn (turning_of c.world p view) c.session stop then_so keep u → ⊥
  not_both_ways reply applied stop after then_so saving keep t u refusal takes taking_too =
      let a = turn_of takes in
      let b = turn_of taking_too in
      not_refused_too a.given p.agent view (fails_next p.keeper) a.asked b.asked c.world.now reply applied stop after then_so saving keep refusal a.turn
      (subst (λ (g : Refresh). Turns hss g (turning_of c.world p view) b.asked stop then_so keep) (sym (one_given c.session a.notes b.notes a.given b.given a.done b.done).1) b.turn)

  same_refusal : {end stop : TurnEnd} {after then_so : HssAgent} {saving keep : Option HssKept} → IsRefusal end → IsRefusal stop → IsTurn end after saving → IsTurn stop then_so keep → (end ≡ stop) × (after ≡ then_so) × (saving ≡ keep)
  same_refusal {end} {stop} {after} {then_so} {saving} {keep} refusing denying a b =
      refused_one a.given p.agent view (fails_next p.keeper) a.asked b.asked c.world.now end stop after then_so saving keep refusing denying a.turn
      (subst (λ (g : Refresh). Turns hss g (turning_of c.world p view) b.asked stop then_so keep) (sym (one_given c.session a.notes b.notes a.given b.given a.done b.done).1) b.turn)

  refusals_one : (end stop : TurnEnd) (after then_so : HssAgent) (saving keep : Option HssKept) (t u : Session) → IsRefusal end → IsRefusal stop → after ≡ then_so
      → TakesHssTurn (turning_of c.world p view) c.session end after saving t → TakesHssTurn (turning_of c.world p view) c.session stop then_so keep u → t ≡ u
  refusals_one _ _ _ _ _ _ _ _ refusing denying same (answers notes given xid asked reply applied after saving done asks turn) takes = absurd refusing
  refusals_one _ _ _ _ _ _ _ _ refusing denying same (begins_again notes given xid asked end after saving done asks turn refused few) (answers others brought number ask also more then_so keep again asking turning) = absurd denying
  refusals_one _ _ _ _ _ _ _ _ refusing denying same (begins_again notes given xid asked end after saving done asks turn refused few) (begins_again others brought number ask stop then_so keep again asking turning refusal too) =
      ap (λ (a : HssAgent). anew c.session (begun_again_in hss a view)) same
  refusals_one _ _ _ _ _ _ _ _ refusing denying same (begins_again notes given xid asked end after saving done asks turn refused few) (gives_up others brought number ask stop then_so keep again asking turning refusal many) = absurd (omega (arith, few, many))
  refusals_one _ _ _ _ _ _ _ _ refusing denying same (gives_up notes given xid asked end after saving done asks turn refused many) (answers others brought number ask also more then_so keep again asking turning) = absurd denying
  refusals_one _ _ _ _ _ _ _ _ refusing denying same (gives_up notes given xid asked end after saving done asks turn refused many) (begins_again others brought number ask stop then_so keep again asking turning refusal few) = absurd (omega (arith, few, many))
  refusals_one _ _ _ _ _ _ _ _ refusing denying same (gives_up notes given xid asked end after saving done asks turn refused many) (gives_up others brought number ask stop then_so keep again asking turning refusal too) =
      λ i. ended c.session (said_no_memory (one_xid view c.session.message xid number asked ask asks asking i)) ((one_given c.session notes others given brought done again).0 i) None

  pub one_refusal : (end stop : TurnEnd) (after then_so : HssAgent) (saving keep : Option HssKept) (t u : Session) → IsRefusal end → IsRefusal stop
      → TakesHssTurn (turning_of c.world p view) c.session end after saving t → TakesHssTurn (turning_of c.world p view) c.session stop then_so keep u
      → configuration_refused c p after saving t ≡ configuration_refused c p then_so keep u
  one_refusal end stop after then_so saving keep t u refusing denying takes taking_too =
      let same = same_refusal refusing denying (turn_of takes) (turn_of taking_too) in
      let sessions : t ≡ u = refusals_one end stop after then_so saving keep t u refusing denying same.1 takes taking_too in
      λ i. configuration_refused c p (same.1 i) (same.2 i) (sessions i)
