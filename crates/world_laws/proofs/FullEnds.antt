-- Where its agent has room, a session that refreshes goes to its end with memory there, or names clash on the way.
use Rattle.std.proofs.Common.{◌≡◌, inl, inr, ℕ, Bool, true, false, cond, List, [], ◌∷◌, map, Option, Some, refl, sym, ◌∙◌, subst, ◌⊎◌, suc}
use Rattle.std.specs.Prelude.{if◌then◌else◌}
use Rattle.std.specs.List.{AllByRecursion}
use Rattle.std.specs.Str.{bytes_eq}
use Rattle.ivy_base.specs.declared.operation.Moment.{Moment}
use Rattle.ivy_base.specs.Naming.{HasClash}
use Rattle.dhash_model.specs.Signed.{hss_judged}
use Rattle.log_model.proofs.Lists.{each, each_from}
use Rattle.log_model.specs.View.{View}
use Rattle.dht_ids.specs.declared.ask.Answer.{Answer}
use Rattle.dht_ids.specs.declared.ask.Ask.{Ask}
use Rattle.dht_ids.specs.declared.peer.Peer.{Peer}
use Rattle.dht_ids.specs.declared.post.Ack.{Ack}
use Rattle.dht_ids.specs.declared.post.Post.{Post}
use Rattle.turn_model.specs.Turn.{Asked}
use Rattle.agent_model.specs.Standing.{Refresh}
use Rattle.agent_model.specs.Turning.{TurnEnd, Turns}
use Rattle.agent_model.specs.Turning.Turns.{behind, below, answers as turn_answers}
use Rattle.turn_laws.specs.Laws.{HasRoom}
use Rattle.session_model.specs.Executions.{Fails, IsRefusal, LacksMemory, Settles, TakesTurn}
use Rattle.session_model.specs.Executions.Fails.{fails, goes_on as fails_not}
use Rattle.session_model.specs.Executions.LacksMemory.{lacks}
use Rattle.session_model.specs.Executions.Settles.{settles as settles_all}
use Rattle.session_model.specs.Executions.TakesTurn.{answers, begins_again, gives_up}
use Rattle.session_model.specs.Sessions.{Cache, Hears, Refreshing, Said, Session, Takes, TakesAll, acknowledged, after_put}
use Rattle.session_model.specs.Sessions.Hears.{gets_on, got, puts_on, puts}
use Rattle.session_model.specs.Sessions.Takes.{posted, cached}
use Rattle.session_model.specs.Sessions.TakesAll.{none as takes_none, more as takes_more}
use Rattle.world_model.specs.Agents.{HssAgent, HssKept, hss_signing}
use Rattle.world_model.specs.Steps.{Acts, Configuration, Steps, StepsOn, after_turn, RunsOut}
use Rattle.world_model.specs.Steps.Acts.{asks, asks_in_vain, is_refused, settles, turns}
use Rattle.world_model.specs.Steps.Steps.{acts, lacks_memory}
use Rattle.world_model.specs.Steps.StepsOn.{is_over as steps_over, more as steps_more, none as steps_none}
use Rattle.world_model.specs.World.{Participant, named_bytes, participant}
use Rattle.world_model.specs.Steps.RunsOut.{more as runs_more}
use Rattle.world_laws.specs.FullTurns.{AreBytes, GoesToItsEnd, SessionsGoToTheirEnds, SessionsEndOrClash}
use Rattle.world_laws.specs.FullTurns.GoesToItsEnd.{ends as it_ends, clashes as it_clashes, goes_on as it_goes_on}
use Rattle.world_laws.specs.Invariant.{IsInHand, Invariant}
use Rattle.world_laws.specs.Laws.{GoesFully, HasMemoryAt}
use Rattle.world_laws.specs.Laws.GoesFully.{ends, clashes, goes_on, has_turn}
use Rattle.world_laws.proofs.Apart.{clash_is_decided}
use Rattle.world_laws.proofs.Bringing.{found_named}
use Rattle.world_laws.proofs.Frames.{one_named}
use Rattle.world_laws.proofs.FullSessions.{sessions_go_fully}
use Rattle.world_laws.proofs.LastingLines.{fate_same}
use Rattle.world_laws.proofs.SessionLinesSteps.{step_leads, steps_on_lead}
use Rattle.world_laws.proofs.TurnsExisting.{turns_exist}

-- ---- a session that refreshes did so before

takes_stage : {r : ℕ} {s t : Session} {cache after : Cache} → TakesAll hss_judged r s cache t after → t.stage ≡ s.stage
takes_stage (takes_none none) = refl
takes_stage (takes_more first rest) = takes_stage rest ∙ one first
  where
    one : {r : ℕ} {s t : Session} {cache after : Cache} → Takes hss_judged r s cache t after → t.stage ≡ s.stage
    one (posted key bytes wants none is) = refl
    one (cached key bytes wants none missing is) = refl

not_put : (said : Option Said) (p : Post) (posts : List Post) (acks : List Ack) (b : Bool) → after_put said p posts acks b ≡ Refreshing → ⊥
not_put said p posts acks true e = cc e
not_put said p posts acks false e = cc e

hears_back : {r : ℕ} {s heard : Session} {cache after : Cache} {node : Peer} {question : Ask} {answer : Answer} → Hears hss_judged r s cache node question answer heard after → heard.stage ≡ Refreshing → s.stage ≡ Refreshing
hears_back (gets_on want wants next part) at = wants.0
hears_back (got want brought wants next whole) at = wants.0
hears_back (puts_on said p posts acks is next part) at = at
hears_back (puts said p posts acks came is next whole) at = absurd (not_put said p posts acks (acknowledged came) at)

fails_back : {heard t : Session} → Fails heard t → t.stage ≡ Refreshing → heard.stage ≡ Refreshing
fails_back (fails notes given miss xid asked is refreshed asks_it) at = is
fails_back (fails_not none) at = at

lacks_back : {s t : Session} → LacksMemory s t → t.stage ≡ Refreshing → ⊥
lacks_back (lacks notes shown given end xid asked is refreshed asks_it rest front) at = cc at

settles_back : {a after : HssAgent} {s t : Session} → Settles a s after t → t.stage ≡ Refreshing → ⊥
settles_back (settles_all said acks is) at = cc at

turn_back : {now : Moment} {a after : HssAgent} {view : View} {failing : Bool} {s t : Session} {end : TurnEnd} {saving : Option HssKept} → TakesTurn hss_signing (record { agent = a; view = view; now = now; fails = failing }) s end after saving t → s.stage ≡ Refreshing
turn_back (answers notes given xid asked reply applied after saving done asks_it turned) = done.0
turn_back (begins_again notes given xid asked end after saving done asks_it turned refused few) = done.0
turn_back (gives_up notes given xid asked end after saving done asks_it turned refused many) = done.0

-- ---- room

-- a turn that is refused publishes nothing more
refused_room : {given : Refresh} {a after : HssAgent} {view : View} {failing : Bool} {asked : Asked} {now : Moment} {end : TurnEnd} {saving : Option HssKept} → Turns hss_signing given (record { agent = a; view = view; now = now; fails = failing }) asked end after saving → IsRefusal end → HasRoom a → HasRoom after
refused_room (behind far) refused room = room
refused_room (below near low) refused room = room
refused_room (turn_answers h written reply after saving near over basis may becomes defined) refused room = absurd refused

-- so one after which the session refreshes
turn_room : {now : Moment} {a after : HssAgent} {view : View} {failing : Bool} {s t : Session} {end : TurnEnd} {saving : Option HssKept} → TakesTurn hss_signing (record { agent = a; view = view; now = now; fails = failing }) s end after saving t → t.stage ≡ Refreshing → HasRoom a → HasRoom after
turn_room (answers notes given xid asked reply applied after saving done asks_it turned) at room = cc at
turn_room (begins_again notes given xid asked end after saving done asks_it turned refused few) at room = refused_room turned refused room
turn_room (gives_up notes given xid asked end after saving done asks_it turned refused many) at room = cc at

module _ (r : ℕ) (name : List ℕ) where
  -- who has that name has room
  abbrev RoomOf : Participant → Type 0
  RoomOf p = p.name ≡ name → HasRoom p.agent

  abbrev HaveRoom : List Participant → Type 0
  HaveRoom ps = AllByRecursion RoomOf ps

  placed_room : (q : Participant) (ps : List Participant) → RoomOf q → HaveRoom ps → HaveRoom (map (λ o. if bytes_eq o.name q.name then q else o) ps)
  placed_room q [] room all = tt
  placed_room q (p ∷ ps) room all = (by (bytes_eq p.name q.name), placed_room q ps room all.1)
    where
      by : (b : Bool) → RoomOf (cond b q p)
      by true = room
      by false = all.0

  -- where the session refreshes after a step it did before, and there is as much room
  abbrev Stays : Configuration → Configuration → Type 0
  Stays c next = (c.session.stage ≡ Refreshing) × (HaveRoom c.world.participants → HaveRoom next.world.participants)

  acts_room : {p : Participant} {c next : Configuration} → Acts hss_judged r p c next → next.session.stage ≡ Refreshing → (c.session.stage ≡ Refreshing) × (RoomOf p → HaveRoom c.world.participants → HaveRoom next.world.participants)
  acts_room {p = p} {c = c} (asks node question answer next heard t cache fate hears goes) at =
      (hears_back hears (fails_back goes at), λ room all. placed_room (record p { cache = cache }) next.participants room (subst HaveRoom (sym (fate_same fate)) all))
  acts_room (asks_in_vain node question answer next heard t cache fate hears lacking) at = absurd (lacks_back lacking at)
  acts_room {p = p} {c = c} (turns view reply applied after saving t turned in_view takes replies is_turn) at =
      (turn_back takes, λ room all. placed_room (record (after_turn p after saving) { work = applied }) c.world.participants (λ e. turn_room takes at (room e)) all)
  acts_room {p = p} {c = c} (is_refused view end after saving t in_view refusal takes) at = (turn_back takes, λ room all. placed_room (after_turn p after saving) c.world.participants (λ e. turn_room takes at (room e)) all)
  acts_room (settles after t is) at = absurd (settles_back is at)

  step_room : {c next : Configuration} → Steps hss_judged r name c next → next.session.stage ≡ Refreshing → Stays c next
  step_room {c = c} (acts p taken cache next is takes act) at =
      let w = acts_room act at in (
        sym (takes_stage takes) ∙ w.0,
        λ all. (let room : RoomOf p = each RoomOf c.world.participants p all (found_named c.world.participants name p is).0 in w.1 room (placed_room (record p { cache = cache }) c.world.participants room all)),
      )
  step_room (lacks_memory p taken t cache is takes lacking) at = absurd (lacks_back lacking at)

  steps_room : {count : ℕ} {c next : Configuration} → StepsOn hss_judged r name count c next → next.session.stage ≡ Refreshing → Stays c next
  steps_room steps_none at = (at, λ all. all)
  steps_room (steps_over said over) at = (at, λ all. all)
  steps_room (steps_more step rest) at =
      let later = steps_room rest at in
      let first = step_room step later.0 in
      (first.0, λ all. later.1 (first.1 all))

  -- ---- to the end

  to_its_end : {c : Configuration} → GoesFully r name c → Invariant (c.world, c.ghost_state) → IsInHand c r → c.world.replicas ≡ Some r → c.session.by ≡ name → AreBytes c.session.message
      → (c.session.stage ≡ Refreshing → HaveRoom c.world.participants) → GoesToItsEnd r name c
  to_its_end (ends runs memory) keeps hand ringed named bytes room = it_ends runs memory
  to_its_end (clashes clash) keeps hand ringed named bytes room = it_clashes clash
  to_its_end (goes_on count steps memory rest) keeps hand ringed named bytes room =
      let led = steps_on_lead r name steps named keeps hand ringed in
      it_goes_on count steps memory (to_its_end rest led.leaves.0 led.leaves.1 (led.same.replicas ∙ ringed) (led.same.call.0 ∙ named) (subst AreBytes (sym led.same.call.1) bytes)
      (λ at. let w = steps_room steps at in w.1 (room w.0)))
  to_its_end {c = c} (has_turn p taken cache notes given xid asked is_p all done asks_it leads steps goes) keeps hand ringed named bytes room = elim (clash_is_decided (named_bytes c.world)) [
    | inr clash ↦ it_clashes clash
    | inl apart ↦
        let refreshing = sym (takes_stage all) ∙ done.0 in
        let found = found_named c.world.participants name p is_p in
        let turn = turns_exist c r p taken cache notes given xid asked keeps hand apart (subst (λ (n : List ℕ). participant c.world n ≡ Some p) (sym named) is_p) all done asks_it bytes
        (each RoomOf c.world.participants p (room refreshing) found.0 found.1) in
        let step = steps turn.0 turn.1 turn.2 turn.3 in
        let led = step_leads r name c (leads turn.0 turn.1 turn.2 turn.3) named keeps hand ringed step.0 in
        it_goes_on 1 (steps_more step.0 steps_none) step.1 (to_its_end (goes turn.0 turn.1 turn.2 turn.3) led.leaves.0 led.leaves.1 (led.same.replicas ∙ ringed) (led.same.call.0 ∙ named) (subst AreBytes (sym led.same.call.1) bytes)
        (λ at. let w = step_room step.0 at in w.1 (room w.0)))
  ]

pub sessions_go_to_their_ends : SessionsGoToTheirEnds
sessions_go_to_their_ends c r p keeps hand ringed refreshing is_p bytes room =
    let found = found_named c.world.participants c.session.by p is_p in
    to_its_end r c.session.by (sessions_go_fully c r keeps hand ringed refreshing) keeps hand ringed refl bytes (λ at. each_from (λ q. q.name ≡ c.session.by → HasRoom q.agent) c.world.participants (λ q among named.
    subst (λ (o : Participant). HasRoom o.agent) (one_named (λ (o : Participant). o.name) c.world.participants p q keeps.apart found.0 among (found.1 ∙ sym named)) room))

-- ---- in one

module _ (r : ℕ) (name : List ℕ) where
  pub runs_behind : {count : ℕ} {c mid next : Configuration} → StepsOn hss_judged r name count c mid → RunsOut hss_judged r name mid next → RunsOut hss_judged r name c next
  runs_behind steps_none runs = runs
  runs_behind (steps_over said over) runs = runs
  runs_behind (steps_more step rest) runs = runs_more step (runs_behind rest runs)

  steps_behind : {count more : ℕ} {c mid next : Configuration} → StepsOn hss_judged r name count c mid → StepsOn hss_judged r name more mid next → (all : ℕ) × StepsOn hss_judged r name all c next
  steps_behind {more = more} steps_none steps = (more, steps)
  steps_behind {more = more} (steps_over said over) steps = (more, steps)
  steps_behind (steps_more step rest) steps = (let w = steps_behind rest steps in (suc w.0, steps_more step w.1))

  -- its end, or where names clash
  abbrev EndOrClash : Configuration → Type 0
  EndOrClash c = ((next : Configuration) × RunsOut hss_judged r name c next × HasMemoryAt next.session) ⊎ ((count : ℕ) × (next : Configuration) × StepsOn hss_judged r name count c next × HasClash (named_bytes next.world))

  end_or_clash : {c : Configuration} → GoesToItsEnd r name c → EndOrClash c
  end_or_clash (it_ends {c = c} {next = next} runs memory) = inl (next, runs, memory)
  end_or_clash (it_clashes {c = c} clash) = inr (0, c, steps_none, clash)
  end_or_clash (it_goes_on {c = c} {next = next} count steps memory rest) = by (end_or_clash rest)
    where
      by : EndOrClash next → EndOrClash c
      by (inl w) = inl (w.0, runs_behind steps w.1, w.2)
      by (inr w) = (let all = steps_behind steps w.2 in inr (all.0, w.1, all.1, w.3))

pub sessions_end_or_clash : SessionsEndOrClash
sessions_end_or_clash c r p keeps hand ringed refreshing is_p bytes room = end_or_clash r c.session.by (sessions_go_to_their_ends c r p keeps hand ringed refreshing is_p bytes room)
