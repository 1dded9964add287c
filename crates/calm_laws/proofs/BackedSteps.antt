-- Steps of sessions leave it so.
use Rattle.std.proofs.Common.{◌≡◌, ⊎_elim, ℕ, Bool, true, false, List, [], ◌∷◌, ◌++◌, map, Option, Some, refl, sym, ap, ◌∙◌, subst, Contains}
use Rattle.std.specs.Prelude.{drop, length}
use Rattle.std.specs.List.{AllByRecursion}
use Rattle.std.specs.Str.{bytes_eq}
use Rattle.std.proofs.lemmas.List.Elements.{Contains-append_left, Contains-append_cases}
use Rattle.ivy_base.specs.declared.operation.Moment.{Moment}
use Rattle.ivy_base.specs.Naming.{IsCollisionFree}
use Rattle.dhash_model.specs.Signed.{hss_judged}
use Rattle.log_model.specs.Record.{Record}
use Rattle.log_model.specs.Vector.{Entry}
use Rattle.log_model.proofs.Lists.{each_append}
use Rattle.ring_model.proofs.Lists.{all_weaker}
use Rattle.world_model.specs.Logs.{Played}
use Rattle.world_laws.proofs.Placed.{same_name}
use Rattle.log_model.specs.View.{View}
use Rattle.dht_ids.specs.declared.ask.Answer.{Answer}
use Rattle.dht_ids.specs.declared.ask.Ask.{Ask}
use Rattle.dht_ids.specs.declared.peer.Peer.{Peer}
use Rattle.dht_ids.specs.declared.post.Post.{Post}
use Rattle.agent_model.specs.Agent.{is_head}
use Rattle.agent_model.specs.Turning.{TurnEnd}
use Rattle.session_model.specs.Brought.{all_heads, brought_in}
use Rattle.session_model.specs.Executions.{Fails, LacksMemory, Settles}
use Rattle.session_model.specs.Executions.Fails.{fails, goes_on}
use Rattle.session_model.specs.Executions.LacksMemory.{lacks}
use Rattle.session_model.specs.Executions.Settles.{settles as settles_all}
use Rattle.session_model.specs.Executions.TakesTurn.{answers, begins_again, gives_up}
use Rattle.session_model.specs.Sessions.{Cache, Hears, Refreshing, Session, Takes, TakesAll, TakesSome}
use Rattle.session_model.specs.Sessions.Hears.{gets_on, got, puts_on, puts}
use Rattle.session_model.specs.Sessions.Takes.{posted, cached}
use Rattle.session_model.specs.Sessions.TakesAll.{none as takes_none, more as takes_more}
use Rattle.session_model.specs.Sessions.TakesSome.{none as some_none, more as some_more}
use Rattle.world_model.specs.Agents.{HssAgent, HssKept, TakesHssTurn}
use Rattle.world_model.specs.World.{Participant, World, named_bytes, participant, with_participant}
use Rattle.world_model.specs.GhostState.{HadTurn, Knowing, GhostState, knowing_now, knowing_of, known_of}
use Rattle.world_model.specs.Fates.{FateOf}
use Rattle.world_model.specs.Fates.FateOf.{answers as node_answers, lost, stopped}
use Rattle.world_model.specs.Steps.{Acts, RunsOut, Configuration, Steps, StepsOn, acked_by, after_turn, ask_told, met_by, turn_told, with_cache, world_after}
use Rattle.world_model.specs.Steps.Acts.{asks, asks_in_vain, is_refused, settles, turns}
use Rattle.world_model.specs.Steps.RunsOut.{is_over as runs_over, more as runs_more}
use Rattle.world_model.specs.Steps.Steps.{acts, lacks_memory}
use Rattle.world_model.specs.Steps.StepsOn.{is_over as steps_over, more as steps_more, none as steps_none}
use Rattle.world_laws.specs.Invariant.{Invariant}
use Rattle.world_laws.proofs.Bringing.{found_named}
use Rattle.calm_laws.proofs.CalmStates.{found_placed}
use Rattle.world_laws.proofs.Frames.{same_keys}
use Rattle.world_laws.proofs.OneSteps.{GoesWell, apart_then, runs_names, steps_names}
use Rattle.world_laws.proofs.Receiving.{holds_then}
use Rattle.world_laws.proofs.SessionLinesSteps.{step_leads}
use Rattle.world_laws.proofs.SignedAmong.{met_stays}
use Rattle.world_laws.proofs.TakingOn.{taking_keeps}
use Rattle.world_laws.proofs.TurnsWorld.{told_now}
use Rattle.world_laws.proofs.HeadlineOfPublishing.{IsPast, fails_past, hears_past, lacks_past, settles_past, turn_refreshes}
use Rattle.calm_laws.proofs.HeldHeads.{AllHoldPut, fate_heard, fate_holds, more_heard, more_hold}
use Rattle.calm_laws.proofs.Stages.{AreHeardPut, IsEntryPut, IsHeadPutOr, IsMet, IsStaged, SessionSo, StageSo, acked_met, begins_staged, brought_put, heard_so, lacking_heard, lacking_so, more_entry, then_heard}
use Rattle.calm_laws.proofs.Backed.{IsBackedIn, settled_in}
use Rattle.calm_laws.proofs.BackedWorlds.{IsBackedWorld, IsStagedIn, later_backed, placed_backed}
use Rattle.calm_laws.proofs.Turns.{refused_in, same_in, turned_in}

-- a world with its ghost state, and a session in it
abbrev pub ConfigurationSo : Configuration → Type 0
ConfigurationSo c = IsBackedWorld c.world c.ghost_state × SessionSo c.world.met c.ghost_state.acked c.session

-- ---- what an ask leaves

pub fate_same : {w next : World} {to : Peer} {question : Ask} {answer : Answer} → FateOf hss_judged w to question answer next → (next.participants ≡ w.participants) × (next.met ≡ w.met) × (next.sessions ≡ w.sessions)
fate_same (lost l) = (refl, refl, refl)
fate_same (stopped n l is dead) = (refl, refl, refl)
fate_same (node_answers n l is live) = (refl, refl, refl)

told_known : (st : GhostState) (name : List ℕ) (s t : Session) (n : List ℕ) → known_of (ask_told st name s t) n ≡ known_of st n
told_known st name s t n = holds_then st name _ (λ (k : Knowing). k.known ≡ known_of st n) (λ k e. e) n refl

asked_backed : (w next : World) (st : GhostState) (name : List ℕ) (s t : Session) (to : Peer) (question : Ask) (answer : Answer) → FateOf hss_judged w to question answer next → StageSo w.met st.acked s.stage → AllHoldPut w.met st.acked next.nodes → AllByRecursion (IsEntryPut w.met st.acked) (all_heads (brought_in (drop (length s.parts) t.parts))) → IsBackedWorld w st
    → IsBackedWorld next (ask_told st name s t)
asked_backed w next st name s t to question answer fate stage nodes new h =
    let same = fate_same fate in
    later_backed w next st (ask_told st name s t)
    (record { participants = same.0; known = told_known st name s t; met = meets; acked = grows })
    (more_hold w.met next.met st.acked (st.acked ++ acked_by s.stage t.stage) meets grows next.nodes nodes)
    (subst (AllByRecursion (IsStagedIn w st)) (sym same.2) h.sessions)
    (λ p c. subst (λ m. Contains m p.bytes) (sym same.1) (⊎_elim (h.put_met p) (acked_met w.met st.acked s.stage t.stage stage p) (Contains-append_cases st.acked (acked_by s.stage t.stage) p c)))
    (λ n. holds_then st name (all_heads (brought_in (drop (length s.parts) t.parts))) (λ (k : Knowing). AllByRecursion (IsEntryPut next.met (st.acked ++ acked_by s.stage t.stage)) k.received)
    (λ k e. each_append (IsEntryPut next.met (st.acked ++ acked_by s.stage t.stage)) k.received (all_heads (brought_in (drop (length s.parts) t.parts))) e (entries_on _ new)) n (entries_on (knowing_of st n).received (h.received n)))
    h
  where
    grows : (p : Post) → Contains st.acked p → Contains (st.acked ++ acked_by s.stage t.stage) p
    grows p c = Contains-append_left st.acked (acked_by s.stage t.stage) p c

    meets : (b : List ℕ) → Contains w.met b → Contains next.met b
    meets b c = subst (λ m. Contains m b) (sym (fate_same fate).1) c

    entries_on : (es : List Entry) → AllByRecursion (IsEntryPut w.met st.acked) es → AllByRecursion (IsEntryPut next.met (st.acked ++ acked_by s.stage t.stage)) es
    entries_on es e = all_weaker (IsEntryPut w.met st.acked) (IsEntryPut next.met (st.acked ++ acked_by s.stage t.stage)) es (λ x g. more_entry w.met next.met st.acked (st.acked ++ acked_by s.stage t.stage) meets grows x g) e

-- with another cache
pub cached_backed : (w : World) (st : GhostState) (name : List ℕ) (p : Participant) (cache : Cache) → participant w name ≡ Some p → IsBackedWorld w st → IsBackedWorld (with_participant w (record p { cache = cache })) st
cached_backed w st name p cache is_p h =
    placed_backed w st st p (record p { cache = cache }) w.met refl (λ b m. m) (known_of st p.name) refl (λ n other. refl) refl (λ n. refl) (with_participant w (record p { cache = cache })) refl refl refl h.sessions
    (same_in w.met st.acked p (record p { cache = cache }) (known_of st p.name) refl refl refl refl (its w st name p is_p h)) h
  where
    its : (w : World) (st : GhostState) (name : List ℕ) (p : Participant) → participant w name ≡ Some p → IsBackedWorld w st → IsBackedIn w.met st.acked p (known_of st p.name)
    its w st name p is_p h = subst (λ n. IsBackedIn w.met st.acked p (known_of st n)) (sym (found_named w.participants name p is_p).1) (h.agents name p is_p)

pub its_backed : (w : World) (st : GhostState) (name : List ℕ) (p : Participant) → participant w name ≡ Some p → IsBackedWorld w st → IsBackedIn w.met st.acked p (known_of st p.name)
its_backed w st name p is_p h = subst (λ n. IsBackedIn w.met st.acked p (known_of st n)) (sym (found_named w.participants name p is_p).1) (h.agents name p is_p)

-- ---- what isn't seen

takes_same : {r : ℕ} {s t : Session} {cache after : Cache} → Takes hss_judged r s cache t after → (t.stage ≡ s.stage) × (t.by ≡ s.by)
takes_same (posted key bytes wants none is) = (refl, refl)
takes_same (cached key bytes wants none missing is) = (refl, refl)

pub takes_all_same : {r : ℕ} {s t : Session} {cache after : Cache} → TakesAll hss_judged r s cache t after → (t.stage ≡ s.stage) × (t.by ≡ s.by)
takes_all_same (takes_none none) = (refl, refl)
takes_all_same (takes_more first rest) = let one = takes_same first in let others = takes_all_same rest in (others.0 ∙ one.0, others.1 ∙ one.1)

pub all_some : {r : ℕ} {s t : Session} {cache after : Cache} → TakesAll hss_judged r s cache t after → TakesSome hss_judged r s cache t after
all_some (takes_none none) = some_none
all_some (takes_more first rest) = some_more first (all_some rest)

takes_heard : {r : ℕ} {s t : Session} {cache after : Cache} (met : List (List ℕ)) (acked : List Post) → Takes hss_judged r s cache t after → AreHeardPut met acked s → AreHeardPut met acked t
takes_heard met acked (posted key bytes wants none is) h = tt
takes_heard met acked (cached key bytes wants none missing is) h = tt

pub takes_all_heard : {r : ℕ} {s t : Session} {cache after : Cache} (met : List (List ℕ)) (acked : List Post) → TakesAll hss_judged r s cache t after → AreHeardPut met acked s → AreHeardPut met acked t
takes_all_heard met acked (takes_none none) h = h
takes_all_heard met acked (takes_more first rest) h = takes_all_heard met acked rest (takes_heard met acked first h)

-- ---- turns

turn_heard : {now : Moment} {a : HssAgent} {view : View} {failing : Bool} {s : Session} {end : TurnEnd} {after : HssAgent} {saving : Option HssKept} {t : Session} (met : List (List ℕ)) (acked : List Post) → TakesHssTurn (record { agent = a; view = view; now = now; fails = failing }) s end after saving t → AreHeardPut met acked s → AreHeardPut met acked t
turn_heard met acked (answers notes given xid asked reply applied after saving done asks_it turned) h = h
turn_heard met acked (begins_again notes given xid asked end after saving done asks_it turned refused few) h = tt
turn_heard met acked (gives_up notes given xid asked end after saving done asks_it turned refused many) h = tt

-- what is told of a turn leaves what was received
pub received_told : (w : Played) (keeps : Invariant w) (p : Participant) (is_p : participant w.0 p.name ≡ Some p) (set : List Record) (more : List HadTurn) (n : List ℕ) → (knowing_of (record (knowing_now w.1 p.name set) { turns = w.1.turns ++ more }) n).received ≡ (knowing_of w.1 n).received
received_told w keeps p is_p set more n = by (bytes_eq n p.name) refl
  where
    by : (b : Bool) → bytes_eq n p.name ≡ b → (knowing_of (record (knowing_now w.1 p.name set) { turns = w.1.turns ++ more }) n).received ≡ (knowing_of w.1 n).received
    by true e =
        let at : n ≡ p.name = same_name n p.name e in
        subst (λ m. (knowing_of (record (knowing_now w.1 p.name set) { turns = w.1.turns ++ more }) m).received ≡ (knowing_of w.1 m).received) (sym at) (ap (λ (k : Knowing). k.received) (told_now w keeps p is_p set more).its)
    by false e = ap (λ (k : Knowing). k.received) ((told_now w keeps p is_p set more).others n e)

turn_stage : {now : Moment} {a : HssAgent} {view : View} {failing : Bool} {s : Session} {end : TurnEnd} {after : HssAgent} {saving : Option HssKept} {t : Session} (met : List (List ℕ)) (acked : List Post) → TakesHssTurn (record { agent = a; view = view; now = now; fails = failing }) s end after saving t
    → AllByRecursion (IsMet met) after.pending → ((h : Post) → Contains after.pending h → is_head h.kind ≡ true → IsHeadPutOr acked after.pending h) → StageSo met acked t.stage
turn_stage met acked (answers notes given xid asked reply applied after saving done asks_it turned) all_met heads = begins_staged met acked after.pending all_met heads
turn_stage met acked (begins_again notes given xid asked end after saving done asks_it turned refused few) all_met heads = subst (StageSo met acked) (sym done.0) tt
turn_stage met acked (gives_up notes given xid asked end after saving done asks_it turned refused many) all_met heads = tt

-- ---- steps

module _ (r : ℕ) where
  -- what is known where a turn may be had
  pub record IsWell (c : Configuration) : Type 0 where
    pub well : GoesWell r c
    pub apart : IsCollisionFree (named_bytes c.world)

  module _ (p : Participant) (c : Configuration) (name : List ℕ) (is_p : participant c.world name ≡ Some p) (named : c.session.by ≡ name) (apart : IsCollisionFree c.world.met) (may_turn : c.session.stage ≡ Refreshing → IsWell c) (h : ConfigurationSo c) where
    its : IsBackedIn c.world.met c.ghost_state.acked p (known_of c.ghost_state p.name)
    its = its_backed c.world c.ghost_state name p is_p h.0

    found_its : participant c.world p.name ≡ Some p
    found_its = ap (participant c.world) (found_named c.world.participants name p is_p).1 ∙ is_p

    found_by : participant c.world c.session.by ≡ Some p
    found_by = ap (participant c.world) named ∙ is_p

    acts_so : {next : Configuration} → Acts hss_judged r p c next → ConfigurationSo next
    acts_so (asks node question answer next heard t cache fate hears goes) =
        let so = heard_so c.world.met c.ghost_state.acked hears h.1.0 in
        let new = fate_heard c.world.met c.ghost_state.acked fate h.0.nodes in
        let one = asked_backed c.world next c.ghost_state p.name c.session t node question answer fate h.1.0 (fate_holds c.world.met c.ghost_state.acked fate so.puts h.0.nodes) (brought_put c.world.met c.ghost_state.acked hears goes h.1.1 new) h.0 in
        let same = fate_same fate in (
          cached_backed next (ask_told c.ghost_state p.name c.session t) name p cache (subst (λ ps. participant (record next { participants = ps }) name ≡ Some p) (sym same.0) is_p) one,
          (
            subst (λ m. StageSo m (c.ghost_state.acked ++ acked_by c.session.stage t.stage) t.stage) (sym same.1) (so.then_so t goes),
            more_heard c.world.met next.met c.ghost_state.acked (c.ghost_state.acked ++ acked_by c.session.stage t.stage) (λ b m. subst (λ l. Contains l b) (sym same.1) m) (λ q m. Contains-append_left c.ghost_state.acked (acked_by c.session.stage t.stage) q m) t.current
                (then_heard c.world.met c.ghost_state.acked hears goes h.1.1 new),
          ),
        )
    acts_so (asks_in_vain node question answer next heard t cache fate hears lacking) =
        let so = heard_so c.world.met c.ghost_state.acked hears h.1.0 in
        let meets : (b : List ℕ) → Contains c.world.met b → Contains next.met b = λ b m. subst (λ l. Contains l b) (sym (fate_same fate).1) m in
        let same = fate_same fate in (
          later_backed c.world next c.ghost_state c.ghost_state
              (record { participants = same.0; known = λ n. refl; met = λ b m. subst (λ l. Contains l b) (sym same.1) m; acked = λ q m. m })
              (more_hold c.world.met next.met c.ghost_state.acked c.ghost_state.acked meets (λ q m. m) next.nodes (fate_holds c.world.met c.ghost_state.acked fate so.puts h.0.nodes))
              (subst (AllByRecursion (IsStagedIn c.world c.ghost_state)) (sym same.2) h.0.sessions)
              (λ q m. subst (λ l. Contains l q.bytes) (sym same.1) (h.0.put_met q m))
              (λ n. all_weaker (IsEntryPut c.world.met c.ghost_state.acked) (IsEntryPut next.met c.ghost_state.acked) (knowing_of c.ghost_state n).received (λ e g. more_entry c.world.met next.met c.ghost_state.acked c.ghost_state.acked meets (λ q m. m) e g) (h.0.received n)) h.0,
          (lacking_so next.met c.ghost_state.acked lacking, lacking_heard next.met c.ghost_state.acked lacking),
        )
    acts_so (turns view reply applied after saving t turned in_view takes replies is_turn) =
        let w = may_turn (turn_refreshes takes) in
        let had : HadTurn = record { session = c.session; began = c.began; by = p; knowing = knowing_of c.ghost_state p.name; view = view; met = named_bytes c.world; now = c.world.now; after = after; turned = turned } in
        let q : Participant = record (after_turn p after saving) { work = applied } in
        let told = told_now (c.world, c.ghost_state) w.well.keeps p found_its turned.set (had ∷ []) in
        let new = turned_in c r p w.well.keeps w.well.hand w.well.ringed found_by w.apart its reply turned view applied after saving t in_view takes replies is_turn in (
          placed_backed c.world c.ghost_state (turn_told c p view after turned) p q (met_by c.world.met after.pending) refl (λ b m. met_stays c.world.met (map (λ (o : Post). o.bytes) after.pending) b m) turned.set
              (ap (λ (k : Knowing). k.known) told.its) (λ n other. ap (λ (k : Knowing). k.known) (told.others n other)) refl (received_told (c.world, c.ghost_state) w.well.keeps p found_its turned.set (had ∷ [])) (world_after c.world q) refl refl refl h.0.sessions new h.0,
          (
            turn_stage (met_by c.world.met after.pending) c.ghost_state.acked takes new.pending new.agent.heads,
            turn_heard (met_by c.world.met after.pending) c.ghost_state.acked takes (more_heard c.world.met (met_by c.world.met after.pending) c.ghost_state.acked c.ghost_state.acked (λ b m. met_stays c.world.met (map (λ (o : Post). o.bytes) after.pending) b m) (λ q m. m) c.session.current h.1.1),
          ),
        )
    acts_so (is_refused view end after saving t in_view refusal takes) =
        let q : Participant = after_turn p after saving in
        let new = refused_in c p view end after saving t takes refusal its in (
          placed_backed c.world c.ghost_state c.ghost_state p q (met_by c.world.met after.pending) refl (λ b m. met_stays c.world.met (map (λ (o : Post). o.bytes) after.pending) b m) (known_of c.ghost_state p.name)
              refl (λ n other. refl) refl (λ n. refl) (world_after c.world q) refl refl refl h.0.sessions new h.0,
          (
            turn_stage (met_by c.world.met after.pending) c.ghost_state.acked takes new.pending new.agent.heads,
            turn_heard (met_by c.world.met after.pending) c.ghost_state.acked takes (more_heard c.world.met (met_by c.world.met after.pending) c.ghost_state.acked c.ghost_state.acked (λ b m. met_stays c.world.met (map (λ (o : Post). o.bytes) after.pending) b m) (λ q m. m) c.session.current h.1.1),
          ),
        )
    acts_so (settles after t is) = settled_so is
      where
        settled_so : {after : HssAgent} {t : Session} → Settles p.agent c.session after t → ConfigurationSo (record c { world = with_participant c.world (record p { agent = after }); session = t })
        settled_so (settles_all said acks at) =
            let staged : IsStaged c.world.met c.ghost_state.acked [] acks = subst (StageSo c.world.met c.ghost_state.acked) at h.1.0 in (
              placed_backed c.world c.ghost_state c.ghost_state p _ c.world.met refl (λ b m. m) (known_of c.ghost_state p.name) refl (λ n other. refl) refl (λ n. refl) _ refl refl refl h.0.sessions
                  (settled_in c.world.met apart c.ghost_state.acked h.0.put_met acks staged.acks_so p (known_of c.ghost_state p.name) its) h.0,
              (tt, h.1.1),
            )

  -- what is available is taken first
  pub step_so : {name : List ℕ} {c next : Configuration} → c.session.by ≡ name → IsCollisionFree c.world.met → (c.session.stage ≡ Refreshing → IsWell c) → Steps hss_judged r name c next → ConfigurationSo c → ConfigurationSo next
  step_so {name} {c} {next} named apart may_turn (acts p taken cache _ is_p takes act) h =
      acts_so (record p { cache = cache }) mid name (found_placed c.world name p (record p { cache = cache }) c.world.met is_p refl (λ x m. m) (λ x m. m)) (same.1 ∙ named) apart then_well
      (cached_backed c.world c.ghost_state name p cache is_p h.0, (subst (StageSo c.world.met c.ghost_state.acked) (sym same.0) h.1.0, takes_all_heard c.world.met c.ghost_state.acked takes h.1.1)) act
    where
      mid : Configuration
      mid = with_cache hss_judged r c p taken cache

      same : (taken.stage ≡ c.session.stage) × (taken.by ≡ c.session.by)
      same = takes_all_same takes

      found : participant c.world c.session.by ≡ Some p
      found = ap (participant c.world) named ∙ is_p

      then_well : taken.stage ≡ Refreshing → IsWell mid
      then_well at =
          let w = may_turn (sym same.0 ∙ at) in
          let kept = taking_keeps c r p taken cache w.well.keeps w.well.hand found (all_some takes) in
          record {
            well = record { keeps = kept.0; hand = kept.1; ringed = w.well.ringed };
            apart = subst (λ (ks : List (List ℕ)). IsCollisionFree (c.world.met ++ ks)) (sym (same_keys c.world w.well.keeps.apart c.session.by p found (record p { cache = cache }) refl refl)) w.apart;
          }
  step_so {name} {c} named apart may_turn (lacks_memory p taken t cache is_p takes lacking) h = (cached_backed c.world c.ghost_state name p cache is_p h.0, (lacking_so c.world.met c.ghost_state.acked lacking, lacking_heard c.world.met c.ghost_state.acked lacking))

  -- ---- many, of a session in hand

  pub met_apart : (w : World) → IsCollisionFree (named_bytes w) → IsCollisionFree w.met
  met_apart w apart a b in_a in_b same = apart a b (Contains-append_left w.met _ a in_a) (Contains-append_left w.met _ b in_b) same

  well_then : {name : List ℕ} {c next : Configuration} → GoesWell r c → c.session.by ≡ name → Steps hss_judged r name c next → GoesWell r next × (next.session.by ≡ name)
  well_then {name = name} {c = c} {next = next} well named step =
      let led = step_leads r name c next named well.keeps well.hand well.ringed step in
      (record { keeps = led.leaves.0; hand = led.leaves.1; ringed = led.same.replicas ∙ well.ringed }, led.same.call.0 ∙ named)

  pub steps_so : {name : List ℕ} {count : ℕ} {c next : Configuration} → StepsOn hss_judged r name count c next → c.session.by ≡ name → GoesWell r c → IsCollisionFree (named_bytes next.world) → ConfigurationSo c → ConfigurationSo next
  steps_so steps_none named well apart h = h
  steps_so (steps_over said over) named well apart h = h
  steps_so {name = name} (steps_more {count} {c} {between} {next} step rest) named well apart h =
      let now = apart_then c.world next.world (steps_names r (steps_more step rest) named well) apart in
      let then_it = well_then well named step in
      steps_so rest then_it.1 then_it.0 apart (step_so named (met_apart c.world now) (λ at. record { well = well; apart = now }) step h)

  pub runs_so : {name : List ℕ} {c next : Configuration} → RunsOut hss_judged r name c next → c.session.by ≡ name → GoesWell r c → IsCollisionFree (named_bytes next.world) → ConfigurationSo c → ConfigurationSo next
  runs_so (runs_over said over) named well apart h = h
  runs_so {name = name} (runs_more {c} {between} {next} step rest) named well apart h =
      let now = apart_then c.world next.world (runs_names r (runs_more step rest) named well) apart in
      let then_it = well_then well named step in
      runs_so rest then_it.1 then_it.0 apart (step_so named (met_apart c.world now) (λ at. record { well = well; apart = now }) step h)

  -- ---- and of one that only publishes

  -- it doesn't refresh then, is of the same participant, and no block is forgotten
  abbrev StaysPast : Configuration → Configuration → Type 0
  StaysPast c next = IsPast next.session × (next.session.by ≡ c.session.by) × ((b : List ℕ) → Contains c.world.met b → Contains next.world.met b)

  hears_by : {s heard : Session} {cache after : Cache} {node : Peer} {question : Ask} {answer : Answer} → Hears hss_judged r s cache node question answer heard after → heard.by ≡ s.by
  hears_by (gets_on want wants next part) = refl
  hears_by (got want brought wants next whole) = refl
  hears_by (puts_on said p posts acks at next part) = refl
  hears_by (puts said p posts acks came at next whole) = refl

  fails_by : {s t : Session} → Fails s t → t.by ≡ s.by
  fails_by (fails notes given miss xid asked at refreshed asks_it) = refl
  fails_by (goes_on none) = refl

  lacks_by : {s t : Session} → LacksMemory s t → t.by ≡ s.by
  lacks_by (lacks notes shown given end xid asked at refreshed asks_it rest front) = refl

  settles_by : {a after : HssAgent} {s t : Session} → Settles a s after t → t.by ≡ s.by
  settles_by (settles_all said acks at) = refl

  acts_past : {p : Participant} {c next : Configuration} → IsPast c.session → Acts hss_judged r p c next → StaysPast c next
  acts_past {c = c} past (asks node question answer next heard t cache fate hears goes) =
      (fails_past (hears_past past hears) goes, fails_by goes ∙ hears_by hears, λ b m. subst (λ l. Contains l b) (sym (fate_same fate).1) m)
  acts_past past (asks_in_vain node question answer next heard t cache fate hears lacking) = (lacks_past lacking, lacks_by lacking, λ b m. subst (λ l. Contains l b) (sym (fate_same fate).1) m)
  acts_past past (turns view reply applied after saving t turned in_view takes replies is_turn) = absurd (past (turn_refreshes takes))
  acts_past past (is_refused view end after saving t in_view refusal takes) = absurd (past (turn_refreshes takes))
  acts_past past (settles after t is) = (settles_past is, settles_by is, λ b m. m)

  some_past : {s t : Session} {cache after : Cache} → TakesSome hss_judged r s cache t after → t.by ≡ s.by
  some_past some_none = refl
  some_past (some_more first rest) = some_past rest ∙ (takes_same first).1

  step_past : {name : List ℕ} {c next : Configuration} → IsPast c.session → Steps hss_judged r name c next → StaysPast c next
  step_past {c = c} past (acts p taken cache next is_p takes act) =
      let same = takes_all_same takes in
      let then_it = acts_past (λ e. past (sym same.0 ∙ e)) act in
      (then_it.0, then_it.1 ∙ same.1, then_it.2)
  step_past past (lacks_memory p taken t cache is_p takes lacking) = (lacks_past lacking, lacks_by lacking ∙ some_past takes, λ b m. m)

  runs_meet : {name : List ℕ} {c next : Configuration} → RunsOut hss_judged r name c next → IsPast c.session → (b : List ℕ) → Contains c.world.met b → Contains next.world.met b
  runs_meet (runs_over said over) past b m = m
  runs_meet (runs_more step rest) past b m = let one = step_past past step in runs_meet rest one.0 b (one.2 b m)

  pub runs_past : {name : List ℕ} {c next : Configuration} → RunsOut hss_judged r name c next → c.session.by ≡ name → IsPast c.session → IsCollisionFree next.world.met → ConfigurationSo c → ConfigurationSo next
  runs_past (runs_over said over) named past apart h = h
  runs_past (runs_more {c} {between} {next} step rest) named past apart h =
      let one = step_past past step in
      let now : IsCollisionFree c.world.met = λ a b in_a in_b same. apart a b (runs_meet (runs_more step rest) past a in_a) (runs_meet (runs_more step rest) past b in_b) same in
      runs_past rest (one.1 ∙ named) one.0 apart (step_so named now (λ at. absurd (past at)) step h)
