-- Configurations go on so, step by step.
use Rattle.std.proofs.Common.{◌≡◌, ℕ, Bool, List, ◌++◌, map, filter, Option, Some, refl, ap, ◌∙◌, subst, not}
use Rattle.std.specs.List.{AllByRecursion, list_any}
use Rattle.ivy_base.specs.declared.operation.Moment.{Moment}
use Rattle.ring_model.specs.Members.{first}
use Rattle.dhash_model.specs.Signed.{hss_judged}
use Rattle.log_model.proofs.Lists.{each, each_append, each_from, from_filter}
use Rattle.log_model.specs.View.{View}
use Rattle.dht_ids.specs.declared.ask.Answer.{Answer}
use Rattle.dht_ids.specs.declared.ask.Ask.{Ask}
use Rattle.dht_ids.specs.declared.peer.Peer.{Peer}
use Rattle.dht_ids.specs.declared.post.Post.{Post}
use Rattle.agent_model.specs.Others.{is_of}
use Rattle.agent_model.specs.Turning.{TurnEnd}
use Rattle.session_model.specs.Executions.{Fails, LacksMemory, Settles, TakesTurn}
use Rattle.session_model.specs.Executions.Settles.{settles as settles_all}
use Rattle.session_model.specs.Executions.TakesTurn.{answers as turn_answers, begins_again, gives_up}
use Rattle.session_model.specs.Sessions.{Cache, Hears, Session, in_publishing_order}
use Rattle.world_model.specs.Agents.{HssAgent, HssKept, hss_signing}
use Rattle.world_model.specs.Keepers.{asked_to_save}
use Rattle.world_model.specs.World.{World, Participant, participant}
use Rattle.world_model.specs.Fates.{FateOf}
use Rattle.world_model.specs.Steps.{Acts, RunsOut, Configuration, Steps, StepsOn, acked_by, after_turn, met_by, turn_told, with_cache}
use Rattle.world_model.specs.Steps.Acts.{asks, asks_in_vain, turns, is_refused, settles}
use Rattle.world_model.specs.Steps.Steps.{acts, lacks_memory}
use Rattle.world_model.specs.Steps.RunsOut.{is_over as runs_over, more as runs_more}
use Rattle.world_model.specs.Steps.StepsOn.{none as steps_none, is_over as steps_over, more as steps_more}
use Rattle.world_laws.proofs.NodeFates.{fate_rest}
use Rattle.world_laws.proofs.SignedAmong.{met_stays}
use Rattle.world_laws.proofs.WholePublishing.{each_published}
use Rattle.calm_laws.proofs.CalmNodes.{asked_rings}
use Rattle.calm_laws.proofs.CalmStates.{IsOwnPost, asked_more, asked_pending, found_placed, made_left, made_own, more_posts, more_then, posts_at}
use Rattle.calm_laws.proofs.Stretches.{AreTrue, IsAckHeld, Stretch}
use Rattle.calm_laws.proofs.States.{InStep, ConfigurationGoes, good_later, no_puts_true, configuration_stays, configuration_then, still_acked, still_in_step}
use Rattle.calm_laws.proofs.Steps.{answered_so, fails_step, hears_data, lacks_step, place_goes, takes_all_step, takes_some_step}

module _ (ring : Stretch) where
  abbrev Goes : Configuration → Configuration → Type 0
  Goes c next = ConfigurationGoes ring c next

  -- ---- an ask

  ask_told_so : (c : Configuration) (node : Peer) (question : Ask) (given : Answer) (next : World) (heard t : Session) (cache after : Cache) → FateOf hss_judged c.world node question given next → Hears hss_judged ring.r c.session cache node question given heard after → Fails heard t
      → Goes c (record { world = next; ghost_state = record c.ghost_state { acked = c.ghost_state.acked ++ acked_by c.session.stage t.stage }; session = t; began = c.began })
  ask_told_so c node question given next heard t cache after fate hears ends = record {
    grows = asked_more fate;
    still = asked_rings c.world next node question given (hears_data hears) fate;
    good = λ up h g s.
        let a = answered_so ring c.world next node question given (more_then c.world next ring.end (asked_more fate) up) h fate c.session s c.ghost_state g hears in (
          good_later ring c.world next c.ghost_state (record c.ghost_state { acked = c.ghost_state.acked ++ acked_by c.session.stage t.stage }) g (asked_more fate) a.0.held a.0.orderly (asked_pending fate g.pending) (ap (λ (v : World). v.sessions) (fate_rest fate))
              (each_append (IsAckHeld ring next) c.ghost_state.acked (acked_by c.session.stage t.stage) (still_acked ring c.world next c.ghost_state.acked (asked_more fate) a.0.held g.acked) (a.2 t ends)),
          fails_step ring next ends a.1,
        );
  }

  ask_in_vain : (c : Configuration) (node : Peer) (question : Ask) (given : Answer) (next : World) (heard t : Session) (cache after : Cache) → FateOf hss_judged c.world node question given next → Hears hss_judged ring.r c.session cache node question given heard after → LacksMemory c.session t
      → Goes c (record c { world = next; session = t })
  ask_in_vain c node question given next heard t cache after fate hears lacking = record {
    grows = asked_more fate;
    still = asked_rings c.world next node question given (hears_data hears) fate;
    good = λ up h g s.
        let a = answered_so ring c.world next node question given (more_then c.world next ring.end (asked_more fate) up) h fate c.session s c.ghost_state g hears in (
          good_later ring c.world next c.ghost_state c.ghost_state g (asked_more fate) a.0.held a.0.orderly (asked_pending fate g.pending) (ap (λ (v : World). v.sessions) (fate_rest fate))
              (still_acked ring c.world next c.ghost_state.acked (asked_more fate) a.0.held g.acked),
          lacks_step ring next lacking (still_in_step ring c.world next c.session (asked_more fate) a.0.held s),
        );
  }

  -- ---- a turn

  turn_step : {now : Moment} {a : HssAgent} {view : View} {failing : Bool} {s : Session} {end : TurnEnd} {after : HssAgent} {saving : Option HssKept} {t : Session} (v : World) → TakesTurn hss_signing (record { agent = a; view = view; now = now; fails = failing }) s end after saving t → AllByRecursion (IsOwnPost v) after.pending
      → InStep ring v s → InStep ring v t
  turn_step {s = s} v (turn_answers notes given xid asked reply applied after saving done asks_it turned) own h = record {
    entries = h.entries;
    posts = each_published (IsOwnPost v) after.pending own;
    heard = no_puts_true ring v (first (in_publishing_order after.pending)) s.current (subst (λ stage. AreTrue ring v (first (posts_at stage)) s.current) done.0 h.heard);
  }
  turn_step v (begins_again notes given xid asked end after saving done asks_it turned refused few) own h = record { entries = h.entries; posts = h.posts; heard = tt }
  turn_step v (gives_up notes given xid asked end after saving done asks_it turned refused many) own h = record { entries = h.entries; posts = tt; heard = tt }

  settled_step : {a : HssAgent} {s : Session} {after : HssAgent} {t : Session} (v : World) → Settles a s after t → InStep ring v s → InStep ring v t
  settled_step {s = s} v (settles_all said acks at) h = record { entries = h.entries; posts = tt; heard = subst (λ stage. AreTrue ring v (first (posts_at stage)) s.current) at h.heard }

  settled_own : {a : HssAgent} {s : Session} {after : HssAgent} {t : Session} (v : World) → Settles a s after t → AllByRecursion (IsOwnPost v) a.pending → AllByRecursion (IsOwnPost v) after.pending
  settled_own {a = a} v (settles_all said acks at) own = each_from (IsOwnPost v) (filter (λ (p : Post). not (list_any (λ ack. is_of ack p) acks)) a.pending)
      (λ p among. each (IsOwnPost v) a.pending p own (from_filter (λ (p : Post). not (list_any (λ ack. is_of ack p) acks)) a.pending p among).0)

  -- ---- steps

  acts_go : (name : List ℕ) (p : Participant) (c next : Configuration) → participant c.world name ≡ Some p → Acts hss_judged ring.r p c next → Goes c next
  acts_go name p c _ is_p (asks node question given next heard t cache fate hears ends) =
      let mid : Configuration = record { world = next; ghost_state = record c.ghost_state { acked = c.ghost_state.acked ++ acked_by c.session.stage t.stage }; session = t; began = c.began } in
      let found : participant next name ≡ Some p = ap (λ (v : World). participant v name) (fate_rest fate) ∙ is_p in
      configuration_then ring c mid _ (ask_told_so c node question given next heard t p.cache cache fate hears ends)
      (place_goes ring mid name p (record p { cache = cache }) next.met _ t c.began found refl (λ x h. h) (λ x h. h) refl
      (λ v is e more pend. more_posts next v p.agent.pending more (pend name p found)) (λ v more own s. s))
  acts_go name p c _ is_p (asks_in_vain node question given next heard t cache fate hears lacking) = ask_in_vain c node question given next heard t p.cache cache fate hears lacking
  acts_go name p c _ is_p (turns view reply applied after saving t turned in_view takes replies is_turn) =
      let q : Participant = record (after_turn p after saving) { work = applied } in
      let before : Participant = record p { agent = after; keeper = asked_to_save p.keeper saving; work = applied } in
      place_goes ring c name p q (met_by c.world.met after.pending) (turn_told c p view after turned) t c.began is_p refl (λ x h. met_stays c.world.met (map (λ (o : Post). o.bytes) after.pending) x h) (λ x h. made_left before after.pending x h) refl
      (λ v is e more pend. made_own v name before c.world.met after.pending is e) (λ v more own s. turn_step v takes own s)
  acts_go name p c _ is_p (is_refused view end after saving t in_view refusal takes) =
      let q : Participant = after_turn p after saving in
      let before : Participant = record p { agent = after; keeper = asked_to_save p.keeper saving } in
      place_goes ring c name p q (met_by c.world.met after.pending) c.ghost_state t _ is_p refl (λ x h. met_stays c.world.met (map (λ (o : Post). o.bytes) after.pending) x h) (λ x h. made_left before after.pending x h) refl
      (λ v is e more pend. made_own v name before c.world.met after.pending is e) (λ v more own s. turn_step v takes own s)
  acts_go name p c _ is_p (settles after t is) =
      place_goes ring c name p (record p { agent = after }) c.world.met c.ghost_state t c.began is_p refl (λ x h. h) (λ x h. h) refl
      (λ v found e more pend. settled_own v is (more_posts c.world v p.agent.pending more (pend name p is_p))) (λ v more own s. settled_step v is s)

  cache_goes : (name : List ℕ) (p : Participant) (c : Configuration) (taken : Session) (cache : Cache) → participant c.world name ≡ Some p
      → ((v : World) → InStep ring v c.session → InStep ring v taken) → Goes c (with_cache hss_judged ring.r c p taken cache)
  cache_goes name p c taken cache is_p step =
      place_goes ring c name p (record p { cache = cache }) c.world.met c.ghost_state taken c.began is_p refl (λ x h. h) (λ x h. h) refl
      (λ v is e more pend. more_posts c.world v p.agent.pending more (pend name p is_p)) (λ v more own s. step v s)

  pub step_goes : (name : List ℕ) {c next : Configuration} → Steps hss_judged ring.r name c next → Goes c next
  step_goes name {c = c} (acts p taken cache next is_p takes act) =
      configuration_then ring c (with_cache hss_judged ring.r c p taken cache) next (cache_goes name p c taken cache is_p (λ v s. takes_all_step ring v takes s))
      (acts_go name (record p { cache = cache }) (with_cache hss_judged ring.r c p taken cache) next (found_placed c.world name p (record p { cache = cache }) c.world.met is_p refl (λ x h. h) (λ x h. h)) act)
  step_goes name {c = c} (lacks_memory p taken t cache is_p takes lacking) =
      cache_goes name p c t cache is_p (λ v s. lacks_step ring v lacking (takes_some_step ring v takes s))

  pub steps_go : (name : List ℕ) {count : ℕ} {c next : Configuration} → StepsOn hss_judged ring.r name count c next → Goes c next
  steps_go name {c = c} steps_none = configuration_stays ring c
  steps_go name {c = c} (steps_over said over) = configuration_stays ring c
  steps_go name (steps_more {count} {c} {between} {next} step rest) = configuration_then ring c between next (step_goes name step) (steps_go name rest)

  pub runs_go : (name : List ℕ) {c next : Configuration} → RunsOut hss_judged ring.r name c next → Goes c next
  runs_go name {c = c} (runs_over said over) = configuration_stays ring c
  runs_go name (runs_more {c} {between} {next} step rest) = configuration_then ring c between next (step_goes name step) (runs_go name rest)
