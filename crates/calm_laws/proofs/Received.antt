-- In calm runs what sessions were answered of gets is what nodes held, and so are the heads that participants received.
use Rattle.std.proofs.Common.{◌≡◌, ◌⊎◌, inl, inr, ⊎_elim, ℕ, Bool, true, false, cond, List, [], ◌∷◌, ◌++◌, map, find, Option, Some, None, refl, sym, ap, ◌∙◌, subst, Contains, is_some}
use Rattle.std.specs.List.{AllByRecursion}
use Rattle.std.specs.Str.{bytes_eq}
use Rattle.std.specs.Option.{option_map_or}
use Rattle.std.proofs.lemmas.List.Elements.{Contains-append_cases}
use Rattle.ivy_base.specs.declared.key.Key.{Key}
use Rattle.ivy_base.specs.Naming.{head_key_of}
use Rattle.dht_ids.specs.declared.ask.Answer.{Answer}
use Rattle.dht_ids.specs.declared.ask.Ask.{Ask}
use Rattle.dhash_model.specs.Signed.{hss_judged}
use Rattle.log_model.specs.Vector.{Entry}
use Rattle.log_model.specs.View.{View}
use Rattle.log_model.proofs.Lists.{each, each_append, in_cons, in_nothing}
use Rattle.dht_ids.specs.declared.peer.Peer.{Peer}
use Rattle.dhash_model.specs.declared.kind.BlockKind.{BlockKind}
use Rattle.dhash_model.specs.declared.kind.BlockKind.TheVariants.{Content, Head}
use Rattle.script_driver.specs.Run.{Goes}
use Rattle.script_model.specs.Lines.{command_of}
use Rattle.script_model.specs.declared.command.Command.{Command}
use Rattle.script_model.specs.declared.command.Command.TheVariants as command
use Rattle.session_model.specs.Executions.{Settles}
use Rattle.session_model.specs.Executions.Begins.{alone as begins_alone, refreshes as begins_refreshing}
use Rattle.session_model.specs.Executions.Settles.{settles as settles_all}
use Rattle.session_model.specs.Executions.TakesTurn.{answers, begins_again, gives_up}
use Rattle.session_model.specs.Sessions.{Cache, Hears, Said, Session}
use Rattle.session_model.specs.Sessions.Hears.{gets_on, got, puts, puts_on}
use Rattle.agent_model.specs.Turning.{TurnEnd}
use Rattle.ivy_base.specs.declared.operation.Moment.{Moment}
use Rattle.world_model.specs.Agents.{HssAgent, HssKept, TakesHssTurn, own_hss_key}
use Rattle.world_model.specs.Calls.{AsLine, BeginsWith, FinishLine, Sending, StepLine, replied, configuration_of, sending_of}
use Rattle.world_model.specs.Calls.AsLine.{calls}
use Rattle.world_model.specs.Calls.StepLine.{steps}
use Rattle.world_model.specs.Calls.FinishLine.{ends}
use Rattle.world_model.specs.Logs.{Played}
use Rattle.world_model.specs.Steps.{Acts, RunsOut, Configuration, Steps, StepsOn, with_cache}
use Rattle.world_model.specs.Steps.Acts.{asks, asks_in_vain, is_refused, settles, turns}
use Rattle.world_model.specs.Steps.RunsOut.{is_over as runs_over, more as runs_more}
use Rattle.world_model.specs.Steps.Steps.{acts, lacks_memory}
use Rattle.world_model.specs.Steps.StepsOn.{is_over as steps_over, more as steps_more, none as steps_none}
use Rattle.world_model.specs.GhostState.{Knowing, GhostState, began_of, beginning, having_begun, knowing_nothing, knowing_of, with_knowing}
use Rattle.world_model.specs.Step.{Does}
use Rattle.world_model.specs.World.{NamedSession, Participant, World, session_named, without_session}
use Rattle.calm_laws.specs.Calm.{Calmly, IsCalm, IsCalmAt, Since, Stopped}
use Rattle.calm_laws.specs.Calm.IsCalm.{joins, other, rounds, stops}
use Rattle.calm_laws.specs.Calm.Calmly.{more as calmly_more, none as calmly_none}
use Rattle.world_laws.specs.Invariant.{Invariant}
use Rattle.world_laws.specs.Effects.{Effect, LaterEffect}
use Rattle.world_laws.specs.Effects.Effect.{comes, loses, makes_view, of_nodes, opens, plays, renews, shows, times, touches}
use Rattle.world_laws.specs.Effects.LaterEffect.{publishes, replies as later_replies}
use Rattle.world_laws.specs.Laws.{IsCall, LinesKeep}
use Rattle.world_laws.proofs.Bringing.{found_named}
use Rattle.calm_laws.proofs.CalmHeld.{calmly_keeps}
use Rattle.calm_laws.proofs.CalmStates.{IsMore, more_then, same_more}
use Rattle.calm_laws.proofs.Finding.{each_filtered, session_in}
use Rattle.calm_laws.proofs.CalmRuns.{IsFirst, first_of}
use Rattle.world_laws.proofs.Effects.{by_effects, lines_have_effects}
use Rattle.world_laws.proofs.HeadKeys.{block_is_key, one_own_key}
use Rattle.world_laws.proofs.HeadlineOfLines.{ends_call, is_call}
use Rattle.world_laws.proofs.Publishing.{found_knowing}
use Rattle.world_laws.proofs.HeadlineOfPublishing.{turn_refreshes}
use Rattle.world_laws.proofs.RingLines.{fates_rest}
use Rattle.calm_laws.specs.Laws.{IsWithinLimit}
use Rattle.calm_laws.proofs.BlockKinds.{AreApart, IsOf, OfContent, OfHeads, fewer_apart, of_more}
use Rattle.calm_laws.proofs.Facts.{HasFacts}
use Rattle.calm_laws.proofs.Lines.{sent_step}
use Rattle.calm_laws.proofs.Runs.{apart_at, calmly, facts_on, first_facts, first_state, fresh, has_room, line_facts, line_state, rings}
use Rattle.calm_laws.proofs.Configurations.{runs_go, step_goes, steps_go}
use Rattle.calm_laws.proofs.States.{InStep, IsGood, kept_ring}
use Rattle.calm_laws.proofs.Stretches.{IsRingOf, Stretch}
use Rattle.calm_laws.proofs.Worlds.{IsState, good_onward, on, stretch}
use Rattle.calm_laws.proofs.GotHeads.{AllHoldOf, AreHeardOf, EntryOf, brought_so, fate_told, lacking_heard, none_new, parts_fail, takes_all_heard, then_heard}
use Rattle.calm_laws.specs.Takes.{IsLeftBy, ReceivedHeadsLeft}
use Rattle.calm_laws.proofs.CallSteps.{IsPast, step_past, takes_all_missed}
use Rattle.calm_laws.proofs.HeldHeads.{new_or_old}
use Rattle.calm_laws.proofs.LeftHeads.{left_under}
use Rattle.calm_laws.proofs.BackedLines.{calm_does}
use Rattle.calm_laws.proofs.BackedSteps.{fate_same, takes_all_same}

-- what is put brings nothing
past_parts : {r : ℕ} {s heard : Session} {cache after : Cache} {node : Peer} {question : Ask} {given : Answer} → IsPast s → Hears hss_judged r s cache node question given heard after → heard.parts ≡ s.parts
past_parts past (gets_on want wants asks_next part) = absurd (past.0 wants.0)
past_parts past (got want brought wants asks_next whole) = absurd (past.0 wants.0)
past_parts past (puts_on said q posts acks at asks_next part) = refl
past_parts past (puts said q posts acks came at asks_next whole) = refl

module _ (Of : Key → List ℕ → Type 0) where
  abbrev pub AllReceivedOf : List Knowing → Type 0
  AllReceivedOf ks = (k : Knowing) → Contains ks k → AllByRecursion (EntryOf Of) k.received

  -- so is what open sessions were answered, and what was received
  pub record IsToldIn (ss : List NamedSession) (ks : List Knowing) : Type 0 where
    pub sessions : AllByRecursion (λ s. AreHeardOf Of s.session) ss
    pub received : AllReceivedOf ks

  pub received_of : (st : GhostState) (n : List ℕ) → AllReceivedOf st.participants → AllByRecursion (EntryOf Of) (knowing_of st n).received
  received_of st n h = by (find (λ k. bytes_eq k.name n) st.participants) refl
    where
      by : (o : Option Knowing) → find (λ k. bytes_eq k.name n) st.participants ≡ o → AllByRecursion (EntryOf Of) (knowing_of st n).received
      by None is = subst (λ (o : Option Knowing). AllByRecursion (EntryOf Of) (option_map_or (λ k. k) o (knowing_nothing n)).received) (sym is) tt
      by (Some k) is = subst (λ (o : Option Knowing). AllByRecursion (EntryOf Of) (option_map_or (λ k. k) o (knowing_nothing n)).received) (sym is) (h k (found_knowing st.participants n k is).0)

  told_with : (st : GhostState) (k : Knowing) → AllReceivedOf st.participants → AllByRecursion (EntryOf Of) k.received → AllReceivedOf (with_knowing st k).participants
  told_with st k h new x c = ⊎_elim (λ e. subst (λ (y : Knowing). AllByRecursion (EntryOf Of) y.received) (sym e) new) (λ old. h x old) (new_or_old (λ (l : Knowing). bytes_eq l.name k.name) k st.participants x c)

  told_now : (st : GhostState) (name : List ℕ) (known : _) → AllReceivedOf st.participants → AllReceivedOf (with_knowing st (record (knowing_of st name) { known = known })).participants
  told_now st name known h = told_with st (record (knowing_of st name) { known = known }) h (received_of st name h)

  -- ---- steps

  abbrev ToldConfiguration : Configuration → Type 0
  ToldConfiguration c = IsToldIn c.world.sessions c.ghost_state.participants × AreHeardOf Of c.session

  turn_heard : {now : Moment} {a : HssAgent} {view : View} {failing : Bool} {s : Session} {end : TurnEnd} {after : HssAgent} {saving : Option HssKept} {t : Session} → TakesHssTurn (record { agent = a; view = view; now = now; fails = failing }) s end after saving t → AreHeardOf Of s → AreHeardOf Of t
  turn_heard (answers notes given xid asked reply applied after saving done asks_it turned) h = h
  turn_heard (begins_again notes given xid asked end after saving done asks_it turned refused few) h = tt
  turn_heard (gives_up notes given xid asked end after saving done asks_it turned refused many) h = tt

  settles_heard : {a after : HssAgent} {s t : Session} → Settles a s after t → AreHeardOf Of s → AreHeardOf Of t
  settles_heard (settles_all said acks at) h = h

  acts_told : {r : ℕ} {p : Participant} {c next : Configuration} → AllHoldOf Of c.world → ToldConfiguration c → Acts hss_judged r p c next → ToldConfiguration next
  acts_told {p = p} {c = c} holds h (asks node question given next heard t cache fate hears goes) =
      let new = fate_told Of fate holds in (
        record {
          sessions = subst (AllByRecursion (λ (s : NamedSession). AreHeardOf Of s.session)) (sym (fate_same fate).2) h.0.sessions;
          received = told_with c.ghost_state _ h.0.received (each_append (EntryOf Of) (knowing_of c.ghost_state p.name).received _ (received_of c.ghost_state p.name h.0.received) (brought_so Of hears goes h.1 new));
        },
        then_heard Of hears goes h.1 new,
      )
  acts_told holds h (asks_in_vain node question given next heard t cache fate hears lacking) =
      (record { sessions = subst (AllByRecursion (λ (s : NamedSession). AreHeardOf Of s.session)) (sym (fate_same fate).2) h.0.sessions; received = h.0.received }, lacking_heard Of lacking)
  acts_told {p = p} {c = c} holds h (turns view reply applied after saving t turned in_view takes replies is_turn) = (record { sessions = h.0.sessions; received = told_now c.ghost_state p.name turned.set h.0.received }, turn_heard takes h.1)
  acts_told holds h (is_refused view end after saving t in_view refusal takes) = (record { sessions = h.0.sessions; received = h.0.received }, turn_heard takes h.1)
  acts_told holds h (settles after t is) = (record { sessions = h.0.sessions; received = h.0.received }, settles_heard is h.1)

  pub step_told : {r : ℕ} {name : List ℕ} {c next : Configuration} → AllHoldOf Of c.world → ToldConfiguration c → Steps hss_judged r name c next → ToldConfiguration next
  step_told {r = r} {c = c} holds h (acts p taken cache next is_p takes act) = acts_told {c = with_cache hss_judged r c p taken cache} (λ id n at. holds id n at) (record { sessions = h.0.sessions; received = h.0.received }, takes_all_heard Of takes h.1) act
  step_told holds h (lacks_memory p taken t cache is_p takes lacking) = (record { sessions = h.0.sessions; received = h.0.received }, lacking_heard Of lacking)

  -- what is only published brings nothing
  past_told : {r : ℕ} {p : Participant} {c next : Configuration} → IsPast c.session → IsToldIn c.world.sessions c.ghost_state.participants → Acts hss_judged r p c next → IsToldIn next.world.sessions next.ghost_state.participants
  past_told {p = p} {c = c} past told (asks node question given next heard t cache fate hears goes) = record {
    sessions = subst (AllByRecursion (λ (s : NamedSession). AreHeardOf Of s.session)) (sym (fate_same fate).2) told.sessions;
    received = told_with c.ghost_state _ told.received (each_append (EntryOf Of) (knowing_of c.ghost_state p.name).received _ (received_of c.ghost_state p.name told.received) (none_new Of c.session t (parts_fail Of goes ∙ past_parts past hears)));
  }
  past_told past told (asks_in_vain node question given next heard t cache fate hears lacking) = record { sessions = subst (AllByRecursion (λ (s : NamedSession). AreHeardOf Of s.session)) (sym (fate_same fate).2) told.sessions; received = told.received }
  past_told past told (turns view reply applied after saving t turned in_view takes replies is_turn) = absurd (past.0 (turn_refreshes takes))
  past_told past told (is_refused view end after saving t in_view refusal takes) = absurd (past.0 (turn_refreshes takes))
  past_told past told (settles after t is) = record { sessions = told.sessions; received = told.received }

  past_step : {r : ℕ} {name : List ℕ} {c next : Configuration} → IsPast c.session → IsToldIn c.world.sessions c.ghost_state.participants → Steps hss_judged r name c next → IsToldIn next.world.sessions next.ghost_state.participants
  past_step {r = r} {c = c} past told (acts p taken cache next is_p takes act) =
      past_told {c = with_cache hss_judged r c p taken cache} ((λ e. past.0 (sym (takes_all_same takes).0 ∙ e)), takes_all_missed r takes ∙ past.1) (record { sessions = told.sessions; received = told.received }) act
  past_step past told (lacks_memory p taken t cache is_p takes lacking) = record { sessions = told.sessions; received = told.received }

  past_runs : {r : ℕ} {name : List ℕ} {c next : Configuration} → RunsOut hss_judged r name c next → IsPast c.session → IsToldIn c.world.sessions c.ghost_state.participants → IsToldIn next.world.sessions next.ghost_state.participants
  past_runs (runs_over said over) past told = told
  past_runs {r = r} (runs_more step rest) past told = past_runs rest (step_past r past step) (past_step past told step)

  -- ---- lines by which no session goes on

  abbrev ToldOf : Played → Type 0
  ToldOf w = IsToldIn w.0.sessions w.1.participants

  pub begun_heard : (w : World) (s : Sending) (t : Session) → BeginsWith w s t → AreHeardOf Of t
  begun_heard w s _ (begins_alone given by) = tt
  begun_heard w s _ (begins_refreshing xid asked asks_it) = tt

  effect_told : {k : Command} → (IsCall k → ⊥) → (w next : Played) → ToldOf w → Effect hss_judged w k next → ToldOf next
  effect_told no_call w _ h (shows _ is) = h
  effect_told no_call w _ h (times sec nsec) = record { sessions = h.sessions; received = h.received }
  effect_told no_call w _ h (loses count) = record { sessions = h.sessions; received = h.received }
  effect_told no_call w _ h (of_nodes _ ring next is) =
      record { sessions = subst (AllByRecursion (λ (s : NamedSession). AreHeardOf Of s.session)) (sym (ap (λ (v : World). v.sessions) is.rest)) h.sessions; received = h.received }
  effect_told no_call w _ h (makes_view name names others members former r view next are also new own_keys small ringed is put) =
      record { sessions = subst (AllByRecursion (λ (s : NamedSession). AreHeardOf Of s.session)) (sym (ap (λ (v : World). v.sessions) (fates_rest put.fates))) h.sessions; received = h.received }
  effect_told no_call w _ h (comes name id seed sets new) = record {
    sessions = h.sessions;
    received = λ x c. ⊎_elim (λ old. h.received x old) (λ one. ⊎_elim (λ e. subst (λ (y : Knowing). AllByRecursion (EntryOf Of) y.received) e tt) (λ none. absurd (in_nothing x none)) (in_cons _ [] x one)) (Contains-append_cases w.1.participants _ x c);
  }
  effect_told no_call w _ h (touches k name p q posts is touching) = record { sessions = h.sessions; received = h.received }
  effect_told no_call w _ h (renews k name p q posts set is renewing) =
      record { sessions = each_filtered (λ (s : NamedSession). AreHeardOf Of s.session) _ w.0.sessions h.sessions; received = told_now w.1 p.name set h.received }
  effect_told no_call w _ h (opens name log pieces s t new sends begins) =
      record { sessions = each_append (λ (x : NamedSession). AreHeardOf Of x.session) w.0.sessions (record { name = name; session = t } ∷ []) h.sessions (begun_heard w.0 s t begins, tt); received = h.received }
  effect_told no_call w next h (plays _ r name c end _ ringed is) = absurd (no_call (is_call is))

  later_told : {k : Command} → (IsCall k → ⊥) → (w next : Played) → LaterEffect hss_judged w k next → ToldOf w → ToldOf next
  later_told no_call w _ (publishes k alone r p end ringed is over runs) h = past_runs runs ((λ e. cc e), refl) (record { sessions = h.sessions; received = h.received })
  later_told no_call w _ (later_replies k ended said) h = absurd (no_call (ends_call k ended))

  pub other_told : (w next : Played) (output : List ℕ) (c : Command) → (IsCall c → ⊥) → Does hss_judged w c (Goes next output) → ToldOf w → ToldOf next
  other_told w next output c no_call does h = by_effects ToldOf (λ v effect. effect_told no_call w v h effect) (later_told no_call) (lines_have_effects w next c output does)

-- ---- runs and lines, in such a ring

-- content that was met, or a head that left
abbrev pub HeldIn : World → Key → List ℕ → Type 0
HeldIn last key b = OfContent last key b ⊎ OfHeads last key b

held_as : (last : World) (kind : BlockKind) (key : Key) (b : List ℕ) → IsOf last key kind b → HeldIn last key b
held_as last Content key b h = inl h
held_as last Head key b h = inr h

module _ (ring : Stretch) (last : World) (then_more : IsMore ring.end last) where
  abbrev Held : Key → List ℕ → Type 0
  Held key b = OfContent last key b ⊎ OfHeads last key b

  abbrev Up : World → Type 0
  Up v = IsMore v ring.end

  less_up : (v next : World) → IsMore v next → IsMore next ring.end → IsMore v ring.end
  less_up v next more up = more_then v next ring.end more up

  all_held : (v : World) (st : GhostState) → IsGood ring v st → AllHoldOf Held v
  all_held v st g id n at key block found = held_as last block.kind key block.bytes (of_more ring.end last then_more key block.kind block.bytes ((g.orderly id n at).kinds key block found))

  -- a configuration in such a ring
  record IsWell (c : Configuration) : Type 0 where
    still : IsRingOf ring c.world
    good : IsGood ring c.world c.ghost_state
    step : InStep ring c.world c.session

  abbrev Told : Configuration → Type 0
  Told c = IsToldIn Held c.world.sessions c.ghost_state.participants × AreHeardOf Held c.session

  well_then : (name : List ℕ) {c next : Configuration} → Steps hss_judged ring.r name c next → Up next.world → IsWell c → IsWell next
  well_then name {c} {next} step up h =
      let g = step_goes ring name step in
      let both = g.good up h.still h.good h.step in
      record { still = kept_ring ring c.world next.world g.still h.still; good = both.0; step = both.1 }

  runs_told : (name : List ℕ) {c end : Configuration} → RunsOut hss_judged ring.r name c end → Up end.world → IsWell c → Told c → Told end
  runs_told name (runs_over said over) up well h = h
  runs_told name {c} (runs_more {between = between} {next = end} step rest) up well h =
      runs_told name rest up (well_then name step (less_up between.world end.world (runs_go ring name rest).grows up) well) (step_told Held (all_held c.world c.ghost_state well.good) h step)

  steps_told : (name : List ℕ) {count : ℕ} {c end : Configuration} → StepsOn hss_judged ring.r name count c end → Up end.world → IsWell c → Told c → Told end
  steps_told name steps_none up well h = h
  steps_told name (steps_over said over) up well h = h
  steps_told name (steps_more {c = c} {between = between} {next = end} step rest) up well h =
      steps_told name rest up (well_then name step (less_up between.world end.world (steps_go ring name rest).grows up) well) (step_told Held (all_held c.world c.ghost_state well.good) h step)

  -- ---- lines

  abbrev pub ToldIn : Played → Type 0
  ToldIn w = IsToldIn Held w.0.sessions w.1.participants

  replied_up : (w : World) (said : Said) → Up (replied w said) → Up w
  replied_up w said = by (is_some said.message)
    where
      by : (t : Bool) → Up (cond t (record w { replies = w.replies ++ record { handle = said.handle; verifier = said.verifier } ∷ [] }) w) → Up w
      by true up = record { met = up.met; left = up.left }
      by false up = up

  replied_told : (w : World) (ks : List Knowing) (said : Said) → IsToldIn Held w.sessions ks → IsToldIn Held (replied w said).sessions ks
  replied_told w ks said h = by (is_some said.message)
    where
      by : (t : Bool) → IsToldIn Held (cond t (record w { replies = w.replies ++ record { handle = said.handle; verifier = said.verifier } ∷ [] }) w).sessions ks
      by true = h
      by false = h

  one_r : (a b : ℕ) → Some a ≡ Some b → a ≡ b
  one_r a b e = cc e

  good_begun : (w : Played) → IsGood ring w.0 w.1 → IsGood ring w.0 (having_begun w.1)
  good_begun w g = record { orderly = g.orderly; acked = g.acked; pending = g.pending; sessions = g.sessions }

  placed_all : (P : Session → Type 0) (name : List ℕ) (s : Session) (xs : List NamedSession) → P s → AllByRecursion (λ x. P x.session) xs → AllByRecursion (λ x. P x.session) (map (λ (x : NamedSession). cond (bytes_eq x.name name) (record { name = name; session = s }) x) xs)
  placed_all P name s [] h all = tt
  placed_all P name s (x ∷ xs) h all = (by (bytes_eq x.name name), placed_all P name s xs h all.1)
    where
      by : (b : Bool) → P (cond b (record { name = name; session = s }) x).session
      by true = h
      by false = all.0

  module _ (w : Played) (ringed : w.0.replicas ≡ Some ring.r) (still : IsRingOf ring w.0) (good : IsGood ring w.0 w.1) (h : ToldIn w) where
    as_told : (log : List ℕ) (o : Option Sending) (next : Played) (output : List ℕ) → Up next.0 → AsLine hss_judged w o (Goes next output) → ToldIn next
    as_told log _ _ _ up (calls s k t end said also begins_it runs over) =
        let c : Configuration = record { world = w.0; ghost_state = having_begun w.1; session = t; began = beginning w.1 s.by.name } in
        let mine : RunsOut hss_judged ring.r s.by.name c end = subst (λ x. RunsOut hss_judged x s.by.name c end) (one_r k ring.r (sym also ∙ ringed)) runs in
        replied_told end.world end.ghost_state.participants said
        (runs_told s.by.name mine (replied_up end.world said up) (record { still = still; good = good_begun w good; step = sent_step ring w.0 s t still begins_it }) (record { sessions = h.sessions; received = h.received }, begun_heard Held w.0 s t begins_it)).0

    step_line_told : (name : List ℕ) (count : ℕ) (o : Option Session) → session_named w.0 name ≡ o → (next : Played) (output : List ℕ) → Up next.0 → StepLine hss_judged w name count o (Goes next output) → ToldIn next
    step_line_told name count _ is _ _ up (steps s k end counts also on) =
        let c : Configuration = configuration_of w s (began_of w.1 name) in
        let mine : StepsOn hss_judged ring.r s.by count c end = subst (λ x. StepsOn hss_judged x s.by count c end) (one_r k ring.r (sym also ∙ ringed)) on in
        let told = steps_told s.by mine (record { met = up.met; left = up.left }) (record { still = still; good = good; step = session_in (InStep ring w.0) w.0.sessions name s is good.sessions })
        (record { sessions = h.sessions; received = h.received }, session_in (AreHeardOf Held) w.0.sessions name s is h.sessions) in
        record { sessions = placed_all (AreHeardOf Held) name end.session end.world.sessions told.1 told.0.sessions; received = told.0.received }

    finish_told : (name : List ℕ) (o : Option Session) → session_named w.0 name ≡ o → (next : Played) (output : List ℕ) → Up next.0 → FinishLine hss_judged w name o (Goes next output) → ToldIn next
    finish_told name _ is _ _ up (ends s k end said also runs over) =
        let c : Configuration = configuration_of w s (began_of w.1 name) in
        let mine : RunsOut hss_judged ring.r s.by c end = subst (λ x. RunsOut hss_judged x s.by c end) (one_r k ring.r (sym also ∙ ringed)) runs in
        let upto = replied_up (without_session end.world name) said up in
        let told = runs_told s.by mine (record { met = upto.met; left = upto.left }) (record { still = still; good = good; step = session_in (InStep ring w.0) w.0.sessions name s is good.sessions })
        (record { sessions = h.sessions; received = h.received }, session_in (AreHeardOf Held) w.0.sessions name s is h.sessions) in
        replied_told (without_session end.world name) end.ghost_state.participants said (record { sessions = each_filtered (λ (x : NamedSession). AreHeardOf Held x.session) _ end.world.sessions told.0.sessions; received = told.0.received })

    pub command_told : (c : Command) (next : Played) (output : List ℕ) → Up next.0 → Does hss_judged w c (Goes next output) → ToldIn next
    command_told (command.As log pieces) next output up does = as_told log (sending_of w.0 log pieces) next output up does
    command_told (command.Step session count) next output up does = step_line_told session count (session_named w.0 session) refl next output up does
    command_told (command.Finish session) next output up does = finish_told session (session_named w.0 session) refl next output up does
    command_told c next output up does = other_told Held w next output c (λ call. call) does h

-- ---- lines

module _ (r : ℕ) (last : World) (v mid : Played) (output : List ℕ) (room : IsWithinLimit v.0) (apart : AreApart mid.0) (grows : IsMore v.0 mid.0) (more : IsMore mid.0 last) where
  line_told : {since between : Since} {c : Command} → IsCalm v.0 r since c between → Does hss_judged v c (Goes mid output) → IsState r v.0 v.1 since → IsToldIn (HeldIn last) v.0.sessions v.1.participants → IsToldIn (HeldIn last) mid.0.sessions mid.1.participants
  line_told (rounds since none) does s h = other_told (HeldIn last) v mid output command.Round (λ call. call) does h
  line_told (joins number none) does s h = other_told (HeldIn last) v mid output (command.Join number) (λ call. call) does h
  line_told (stops count node none short two) does s h = other_told (HeldIn last) v mid output (command.Stop node) (λ call. call) does h
  line_told (other count c quiet) does s h =
      command_told (stretch r s.base s.links s.start count s.stands mid.0 apart) last more v s.still.replicas s.still (good_onward (on r count v s) mid.0 apart room grows v.0 v.1 s.good) h c mid output (same_more mid.0) does

calmly_told : (r : ℕ) {v w : Played} {since after : Since} {lines : List (List ℕ)} → Calmly r v since lines w after → AreApart w.0 → HasFacts r v.0 since → IsState r v.0 v.1 since → IsToldIn (HeldIn w.0) v.0.sessions v.1.participants → IsToldIn (HeldIn w.0) w.0.sessions w.1.participants
calmly_told r calmly_none apart f s h = h
calmly_told r (calmly_more {w = v} {mid = mid} {next = w} {line = line} c output is calm step rest) apart f s h =
    let done = calm_does v mid line output c is step in
    let one = line_facts r v mid output calm done.1 f in
    let later = facts_on r rest one.0 in
    let apart_mid = fewer_apart mid.0 w.0 later.1 apart in
    let room = has_room v mid output (command_of line) step in
    calmly_told r rest apart one.0 (line_state r v mid output calm done.1 room apart_mid f s) (line_told r w.0 v mid output room apart_mid one.1 later.1 calm done.1 s h)

-- ---- the whole

module _ (lines_keep : LinesKeep) (r : ℕ) (w : Played) (count : ℕ) (lines : List (List ℕ)) (calm : IsCalmAt r w (Stopped count) lines) where
  keeps : Invariant w
  keeps = calmly_keeps lines_keep r w (Stopped count) lines calm

  first : IsFirst r (fresh r w (Stopped count) lines calm) calm.made
  first = first_of (fresh r w (Stopped count) lines calm) calm.made calm.count r (rings r w (Stopped count) lines calm)

  told : IsToldIn (HeldIn w.0) w.0.sessions w.1.participants
  told =
      let apart = apart_at r w (Stopped count) lines calm in
      let facts = first_facts r w (Stopped count) lines calm in
      let run = calmly r w (Stopped count) lines calm in
      calmly_told r run apart facts (first_state r w (Stopped count) lines calm (fewer_apart calm.made w.0 (facts_on r run facts).1 apart))
      (record { sessions = subst (AllByRecursion (λ (s : NamedSession). AreHeardOf (HeldIn w.0) s.session)) (sym (ap (λ (v : World). v.sessions) first.rest)) tt; received = λ k m. absurd (in_nothing k m) })

  left_its_agent : (e : Entry) (q : Participant) → Contains w.0.participants q → e.0 ≡ head_key_of (own_hss_key q.agent) → EntryOf (HeldIn w.0) e → (p : Participant) × Contains w.0.participants p × (own_hss_key p.agent ≡ own_hss_key q.agent) × IsLeftBy p e
  left_its_agent e q q_in of_log (b, j, inl content, judged, is) = absurd (calm.no_key q q_in (subst (Contains w.0.met) clash content.0))
    where
      clash : b ≡ (own_hss_key q.agent).0
      clash = block_is_key w keeps calm.apart b q content.0 q_in (content.1 ∙ of_log)
  left_its_agent e q q_in of_log (b, j, inr (in_met, left, some), judged, is) = (left.1, p_in, owner, (b, j, left.3, judged, is))
    where
      p_in : Contains w.0.participants left.1
      p_in = (found_named w.0.participants left.0 left.1 left.2).0

      owner : own_hss_key left.1.agent ≡ own_hss_key q.agent
      owner = one_own_key w keeps calm.apart left.1 q p_in q_in (sym (left_under w left.1 b e.0 keeps p_in left.3 some) ∙ of_log)

  pub received_left : (name : List ℕ) (e : Entry) (q : Participant) → Contains (knowing_of w.1 name).received e → Contains w.0.participants q → e.0 ≡ head_key_of (own_hss_key q.agent) → (p : Participant) × Contains w.0.participants p × (own_hss_key p.agent ≡ own_hss_key q.agent) × IsLeftBy p e
  received_left name e q c q_in of_log = left_its_agent e q q_in of_log (each (EntryOf (HeldIn w.0)) (knowing_of w.1 name).received e (received_of (HeldIn w.0) w.1 name told.received) c)

pub received_heads_left : LinesKeep → ReceivedHeadsLeft
received_heads_left lines_keep r w count lines name e q calm c q_in of_log = received_left lines_keep r w count lines calm name e q c q_in of_log
