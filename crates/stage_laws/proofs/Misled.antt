-- Where no line makes a snapshot no refresh is misled: each session begins with an edge of each log that it holds.
use Rattle.std.proofs.Common.{◌≡◌, ◌⊎◌, inl, inr, ⊎_elim, ℕ, ◌≤◌, Bool, true, false, cond, not, List, [], ◌∷◌, ◌++◌, Option, Some, None, refl, sym, ap, ◌∙◌, subst, arith, Contains}
use Rattle.std.specs.Prelude.{is_some}
use Rattle.std.specs.List.{AllByRecursion}
use Rattle.std.specs.Str.{bytes_eq}
use Rattle.std.proofs.lemmas.List.Elements.{Contains-append_cases}
use Rattle.ivy_base.specs.declared.key.Key.{Key}
use Rattle.ivy_base.specs.declared.key.PubKey.{PubKey}
use Rattle.ivy_base.specs.Naming.{IsCollisionFree}
use Rattle.log_model.specs.Record.{Record}
use Rattle.log_model.specs.Vector.{Stamp, Vector}
use Rattle.log_model.specs.View.{View}
use Rattle.log_model.proofs.Lists.{each, from_filter, in_cons, in_nothing}
use Rattle.turn_model.specs.Basis.{Holding, Knows, fresh_basis}
use Rattle.dht_ids.specs.declared.ask.Answer.{Answer}
use Rattle.dht_ids.specs.declared.ask.Ask.{Ask}
use Rattle.dht_ids.specs.declared.peer.Peer.{Peer}
use Rattle.dhash_model.specs.Signed.{hss_judged}
use Rattle.agent_model.specs.Agent.{joined}
use Rattle.agent_model.specs.Candidates.{IsMisled}
use Rattle.agent_model.specs.Standing.{Standing, begun_again_in, edges_of}
use Rattle.agent_model.specs.Turning.{Answered, TurnEnd}
use Rattle.session_model.specs.Brought.{brought_in, heads_at}
use Rattle.session_model.specs.Executions.{Fails, LacksMemory, Settles, grounds_of}
use Rattle.session_model.specs.Executions.Begins.{alone as begins_alone, refreshes as begins_refreshing}
use Rattle.session_model.specs.Executions.Fails.{fails, goes_on}
use Rattle.session_model.specs.Executions.LacksMemory.{lacks as lacks_any}
use Rattle.session_model.specs.Executions.Settles.{settles as settles_all}
use Rattle.session_model.specs.Executions.TakesTurn.{answers as turn_answers, begins_again, gives_up}
use Rattle.session_model.specs.Sessions.{Cache, Hears, Session, Takes, TakesAll, TakesSome}
use Rattle.session_model.specs.Sessions.Hears.{gets_on, got, puts, puts_on}
use Rattle.session_model.specs.Sessions.Takes.{cached, posted}
use Rattle.session_model.specs.Sessions.TakesAll.{more as all_more, none as all_none}
use Rattle.session_model.specs.Sessions.TakesSome.{more as some_more, none as some_none}
use Rattle.script_driver.specs.Run.{Goes, Obeys, shown}
use Rattle.script_model.specs.Lines.{command_of}
use Rattle.script_model.specs.declared.command.Command.{Command}
use Rattle.script_model.specs.declared.command.Command.TheVariants as command
use Rattle.script_model.specs.declared.command.Piece.{Piece}
use Rattle.world_model.specs.Agents.{HssAgent, HssKept, HssTurning, TakesHssTurn, hss_signing, hss_standing_in}
use Rattle.world_model.specs.Calls.{BeginsWith, Sending, configuration_of, sending_of}
use Rattle.world_model.specs.Logs.{Played}
use Rattle.world_model.specs.Step.{Does, IvyStep}
use Rattle.world_model.specs.Steps.{Acts, Configuration, RunsOut, Steps, StepsOn, after_turn, turning_of, with_cache}
use Rattle.world_model.specs.Steps.Acts.{asks as acts_asks, asks_in_vain, is_refused, settles as acts_settles, turns as acts_turns}
use Rattle.world_model.specs.Steps.RunsOut.{is_over as runs_over, more as runs_more}
use Rattle.world_model.specs.Steps.Steps.{acts, lacks_memory}
use Rattle.world_model.specs.Steps.StepsOn.{is_over as steps_over, more as steps_more, none as steps_none}
use Rattle.world_model.specs.GhostState.{HadTurn, began_of, empty_ghost_state, knowing_of, known_of}
use Rattle.world_model.specs.World.{NamedSession, Participant, World, empty_world, named_bytes, participant, session_named}
use Rattle.calm_laws.proofs.KeysStay.{command_stays, names_stay}
use Rattle.world_laws.specs.Effects.{Effect, Effects, EndsSession, LaterEffect, Plays, PublishesAlone}
use Rattle.world_laws.specs.Effects.Effect.{comes, loses, makes_view, of_nodes, opens, plays, renews, shows, times, touches}
use Rattle.world_laws.specs.Effects.Effects.{once, twice}
use Rattle.world_laws.specs.Effects.LaterEffect.{publishes, replies}
use Rattle.world_laws.specs.Effects.Plays.{calls, ends, steps}
use Rattle.world_laws.specs.Laws.{IsCall, MakesNoSnapshot}
use Rattle.world_laws.specs.Moves.{Move, Moves}
use Rattle.world_laws.specs.Moves.Move.{asks, hears, lacks, settles, takes, turns}
use Rattle.world_laws.specs.Invariant.{HasNoSnapshot, IsInHand, IsSoundIn, Invariant}
use Rattle.world_laws.proofs.AllLines.{does_line}
use Rattle.world_laws.proofs.CallConfigurations.{begun_well, open_well}
use Rattle.world_laws.proofs.EachLine.{each_line_keeps}
use Rattle.world_laws.proofs.Effects.{lines_have_effects}
use Rattle.world_laws.proofs.FirstWorld.{empty_keeps}
use Rattle.world_laws.proofs.HeadlineOfLines.{others_have_no_turn}
use Rattle.world_laws.proofs.Moves.{all_moves, runs_move, steps_move}
use Rattle.world_laws.proofs.NoSnapshotLines.{no_snapshot_comes}
use Rattle.world_laws.proofs.NodeFates.{fate_rest}
use Rattle.world_laws.proofs.Opening.{sent_by}
use Rattle.world_laws.proofs.RingLines.{fates_rest}
use Rattle.world_laws.proofs.Bringing.{found_named, some_same}
use Rattle.world_laws.proofs.Frames.{same_keys}
use Rattle.world_laws.proofs.NotMisled.{fresh_standings_dont_mislead}
use Rattle.world_laws.proofs.OneSteps.{GoesWell, apart_then, step_names}
use Rattle.world_laws.proofs.Placed.{found_in_place}
use Rattle.world_laws.proofs.SecondTurns.{started_held}
use Rattle.world_laws.proofs.SessionLinesSteps.{Leads, step_leads}
use Rattle.stage_laws.specs.Misled.{IsNotMisled, NoTurnIsMisled}
use Rattle.stage_laws.proofs.Told.{in_place, session_in}

-- ---- what a session begins with

-- what is known when the session begins counts for nothing here
other_knew : {heads : Key → List Stamp} {met : List (List ℕ)} {s : Standing} {knew others : List Record} {view : View} {started : Vector} {owner : PubKey} {records : List Record}
    → IsMisled (record { heads = heads; met = met; standing = s; knew = knew }) view started owner records → IsMisled (record { heads = heads; met = met; standing = s; knew = others }) view started owner records
other_knew m = record { of_other = m.of_other; from = m.from; starts = m.starts; no_edge = m.no_edge; head = m.head; tried = m.tried; taken = m.taken; first = m.first; no_chain = m.no_chain }

-- It loads no snapshot, and isn't misled where it starts from what is held, whatever the heads and the blocks.
record IsClear (s : Standing) : Type 0 where
  to_load : s.to_load ≡ None
  clear : (heads : Key → List Stamp) (met : List (List ℕ)) (knew : List Record) (owner : PubKey) (records : List Record) → Contains s.view.members owner
      → IsMisled (record { heads = heads; met = met; standing = s; knew = knew }) s.view s.held owner records → ⊥

fresh_clear : (s : Standing) (of : Holding) (known : List Record) → Knows s.view s.floor of known → of.basis ≡ fresh_basis → s.held ≡ joined of → s.edges ≡ edges_of of → s.to_load ≡ None → IsClear s
fresh_clear s of known knows fresh held edges none = record {
  to_load = none;
  clear = λ heads met knew owner records member m.
      fresh_standings_dont_mislead (record { heads = heads; met = met; standing = s; knew = known }) s.view of owner records knows fresh held edges member (other_knew m);
}

clear_not_misled : (met : List (List ℕ)) (s : Session) (knew : List Record) → IsClear s.standing → IsNotMisled met s knew
clear_not_misled met s knew is notes given owner records done member m =
    is.clear (heads_at (brought_in s.parts)) met knew owner records member (subst (λ (v : Vector). IsMisled (grounds_of met s knew) s.standing.view v owner records) (started_held done is.to_load) m)

-- what a participant's agent in a view knows, where no names collide
agent_knows : (w : Played) → Invariant w → IsCollisionFree (named_bytes w.0) → (p : Participant) → Contains w.0.participants p → (view : View) → p.agent.view ≡ Some view
    → Knows view p.agent.floor p.agent.holding (known_of w.1 p.name)
agent_knows w keeps apart p among view in_view =
    (subst (IsSoundIn w.0.met p (knowing_of w.1 p.name)) in_view (each (λ (q : Participant). IsSoundIn w.0.met q (knowing_of w.1 q.name) q.agent.view) w.0.participants p (keeps.sound apart).agents among)).knows

-- a session begins so in a world without a snapshot,
begins_standing : (w : World) (s : Sending) (t : Session) → BeginsWith w s t → t.standing ≡ hss_standing_in s.by.agent s.view
begins_standing w s _ (begins_alone given by) = refl
begins_standing w s _ (begins_refreshing xid asked asking) = refl

begun_clear : (w : Played) → Invariant w → HasNoSnapshot w.0 → IsCollisionFree (named_bytes w.0) → (s : Sending) (t : Session) → Contains w.0.participants s.by → s.by.agent.view ≡ Some s.view → BeginsWith w.0 s t
    → IsClear t.standing
begun_clear w keeps none apart s t among in_view begins =
    let bare = each (λ (q : Participant). (q.agent.snapshot ≡ None) × (q.agent.to_load ≡ None) × (q.agent.holding.basis ≡ fresh_basis)) w.0.participants s.by none.agents among in
    subst IsClear (sym (begins_standing w.0 s t begins))
    (fresh_clear (hss_standing_in s.by.agent s.view) s.by.agent.holding (known_of w.1 s.by.name) (agent_knows w keeps apart s.by among s.view in_view) bare.2 refl refl bare.1)

-- and begins again so in any
again_clear : (r : ℕ) (next : Configuration) → Invariant (next.world, next.ghost_state) → IsInHand next r → IsCollisionFree (named_bytes next.world) → 1 ≤ next.session.starts
    → (q : Participant) → participant next.world next.session.by ≡ Some q → (view : View) → next.session.standing ≡ begun_again_in hss_signing q.agent view → IsClear next.session.standing
again_clear r next keeps hand apart again q is_q view is =
    let sound = hand.sound apart in
    let same : sound.by ≡ q = some_same sound.by q (sym sound.is_by ∙ is_q) in
    let his : hand.goes_on.by ≡ q = some_same hand.goes_on.by q (sym hand.goes_on.is_by ∙ is_q) in
    let in_view : q.agent.view ≡ Some view = subst (λ (p : Participant). p.agent.view ≡ Some next.session.standing.view) his hand.goes_on.in_view ∙ ap (λ (x : Standing). Some x.view) is in
    let fresh : q.agent.holding.basis ≡ fresh_basis = subst (λ (p : Participant). p.agent.holding.basis ≡ fresh_basis) same (sound.anew again).1 in
    subst IsClear (sym is)
    (fresh_clear (begun_again_in hss_signing q.agent view) q.agent.holding (known_of next.ghost_state q.name)
    (agent_knows (next.world, next.ghost_state) keeps apart q (found_named next.world.participants next.session.by q is_q).0 view in_view) fresh refl refl refl)

-- ---- steps

-- the session of a configuration is clear where no names collide, and so was that of each turn
record IsClearOn (c : Configuration) : Type 0 where
  session : IsCollisionFree (named_bytes c.world) → IsClear c.session.standing
  turns : (h : HadTurn) → Contains c.ghost_state.turns h → IsCollisionFree h.met → IsClear h.session.standing

module _ (r : ℕ) where
  takes_standing : {s t : Session} {cache after : Cache} → Takes hss_judged r s cache t after → t.standing ≡ s.standing
  takes_standing (posted key bytes wants none is) = refl
  takes_standing (cached key bytes wants none missing is) = refl

  takes_all_standing : {s t : Session} {cache after : Cache} → TakesAll hss_judged r s cache t after → t.standing ≡ s.standing
  takes_all_standing (all_none none) = refl
  takes_all_standing (all_more first rest) = takes_all_standing rest ∙ takes_standing first

  takes_some_standing : {s t : Session} {cache after : Cache} → TakesSome hss_judged r s cache t after → t.standing ≡ s.standing
  takes_some_standing some_none = refl
  takes_some_standing (some_more first rest) = takes_some_standing rest ∙ takes_standing first

  hears_standing : {s heard : Session} {cache after : Cache} {node : Peer} {question : Ask} {answer : Answer} → Hears hss_judged r s cache node question answer heard after → heard.standing ≡ s.standing
  hears_standing (gets_on want wants next part) = refl
  hears_standing (got want brought wants next whole) = refl
  hears_standing (puts_on said p posts acks at next part) = refl
  hears_standing (puts said p posts acks came at next whole) = refl

  fails_standing : {s t : Session} → Fails s t → t.standing ≡ s.standing
  fails_standing (fails notes given miss xid asked at refreshed asks_it) = refl
  fails_standing (goes_on none) = refl

  lacks_standing : {s t : Session} → LacksMemory s t → t.standing ≡ s.standing
  lacks_standing (lacks_any notes shown given end xid asked at refreshed asks_it rest front) = refl

  settles_standing : {a after : HssAgent} {s t : Session} → Settles a s after t → t.standing ≡ s.standing
  settles_standing (settles_all said acks at) = refl

  -- after a turn it is as it was, or the session began again
  record BeganAgain (turning : HssTurning) (s : Session) (after : HssAgent) (t : Session) : Type 0 where
    standing : t.standing ≡ begun_again_in hss_signing after turning.view
    starts : 1 ≤ t.starts

  turn_standing : (turning : HssTurning) (s : Session) (end : TurnEnd) (after : HssAgent) (saving : Option HssKept) (t : Session) → TakesHssTurn turning s end after saving t → (t.standing ≡ s.standing) ⊎ BeganAgain turning s after t
  turn_standing turning s _ _ _ _ (turn_answers notes given xid asked reply applied after saving done asks_it turned) = inl refl
  turn_standing turning s _ _ _ _ (begins_again notes given xid asked end after saving done asks_it turned refused few) = inr (record { standing = refl; starts = omega arith })
  turn_standing turning s _ _ _ _ (gives_up notes given xid asked end after saving done asks_it turned refused many) = inl refl

  module _ (c : Configuration) (well : GoesWell r c) (h : IsClearOn c) where
    -- as long as it begins with the same
    still : (next : Configuration) → Steps hss_judged r c.session.by c next → next.session.standing ≡ c.session.standing → IsCollisionFree (named_bytes next.world) → IsClear next.session.standing
    still next step same apart = subst IsClear (sym same) (h.session (apart_then c.world next.world (step_names r c well.keeps step) apart))

    module _ (p : Participant) (taken : Session) (cache : Cache) (is_p : participant c.world c.session.by ≡ Some p) (takes : TakesAll hss_judged r c.session p.cache taken cache) where
      abbrev q : Participant
      q = record p { cache = cache }

      abbrev mid : Configuration
      mid = with_cache hss_judged r c p taken cache

      same_taken : taken.standing ≡ c.session.standing
      same_taken = takes_all_standing takes

      mid_apart : IsCollisionFree (named_bytes mid.world) → IsCollisionFree (named_bytes c.world)
      mid_apart apart = subst (λ (ks : List (List ℕ)). IsCollisionFree (c.world.met ++ ks)) (same_keys c.world well.keeps.apart c.session.by p is_p q refl refl) apart

      q_there : participant mid.world c.session.by ≡ Some q
      q_there = found_in_place c.world c.session.by p q is_p refl

      -- after a turn of its agent
      after_its_turn : (view : View) (end : TurnEnd) (after : HssAgent) (saving : Option HssKept) (t : Session) (next : Configuration) → Steps hss_judged r c.session.by c next → next.session ≡ t
          → (z : Participant) → participant next.world c.session.by ≡ Some z → z.agent ≡ after
          → TakesHssTurn (turning_of mid.world q view) taken end after saving t → IsCollisionFree (named_bytes next.world) → IsClear next.session.standing
      after_its_turn view end after saving t next step is z is_z its turn apart = by (turn_standing (turning_of mid.world q view) taken end after saving t turn)
        where
          led : Leads c next r
          led = step_leads r c.session.by c next refl well.keeps well.hand well.ringed step

          by : (t.standing ≡ taken.standing) ⊎ BeganAgain (turning_of mid.world q view) taken after t → IsClear next.session.standing
          by (inl same) = still next step (ap (λ (s : Session). s.standing) is ∙ same ∙ same_taken) apart
          by (inr again) = again_clear r next led.leaves.0 led.leaves.1 apart (subst (λ (s : Session). 1 ≤ s.starts) (sym is) again.starts) z
              (subst (λ (n : List ℕ). participant next.world n ≡ Some z) (sym led.same.call.0) is_z) view
              (ap (λ (s : Session). s.standing) is ∙ again.standing ∙ ap (λ (a : HssAgent). begun_again_in hss_signing a view) (sym its))

      act_clear : (next : Configuration) → Steps hss_judged r c.session.by c next → Acts hss_judged r q mid next → IsClearOn next
      act_clear _ step (acts_asks node question answer world heard t cache_then fate hearing goes) =
          record { session = still _ step (fails_standing goes ∙ hears_standing hearing ∙ same_taken); turns = h.turns }
      act_clear _ step (asks_in_vain node question answer world heard t cache_then fate hearing lacking) =
          record { session = still _ step (lacks_standing lacking ∙ same_taken); turns = h.turns }
      act_clear _ step (acts_turns view reply applied after saving t turned in_view turn same is_turn) =
          let z : Participant = record (after_turn q after saving) { work = applied } in
          record {
            session = after_its_turn view (Answered reply applied) after saving t _ step refl z (found_in_place mid.world c.session.by q z q_there refl) refl turn;
            turns = λ had among apart. ⊎_elim (λ old. h.turns had old apart)
                (λ new. ⊎_elim
                (λ e. subst (λ (x : HadTurn). IsCollisionFree x.met → IsClear x.session.standing) e
                (λ free. subst IsClear (sym same_taken) (h.session (mid_apart free))) apart)
                (λ none. absurd (in_nothing had none))
                (in_cons _ [] had new))
                (Contains-append_cases c.ghost_state.turns _ had among);
          }
      act_clear _ step (is_refused view end after saving t in_view refusal turn) =
          let z : Participant = after_turn q after saving in
          record { session = after_its_turn view end after saving t _ step refl z (found_in_place mid.world c.session.by q z q_there refl) refl turn; turns = h.turns }
      act_clear _ step (acts_settles after t settling) = record { session = still _ step (settles_standing settling ∙ same_taken); turns = h.turns }

    step_clear : (next : Configuration) → Steps hss_judged r c.session.by c next → IsClearOn next
    step_clear _ (acts p taken cache next is_p taking act) = act_clear p taken cache is_p taking next (acts p taken cache next is_p taking act) act
    step_clear _ (lacks_memory p taken t cache is_p taking lacking) =
        record { session = still _ (lacks_memory p taken t cache is_p taking lacking) (lacks_standing lacking ∙ takes_some_standing taking); turns = h.turns }

  well_then : {c next : Configuration} → GoesWell r c → Steps hss_judged r c.session.by c next → GoesWell r next × (next.session.by ≡ c.session.by)
  well_then {c} {next} w step =
      let led = step_leads r c.session.by c next refl w.keeps w.hand w.ringed step in
      (record { keeps = led.leaves.0; hand = led.leaves.1; ringed = led.same.replicas ∙ w.ringed }, led.same.call.0)

  its_step : {name : List ℕ} {c next : Configuration} → c.session.by ≡ name → Steps hss_judged r name c next → Steps hss_judged r c.session.by c next
  its_step {name} {c} {next} named step = subst (λ (n : List ℕ). Steps hss_judged r n c next) (sym named) step

  steps_clear : {name : List ℕ} {count : ℕ} {c next : Configuration} → StepsOn hss_judged r name count c next → c.session.by ≡ name → GoesWell r c → IsClearOn c → IsClearOn next
  steps_clear steps_none named w h = h
  steps_clear (steps_over said over) named w h = h
  steps_clear (steps_more {c = c} {between} step rest) named w h =
      let then_it = well_then w (its_step named step) in steps_clear rest (then_it.1 ∙ named) then_it.0 (step_clear c w h between (its_step named step))

  runs_clear : {name : List ℕ} {c next : Configuration} → RunsOut hss_judged r name c next → c.session.by ≡ name → GoesWell r c → IsClearOn c → IsClearOn next
  runs_clear (runs_over said over) named w h = h
  runs_clear (runs_more {c = c} {between} step rest) named w h =
      let then_it = well_then w (its_step named step) in runs_clear rest (then_it.1 ∙ named) then_it.0 (step_clear c w h between (its_step named step))

-- ---- lines

begins_by : (w : World) (s : Sending) (t : Session) → BeginsWith w s t → t.by ≡ s.by.name
begins_by w s _ (begins_alone given by) = refl
begins_by w s _ (begins_refreshing xid asked asking) = refl

-- each open session is clear where no names collide, and so was that of each turn
record IsClearIn (w : Played) : Type 0 where
  sessions : IsCollisionFree (named_bytes w.0) → (x : NamedSession) → Contains w.0.sessions x → IsClear x.session.standing
  turns : (h : HadTurn) → Contains w.1.turns h → IsCollisionFree h.met → IsClear h.session.standing

move_sessions : (r : ℕ) {name : List ℕ} (c next : Configuration) → Move hss_judged r name c next → next.world.sessions ≡ c.world.sessions
move_sessions r c _ (takes p taken cache is taking) = refl
move_sessions r c _ (asks node question answer next fate) = ap (λ (v : World). v.sessions) (fate_rest fate)
move_sessions r c _ (hears p node question answer next heard t cache is fate hearing goes) = ap (λ (v : World). v.sessions) (fate_rest fate)
move_sessions r c _ (lacks t lacking) = refl
move_sessions r c _ (turns p view end after saving t work ghost_state began is in_view taking told) = refl
move_sessions r c _ (settles p after t is settling) = refl

moves_sessions : (r : ℕ) {name : List ℕ} {c end : Configuration} → Moves hss_judged r name c end → end.world.sessions ≡ c.world.sessions
moves_sessions r {c = c} on = all_moves (λ (x : Configuration). x.world.sessions ≡ c.world.sessions) (λ x next move same. move_sessions r x next move ∙ same) on refl

later_sessions : {k : Command} (v next : Played) → LaterEffect hss_judged v k next → next.0.sessions ≡ v.0.sessions
later_sessions v _ (publishes k alone r p end ringed is over on) = moves_sessions r (runs_move on)
later_sessions v _ (replies k whole said) = by (is_some said.message)
  where
    by : (b : Bool) → (cond b (record (v.0) { replies = v.0.replies ++ record { handle = said.handle; verifier = said.verifier } ∷ [] }) v.0).sessions ≡ v.0.sessions
    by true = refl
    by false = refl

-- nothing comes after many steps
no_later_step : {k : Command} {v next : Played} (name : List ℕ) (count : ℕ) → LaterEffect hss_judged v k next → k ≡ command.Step name count → ⊥
no_later_step name count (publishes k alone r p end ringed is over on) same = subst PublishesAlone same alone
no_later_step name count (replies k whole said) same = subst EndsSession same whole

no_call : (k : Command) → PublishesAlone k → IsCall k → ⊥
no_call (command.Log log id seed sets) alone is = is
no_call (command.Snap log) alone is = is
no_call _ alone is = alone

module _ (w : Played) (keeps : Invariant w) (none : HasNoSnapshot w.0) (h : IsClearIn w) where
  sent_clear : (log : List ℕ) (pieces : List Piece) (s : Sending) → sending_of w.0 log pieces ≡ Some s → (t : Session) → BeginsWith w.0 s t → IsCollisionFree (named_bytes w.0) → IsClear t.standing
  sent_clear log pieces s sends t begins apart =
      let sent = sent_by w.0 log pieces s sends in begun_clear w keeps none apart s t (found_named w.0.participants log s.by sent.is_by).0 sent.in_view begins

  open_clear : (name : List ℕ) (s : Session) → session_named w.0 name ≡ Some s → IsClearOn (configuration_of w s (began_of w.1 name))
  open_clear name s is =
      let found = session_in w.0.sessions name s is in
      record { session = λ apart. subst (λ (x : Session). IsClear x.standing) found.2 (h.sessions apart found.0 found.1); turns = h.turns }

  played_clear : {k : Command} {r : ℕ} {name : List ℕ} {c end : Configuration} {next : Played} → w.0.replicas ≡ Some r → Plays hss_judged w r k name c end next → IsClearOn end
  played_clear {r = r} ringed (calls log pieces s t end sends begins runs over) =
      runs_clear r runs (begins_by w.0 s t begins) (begun_well w keeps r ringed log pieces s sends t begins) (record { session = sent_clear log pieces s sends t begins; turns = h.turns })
  played_clear {r = r} ringed (steps name count s end is going) = steps_clear r going refl (open_well w keeps r ringed name s is) (open_clear name s is)
  played_clear {r = r} ringed (ends name s end is runs over) = runs_clear r runs refl (open_well w keeps r ringed name s is) (open_clear name s is)

  played_sessions : {k : Command} {r : ℕ} {name : List ℕ} {c end : Configuration} {next : Played} → w.0.replicas ≡ Some r → Plays hss_judged w r k name c end next → IsCollisionFree (named_bytes w.0)
      → ((name : List ℕ) (count : ℕ) → k ≡ command.Step name count → IsCollisionFree (named_bytes next.0)) → (x : NamedSession) → Contains next.0.sessions x → IsClear x.session.standing
  played_sessions {r = r} ringed (calls log pieces s t end sends begins runs over) before now x among =
      h.sessions before x (subst (λ (l : List NamedSession). Contains l x) (moves_sessions r (runs_move runs)) among)
  played_sessions {r = r} ringed (steps name count s end is going) before now x among = ⊎_elim
      (λ its. subst (λ (y : Session). IsClear y.standing) (sym its) ((played_clear ringed (steps name count s end is going)).session (now name count refl)))
      (λ other. h.sessions before x (subst (λ (l : List NamedSession). Contains l x) (moves_sessions r (steps_move going)) other))
      (in_place end.world.sessions name end.session x among)
  played_sessions {r = r} ringed (ends name s end is runs over) before now x among =
      h.sessions before x (subst (λ (l : List NamedSession). Contains l x) (moves_sessions r (runs_move runs)) (from_filter (λ t. not (bytes_eq t.name name)) end.world.sessions x among).0)

  played_turns : {k : Command} {r : ℕ} {name : List ℕ} {c end : Configuration} {next : Played} → w.0.replicas ≡ Some r → Plays hss_judged w r k name c end next → next.1.turns ≡ end.ghost_state.turns
  played_turns ringed (calls log pieces s t end sends begins runs over) = refl
  played_turns ringed (steps name count s end is going) = refl
  played_turns ringed (ends name s end is runs over) = refl

  effect_sessions : {k : Command} (v : Played) → Effect hss_judged w k v → IsCollisionFree (named_bytes w.0) → ((name : List ℕ) (count : ℕ) → k ≡ command.Step name count → IsCollisionFree (named_bytes v.0))
      → (x : NamedSession) → Contains v.0.sessions x → IsClear x.session.standing
  effect_sessions _ (shows _ is) before now x among = h.sessions before x among
  effect_sessions _ (times sec nsec) before now x among = h.sessions before x among
  effect_sessions _ (loses count) before now x among = h.sessions before x among
  effect_sessions _ (of_nodes _ ring next is) before now x among = h.sessions before x (subst (λ (l : List NamedSession). Contains l x) (ap (λ (v : World). v.sessions) is.rest) among)
  effect_sessions _ (makes_view name names others members former r view next are also new own_keys small ringed is put) before now x among =
      h.sessions before x (subst (λ (l : List NamedSession). Contains l x) (ap (λ (v : World). v.sessions) (fates_rest put.fates)) among)
  effect_sessions _ (comes name id seed sets new) before now x among = h.sessions before x among
  effect_sessions _ (touches sort name p q posts is_p is) before now x among = h.sessions before x among
  effect_sessions _ (renews sort name p q posts set is_p is) before now x among = h.sessions before x (from_filter _ w.0.sessions x among).0
  effect_sessions _ (opens name log pieces s t new sends begins) before now x among = ⊎_elim (λ old. h.sessions before x old)
      (λ its. ⊎_elim (λ e. subst (λ (y : NamedSession). IsClear y.session.standing) e (sent_clear log pieces s sends t begins before)) (λ nothing. absurd (in_nothing x nothing))
      (in_cons (record { name = name; session = t }) [] x its))
      (Contains-append_cases w.0.sessions (record { name = name; session = t } ∷ []) x among)
  effect_sessions v (plays _ r name c end _ ringed is) before now x among = played_sessions ringed is before now x among

  effect_turns : {k : Command} (v : Played) → Effect hss_judged w k v → (had : HadTurn) → Contains v.1.turns had → IsCollisionFree had.met → IsClear had.session.standing
  effect_turns _ (shows _ is) = h.turns
  effect_turns _ (times sec nsec) = h.turns
  effect_turns _ (loses count) = h.turns
  effect_turns _ (of_nodes _ ring next is) = h.turns
  effect_turns _ (makes_view name names others members former r view next are also new own_keys small ringed is put) = h.turns
  effect_turns _ (comes name id seed sets new) = h.turns
  effect_turns _ (touches sort name p q posts is_p is) = h.turns
  effect_turns _ (renews sort name p q posts set is_p is) = h.turns
  effect_turns _ (opens name log pieces s t new sends begins) = h.turns
  effect_turns v (plays _ r name c end _ ringed is) = λ had among. (played_clear ringed is).turns had (subst (λ (l : List HadTurn). Contains l had) (played_turns ringed is) among)

  effects_clear : (k : Command) (next : Played) (output : List ℕ) → Does hss_judged w k (Goes next output) → Effects hss_judged w k next → (IsCollisionFree (named_bytes next.0) → IsCollisionFree (named_bytes w.0)) → IsClearIn next
  effects_clear k next output does (once effect) before =
      record { sessions = λ apart. effect_sessions next effect (before apart) (λ name count is. apart); turns = effect_turns next effect }
  effects_clear k next output does (twice {mid = mid} effect later) before = record {
    sessions = λ apart x among. effect_sessions mid effect (before apart) (λ name count is. absurd (no_later_step name count later is)) x (subst (λ (l : List NamedSession). Contains l x) (later_sessions mid next later) among);
    turns = by next later does;
  }
    where
      by : (last : Played) → LaterEffect hss_judged mid k last → Does hss_judged w k (Goes last output) → (had : HadTurn) → Contains last.1.turns had → IsCollisionFree had.met → IsClear had.session.standing
      by last (publishes _ alone r p end ringed is over on) it_does had among = h.turns had (subst (λ (l : List HadTurn). Contains l had) (others_have_no_turn k w last output (no_call k alone) it_does) among)
      by last (replies _ whole said) it_does had among = effect_turns mid effect had among

line_clear : (w next : Played) (line output : List ℕ) → Invariant w → HasNoSnapshot w.0 → IsClearIn w → IvyStep w line (Goes next output) → IsClearIn next
line_clear w next line output keeps none h step =
    let done = does_line w next output (command_of line) step in
    effects_clear w keeps none h done.0 next output done.2 (lines_have_effects w next done.0 output done.2) (names_stay w next line output keeps step (command_stays w next output keeps done.0 done.2))

-- ---- runs

obeyed_clear : (lines : List (List ℕ)) (text : List ℕ) (w last : Played) → Invariant w → HasNoSnapshot w.0 → IsClearIn w → AllByRecursion (λ line. MakesNoSnapshot (shown line)) lines → Obeys IvyStep w lines text last
    → IsClearIn last
unfolding Obeys
obeyed_clear [] text w last keeps none h make_none obeyed = subst IsClearIn (sym obeyed.1) h
obeyed_clear (line ∷ lines) text w last keeps none h make_none (next, output, more, step, later, is) =
    obeyed_clear lines more next last (each_line_keeps w next (shown line) output keeps step) (no_snapshot_comes w next (shown line) output keeps none make_none.0 step) (line_clear w next (shown line) output keeps none h step) make_none.1 later

pub no_turn_is_misled : NoTurnIsMisled
no_turn_is_misled lines text w make_none obeyed =
    let clear = obeyed_clear lines text (empty_world, empty_ghost_state) w empty_keeps (record { kept = tt; agents = tt })
    (record { sessions = λ apart x among. absurd (in_nothing x among); turns = λ had among. absurd (in_nothing had among) }) make_none obeyed in
    record {
      turns = λ had among apart. clear_not_misled had.met had.session had.began.knew (clear.turns had among apart);
      sessions = λ x among apart. clear_not_misled (named_bytes w.0) x.session (began_of w.1 x.name).knew (clear.sessions apart x among);
    }
