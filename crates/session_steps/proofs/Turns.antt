-- A turn of a call that is shown.
use Rattle.std.proofs.Common.{◌≡◌, ⊎_elim, ℕ, ◌<◌, true, false, List, Option, Some, None, Result, Ok, Err, refl, sym, ap, ◌∙◌, subst}
use Rattle.std.specs.Prelude.{IfSome, IsSomeAnd}
use Rattle.ivy_base.specs.declared.operation.Moment.{Moment}
use Rattle.hash_signature_model.specs.Signer.{Signer}
use Rattle.log_heads.specs.declared.judge.HssJudge.{HssJudge}
use Rattle.log_model.specs.View.{View}
use Rattle.agent_model.specs.Turning.{BelowTide, Behind, TurnEnd}
use Rattle.session_model.specs.Executions.{LacksMemory}
use Rattle.session_model.specs.Sessions.{Cache, Refreshing, Session}
use Rattle.log_fetch.specs.declared.asked.Asked.{Asked}
use Rattle.log_fetch.specs.declared.refresh.Refresh.{Refresh}
use Rattle.log_fetch.specs.declared.turned.Turned.{Turned}
use Rattle.log_fetch.specs.declared.turned.TurnFault.{TurnFault}
use Rattle.log_fetch.specs.declared.turned.TurnFault.TheVariants as fault
use Rattle.log_fetch.specs.Standings.{asked_of, refresh_of}
use Rattle.ivy_agent.specs.Answering.{IsCall}
use Rattle.ivy_agent.specs.Holders.{Holder}
use Rattle.ivy_agent.specs.Turns.{IsFetchedIn}
use Rattle.ivy_session.specs.declared.session.Next.TheVariants as next
use Rattle.ivy_session.specs.declared.session.Stage.{Stage}
use Rattle.ivy_session.specs.declared.session.Stage.TheVariants as stage
use Rattle.ivy_session.specs.States.{IsSession, SessionState, asked_at, is_turning}
use Rattle.ivy_session.specs.Stepping.{IsNext, IsTurned, NextIs}
use Rattle.ivy_session.specs.Stepping.NextIs.{turns}
use Rattle.ivy_session.proofs.Ended.{lacking_is_over, over_asks_nothing}
use Rattle.ivy_session.proofs.Staying.{taken_same}
use Rattle.session_steps.specs.MetState.{AreMet, MetState}
use Rattle.script_model.specs.Messages.{Given}
use Rattle.script_participants.specs.ParticipantState.{ParticipantState, counting, state_of}
use Rattle.script_participants.specs.Turning.{HasTurn, TakesTurn, work_after}
use Rattle.world_model.specs.Keepers.{Keeper}
use Rattle.world_model.specs.Steps.{Configuration, met_by, world_after}
use Rattle.world_model.specs.World.{Participant, World, with_participant}
use Rattle.world_laws.specs.Invariant.{IsAtPuts, IsInHand}
use Rattle.session_steps.specs.Configurations.{GivesTurn, GivesTurnThere, HadTurn, IsConfigurationOf, IsStep, given_at, given_by, given_of, turned_participant}
use Rattle.session_steps.specs.Representing.{CallState, HasConfiguration, IsInProgress, IsUntold, Shown, Represents, StepsTo, judges, shown}
use Rattle.session_steps.specs.Within.{BeginsAgain, CountsAsMade, HasNext, HasTurned, Laws, LeftBy, MayTurn}
use Rattle.session_steps.proofs.Configurations.{IsLeftSo, by_step, left_is, same_nodes, configuration_of, untold}
use Rattle.session_steps.proofs.Asks.{wants_there, with_cache}

-- ---- where a turn is wanted, the session refreshes

-- and in code too it began again so often
turn_at : {old new : SessionState HssJudge} {s : Session} {before after : Cache} {refresh : Refresh} → NextIs judges old new s before after (next.Turn refresh) → (s.stage ≡ Refreshing) × (new.starts ≡ s.starts)
turn_at (turns t notes refresh takes session turning refreshed batch) = (
  sym (ap (λ (u : Session). u.stage) (taken_same takes)) ∙ refreshed.0,
  session.starts ∙ ap (λ (u : Session). u.starts) (taken_same takes),
)

some_asked : (at : Stage HssJudge) → is_turning at ≡ true → (asked : Asked) × (asked_at at ≡ Some asked)
some_asked (stage.Refreshing call fetch) is = (call.asked, refl)
some_asked (stage.Turning call) is = (call.asked, refl)
some_asked (stage.Publishing told posts) is = cc is
some_asked (stage.Over told) is = cc is
some_asked stage.Told is = cc is

-- ---- what came of it

abbrev holder : ParticipantState → Holder Keeper Signer
holder who = record { agent = who.agent; keeper = who.keeper }

in_view : (P Q : View → Type 0) (o : Option View) → IsSomeAnd o Q → IfSome o P → (view : View) × P view
in_view P Q None some is = absurd some
in_view P Q (Some view) some is = (view, is)

there : (P Q : View → Type 0) → ((view : View) → P view → Q view) → (o : Option View) → IfSome o P → IfSome o Q
there P Q each None is = tt
there P Q each (Some view) is = each view is

-- of a participant with another cache
module _ (p : Participant) (cache : Cache) (view : View) (refresh : Refresh) (asked : Asked) (now : Moment) where
  module _ {end : TurnEnd} {after : ParticipantState} (turn : HasTurn view (refresh_of refresh) (asked_of asked) now (state_of (record p { cache = cache })) end after) where
    had : HadTurn p view refresh asked now end (holder after)
    had = record { saving = turn.saving; turns = turn.turns; keeper = ap (λ (who : ParticipantState). who.keeper) turn.then_is }

    -- the participant then, whose records count as made
    counted : state_of (record (turned_participant (record p { cache = cache }) (holder after)) { work = work_after end p.work }) ≡ counting after
    counted = sym (ap counting (turn.then_is
        ∙ ap (λ (keeper : Keeper). record (state_of (record p { cache = cache })) { agent = after.agent; keeper = keeper; work = work_after end p.work }) (sym (ap (λ (who : ParticipantState). who.keeper) turn.then_is))))

  gives : (turned : Result Turned TurnFault) (after : ParticipantState) → TakesTurn view (refresh_of refresh) (asked_of asked) now (state_of (record p { cache = cache })) turned after → GivesTurn p view refresh asked now turned (holder after)
  gives (Ok turned) after t = (t.reply, had t.has_turn, t.gives)
  gives (Err fault.Memory) after same = ap holder same
  gives (Err (fault.Behind standing)) after t = (had t.has_turn, t.anew)
  gives (Err (fault.BelowTide standing)) after t = (had t.has_turn, t.anew)

-- ---- of a configuration that is represented

module _ (c : Configuration) (r : ℕ) (old : Shown) (way : IsInProgress c r) (shows : Represents c r old) (none : old.call.told ≡ None) (mid : CallState) (between : ParticipantState) (laws : Laws) (refresh : Refresh)
    (h : HasNext old.call mid old.who between (next.Turn refresh)) where
  is_untold : IsUntold c.session old.call
  is_untold = untold c.session old.call none shows.session

  configuration : IsConfigurationOf judges c r shows.p old.call.session
  configuration = configuration_of c r old way shows is_untold

  wants : IsNext judges old.call.session mid.session shows.p.cache between.cache (next.Turn refresh)
  wants = wants_there c r old way shows none mid between h

  at : (c.session.stage ≡ Refreshing) × (mid.session.starts ≡ c.session.starts)
  at = turn_at (wants.1 c.session is_untold.session)

  hand : IsInHand c r
  hand = ⊎_elim (λ hand. hand) (λ only. absurd (subst (IsAtPuts c.world r c.session) at.0 only.stage)) way.hand

  -- its participant, with the cache as it is then
  abbrev mine : Participant
  mine = record shows.p { cache = between.cache }

  is_mine : state_of mine ≡ between
  is_mine = with_cache c r old way shows none mid between h

  pub turn_may_be : MayTurn mid between refresh old.now
  turn_may_be =
      let may = laws.may_turn judges c r shows.p old.call.session mid.session between.cache refresh way.keeps hand configuration wants in
      record {
        waits = may.0;
        batch = subst (λ (who : ParticipantState). IsSomeAnd who.agent.view (λ view. IsFetchedIn view refresh.batch)) is_mine may.1;
        bounds = may.2;
        is_call = λ asked is_asked. subst (IsCall (asked_of asked)) shows.now (may.3 asked is_asked);
      }

  -- nothing was given before it
  nothing_given : old.call.given ≡ given_of None
  nothing_given = is_untold.gives ∙ ap given_at at.0

  module _ (new : CallState) (after : ParticipantState) (later : MetState) (t : HasTurned refresh old.now mid new between after old.met later) (whole : new.session.is_cut ≡ false) where
    abbrev then_shown : Shown
    then_shown = shown new old.nodes after later old.now

    asked : (asked : Asked) × (asked_at mid.session.stage ≡ Some asked)
    asked = some_asked mid.session.stage turn_may_be.waits

    abbrev TookIn : Result Turned TurnFault → View → Type 0
    TookIn turned view = TakesTurn view (refresh_of refresh) (asked_of asked.0) old.now (state_of mine) turned t.mid

    took_there : IfSome mine.agent.view (TookIn t.turned)
    took_there = subst (λ (who : ParticipantState). IfSome who.agent.view (λ view. TakesTurn view (refresh_of refresh) (asked_of asked.0) old.now who t.turned t.mid)) (sym is_mine) (t.took asked.0 asked.1)

    some_view : IsSomeAnd mine.agent.view (λ view. IsFetchedIn view refresh.batch)
    some_view = subst (λ (who : ParticipantState). IsSomeAnd who.agent.view (λ view. IsFetchedIn view refresh.batch)) (sym is_mine) turn_may_be.batch

    took : (view : View) × TookIn t.turned view
    took = in_view (TookIn t.turned) (λ view. IsFetchedIn view refresh.batch) mine.agent.view some_view took_there

    gave : GivesTurnThere shows.p refresh asked.0 c.world.now t.turned (holder t.mid)
    gave = subst (λ (now : Moment). GivesTurnThere shows.p refresh asked.0 now t.turned (holder t.mid)) (sym shows.now)
        (there (TookIn t.turned) (λ view. GivesTurn shows.p view refresh asked.0 old.now t.turned (holder t.mid)) (λ view is. gives shows.p between.cache view refresh asked.0 old.now t.turned t.mid is) mine.agent.view took_there)

    -- ---- what is left

    told_none : new.told ≡ None
    told_none = t.is_told.told ∙ ap (λ (call : CallState). call.told) h.call ∙ none

    replicas : new.session.replicas ≡ r
    replicas = t.is_told.is_turned.0.1 ∙ wants.0.1 ∙ shows.replicas

    given_before : mid.given ≡ given_of None
    given_before = ap (λ (call : CallState). call.given) h.call ∙ nothing_given

    abbrev LeftAs : Participant → List (List ℕ) → World → Given → Type 0
    LeftAs p met world given = IsLeftSo c r old way shows laws then_shown p met is_untold world given

    -- its agent's posts count as made
    abbrev turned_with : ℕ → Participant
    turned_with work = record (turned_participant mine (holder t.mid)) { work = work }

    made_so : (work : ℕ) (given : Given) → state_of (turned_with work) ≡ counting t.mid → CountsAsMade t.mid after old.met later → new.given ≡ given
        → LeftAs (turned_with work) (met_by c.world.met t.mid.agent.pending) (world_after c.world (turned_with work)) given
    made_so work given is made gives = record {
      world = ap (λ (w : World). record (with_participant w (turned_with work)) { met = met_by c.world.met t.mid.agent.pending }) (sym (same_nodes c r old way shows));
      named = refl;
      who = is ∙ sym made.counts;
      are_met = made.is_met c.world.met shows.met;
      now = refl;
      replicas = replicas;
      no_turn = t.is_told.no_turn;
      gives = gives;
      untold = told_none;
    }

    as_it_was : (given : Given) → after ≡ state_of mine → later ≡ old.met → new.given ≡ given → LeftAs mine c.world.met (with_participant c.world mine) given
    as_it_was given who met gives = record {
      world = ap (λ (w : World). with_participant w mine) (sym (same_nodes c r old way shows));
      named = refl;
      who = sym who;
      are_met = subst (AreMet c.world.met) (sym met) shows.met;
      now = refl;
      replicas = replicas;
      no_turn = t.is_told.no_turn;
      gives = gives;
      untold = told_none;
    }

    -- after a refusal it may have begun again, and has done so
    begun_again : BeginsAgain mid new → (s u : Session) → c.session.starts < 2 → LacksMemory s u → IsSession judges u new.session → ⊥
    begun_again anew s u few lacking session =
        let over = lacking_is_over lacking in
        anew.begins (subst (λ (n : ℕ). n < 2) (sym at.1) few) (over_asks_nothing judges u new.session over.0 over.1 session)

    refused_so : (end : TurnEnd) (given : Given) → state_of (turned_with (work_after end mine.work)) ≡ counting t.mid → work_after end mine.work ≡ mine.work → IsStep judges c r new.session (c.session.starts < 2) (world_after c.world (turned_participant mine (holder t.mid))) given
        → given ≡ given_of None → CountsAsMade t.mid after old.met later → BeginsAgain mid new → StepsTo c r then_shown
    refused_so end given is same step nothing made anew =
        by_step c r old way shows laws then_shown (turned_with mine.work) (met_by c.world.met t.mid.agent.pending) is_untold step
        (left_is step.left whole (λ u few lacking session. begun_again anew step.next.session u few lacking session))
        (made_so mine.work given (subst (λ (work : ℕ). state_of (turned_with work) ≡ counting t.mid) same is) made (anew.given ∙ given_before ∙ sym nothing))

    -- ---- whatever it was

    by : (turned : Result Turned TurnFault) → (view : View) × TookIn turned view → GivesTurnThere shows.p refresh asked.0 c.world.now turned (holder t.mid) → IsTurned judges mid.session new.session turned
        → LeftBy mid new t.mid after old.met later turned → StepsTo c r then_shown
    by (Ok turned) took gave told left =
        let parts = left.1 asked.0 asked.1 in
        let step = laws.read judges c r shows.p old.call.session mid.session new.session between.cache refresh asked.0 turned (holder t.mid) parts.reply way.keeps hand configuration wants asked.1 gave told t.is_told.free t.is_told.no_turn
        parts.read.fits parts.read.spelled in
        by_step c r old way shows laws then_shown (turned_with turned.applied) (met_by c.world.met t.mid.agent.pending) is_untold step
        (left_is step.left whole (λ u may lacking session. may))
        (made_so turned.applied (given_by parts.reply) (counted shows.p between.cache took.0 refresh asked.0 old.now took.1.has_turn) left.0 (λ i. record { handle = parts.handle i; verifier = parts.verifier i }))
    by (Err fault.Memory) took gave told left =
        let step = laws.turns judges c r shows.p old.call.session mid.session new.session between.cache refresh asked.0 (Err fault.Memory) (holder t.mid) way.keeps hand configuration wants asked.1 gave told t.is_told.free t.is_told.no_turn in
        by_step c r old way shows laws then_shown mine c.world.met is_untold step.1 (left_is step.1.left whole (λ u may lacking session. may)) (as_it_was step.0 (left.who ∙ took.1) left.blocks (left.given ∙ given_before ∙ sym step.2))
    by (Err (fault.Behind standing)) took gave told left =
        let step = laws.turns judges c r shows.p old.call.session mid.session new.session between.cache refresh asked.0 (Err (fault.Behind standing)) (holder t.mid) way.keeps hand configuration wants asked.1 gave told t.is_told.free t.is_told.no_turn in
        refused_so Behind step.0 (counted shows.p between.cache took.0 refresh asked.0 old.now took.1.has_turn) refl step.1 step.2 left.0 left.1
    by (Err (fault.BelowTide standing)) took gave told left =
        let step = laws.turns judges c r shows.p old.call.session mid.session new.session between.cache refresh asked.0 (Err (fault.BelowTide standing)) (holder t.mid) way.keeps hand configuration wants asked.1 gave told t.is_told.free t.is_told.no_turn in
        refused_so BelowTide step.0 (counted shows.p between.cache took.0 refresh asked.0 old.now took.1.has_turn) refl step.1 step.2 left.0 left.1

    -- the turn is a step
    pub turns_step : StepsTo c r then_shown
    turns_step = by t.turned took gave t.is_told.is_turned t.is_told.left

-- some configuration is represented
pub may_turn : Laws → (old : Shown) → HasConfiguration old → old.call.told ≡ None → (mid : CallState) (between : ParticipantState) (refresh : Refresh) → HasNext old.call mid old.who between (next.Turn refresh) → MayTurn mid between refresh old.now
may_turn laws old configuration none mid between refresh h = turn_may_be configuration.0 configuration.1 old configuration.2 configuration.3 none mid between laws refresh h
