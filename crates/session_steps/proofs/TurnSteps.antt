-- Whatever comes of the turn of a session in code, and whatever the session makes of it, is a step of the configuration.
use Rattle.std.proofs.Common.{◌≡◌, ⊎_elim, ℕ, ◌<◌, Bool, true, false, List, [], Option, Some, None, Result, Ok, Err, refl, sym, ap, ◌∙◌, subst, Contains}
use Rattle.std.specs.Prelude.{IfErr, IfSome, IsSomeAnd, IsTrue, option_map}
use Rattle.std.specs.List.{AllByRecursion}
use Rattle.ivy_base.specs.declared.operation.Moment.{Moment}
use Rattle.ivy_base.specs.Naming.{HasClash, IsCollisionFree}
use Rattle.hash_signature_model.specs.Saved.{IsSigner}
use Rattle.hash_signature_model.specs.Signer.{Signer}
use Rattle.dhash_model.specs.Signed.{hss_judged}
use Rattle.log_model.proofs.Lists.{each}
use Rattle.log_model.specs.Record.{Record}
use Rattle.log_model.specs.View.{View, IsView, is_named}
use Rattle.nfs_laws.specs.Replies.{AnswersAreReplies, FinishesAreReplies, PlansAreReplies, SetsMakeTrees}
use Rattle.nfs_model.specs.Replies.{IsFittingReply}
use Rattle.nfs_model.specs.Results.{result as bytes_of}
use Rattle.nfs_model.specs.declared.replies.Reply.{Reply}
use Rattle.turn_model.specs.Basis.{Holding}
use Rattle.turn_model.specs.Turn.{Asked as ModelAsked, Turned as ModelTurned}
use Rattle.dht_ids.specs.declared.post.Post.{Post}
use Rattle.dhash_client.specs.GetHead.{Judges}
use Rattle.agent_model.specs.Agent.{kept_of}
use Rattle.agent_model.specs.Standing.{Refresh as ModelRefresh, Standing as ModelStanding, begun_again_in}
use Rattle.agent_model.specs.Turning.{Answered, Behind, BelowTide, IsByDefinition, TurnEnd, Turns}
use Rattle.agent_model.specs.Turning.Turns.{behind, below, answers as answers_it}
use Rattle.session_model.specs.Executions.{grounds_of, HasRefreshed, IsRefusal, LacksMemory, anew, answered_by_turn, ended}
use Rattle.session_model.specs.Executions.TakesTurn.{answers, begins_again, gives_up}
use Rattle.session_model.specs.Refreshing.{Note}
use Rattle.session_model.specs.Replies.{Asks, said_no_memory, said_of}
use Rattle.session_model.specs.Sessions.{Cache, Session}
use Rattle.log_fetch.specs.declared.asked.Asked.{Asked}
use Rattle.log_fetch.specs.declared.refresh.Refresh.{Refresh}
use Rattle.log_fetch.specs.declared.standing.Standing.{Standing}
use Rattle.log_fetch.specs.declared.turned.Turned.{Turned}
use Rattle.log_fetch.specs.declared.turned.TurnFault.{TurnFault}
use Rattle.log_fetch.specs.declared.turned.TurnFault.TheVariants as fault
use Rattle.log_fetch.specs.Edges.{edge_in}
use Rattle.log_fetch.specs.Standings.{asked_of, refresh_of, standing_of}
use Rattle.ivy_agent.specs.Answering.{IsCall}
use Rattle.ivy_agent.specs.Bounds.{HasBounds}
use Rattle.ivy_agent.specs.Holders.{Holder}
use Rattle.ivy_agent.specs.Saves.{Saves}
use Rattle.ivy_agent.specs.Turns.{IsFetchedIn, TurnsAs}
use Rattle.ivy_session.specs.States.{IsSession, SessionState, asked_at, is_turning, session_awaited}
use Rattle.ivy_session.specs.Stepping.{IsAgainFor, TurnedIs}
use Rattle.ivy_session.specs.Stepping as code
use Rattle.ivy_session.specs.Stepping.IsRefused.{begins_again as code_begins, lacks_memory as code_lacks, gives_up as code_gives_up}
use Rattle.log_model.specs.ViewKeys.{HasKeys}
use Rattle.ivy_session.proofs.Called.{IsAskedOf, asks_as, batch_of_members, refreshed_as, turn_is_asked}
use Rattle.ivy_session.proofs.Staying.{all_some, taken_same}
use Rattle.ivy_session.proofs.Wanted.{TurnsThen, turns_then}
use Rattle.script_model.specs.Messages.{Given}
use Rattle.world_model.specs.Agents.{HssAgent, HssKept, IsHssKept, IsHssTurnIn, TakesHssTurn, hss_signing, hss_kept_bytes, own_hss_key}
use Rattle.world_model.specs.Keepers.{Keeper, asked_to_save, fails_next}
use Rattle.world_model.specs.GhostState.{known_of}
use Rattle.world_model.specs.World.{World, Participant, named_bytes, participant, with_participant}
use Rattle.world_model.specs.Steps.{Configuration, after_turn, having_made, met_by, turn_told, turning_of, with_cache, world_after}
use Rattle.world_model.specs.Steps.Acts.{turns as acts_turns, is_refused}
use Rattle.world_model.specs.Steps.Steps.{acts, lacks_memory}
use Rattle.world_laws.specs.Invariant.{IsInHand, IsKeptSo, IsSavedWell, Invariant}
use Rattle.world_laws.proofs.Apart.{clash_is_decided}
use Rattle.world_laws.proofs.Bringing.{found_named, its_view, refresh_may_turn}
use Rattle.session_steps.specs.Laws.{AgentsGiveTurns, BatchesAreFetched, GivesNothing, RefusalsAreFresh, RepliesAreRead, TurnsAreSteps, TurnsMayBe}
use Rattle.session_steps.specs.Configurations.{GivesTurn, HadTurn, IsLeft, IsConfigurationOf, IsStep, MayLack, given_at, given_by, given_of, holder_of, memory_saves, turned_participant, turned_world}
use Rattle.session_steps.specs.Configurations.IsLeft.{goes_on as left_on, lacks_memory as left_lacking, is_cut as left_cut}
use Rattle.ivy_agent.proofs.Bounds.{bounds_in}
use Rattle.session_steps.proofs.Read.{reply_of}
use Rattle.session_steps.proofs.ConfigurationSteps.{found_then, keeps_then, lacking_gives, twice_placed}

-- ---- what the agent's turn is

-- by the keeper's next save, and the keeper as it was asked then
module _ (brought : ModelRefresh) (a : HssAgent) (view : View) (asked : ModelAsked) (now : Moment) (k new : Keeper) (end : TurnEnd) (after : HssAgent) where
  by_keeper : (saving : Option HssKept) (fails : Bool) → Turns hss_signing brought (record { agent = a; view = view; now = now; fails = fails }) asked end after saving → (saving ≡ None → (other : Bool) → Turns hss_signing brought (record { agent = a; view = view; now = now; fails = other }) asked end after saving)
      → Saves memory_saves k (option_map hss_kept_bytes saving) fails new → Turns hss_signing brought (record { agent = a; view = view; now = now; fails = fails_next k }) asked end after saving × (new ≡ asked_to_save k saving)
  by_keeper None fails turns either saved = (either refl (fails_next k), saved)
  by_keeper (Some kept) fails turns either saved = (subst (λ (b : Bool). Turns hss_signing brought (record { agent = a; view = view; now = now; fails = b }) asked end after (Some kept)) saved.0 turns, saved.1)

had_so : (p : Participant) (view : View) (refresh : Refresh) (asked : Asked) (now : Moment) (fails : Bool) (end : TurnEnd) (after : Holder Keeper Signer)
    → TurnsAs hss_signing IsSigner memory_saves view (refresh_of refresh) (asked_of asked) now (holder_of p) fails end after → HadTurn p view refresh asked now end after
had_so p view refresh asked now fails end after t =
    let k = by_keeper (refresh_of refresh) p.agent view (asked_of asked) now p.keeper after.keeper end after.agent t.saving fails t.turns t.either t.keeper in
    record { saving = t.saving; turns = k.0; keeper = k.1 }

pub agents_give_turns : AgentsGiveTurns
agents_give_turns p view refresh asked now (Ok turned) after t = (t.reply, had_so p view refresh asked now t.fails (Answered t.reply turned.applied) after t.turns, t.gives)
agents_give_turns p view refresh asked now (Err fault.Memory) after t = t
agents_give_turns p view refresh asked now (Err (fault.Behind standing)) after t = (had_so p view refresh asked now false Behind after t.turns, t.anew)
agents_give_turns p view refresh asked now (Err (fault.BelowTide standing)) after t = (had_so p view refresh asked now false BelowTide after t.turns, t.anew)

-- an answer is that of the definition
other_end : (reply : Reply) (applied : ℕ) → Behind ≡ Answered reply applied → ⊥
other_end reply applied e = cc e

below_end : (reply : Reply) (applied : ℕ) → BelowTide ≡ Answered reply applied → ⊥
below_end reply applied e = cc e

same_reply : (reply other : Reply) (applied count : ℕ) → Answered reply applied ≡ Answered other count → reply ≡ other
same_reply reply other applied count e = cc e

by_definition : {given : ModelRefresh} {a : HssAgent} {view : View} {fails : Bool} {asked : ModelAsked} {now : Moment} {end : TurnEnd} {after : HssAgent} {saving : Option HssKept} (reply : Reply) (applied : ℕ)
    → Turns hss_signing given (record { agent = a; view = view; now = now; fails = fails }) asked end after saving → end ≡ Answered reply applied
    → (h : Holding) × (written : List Record) × IsByDefinition hss_signing given (record { agent = a; view = view; now = now; fails = fails }) asked h written reply
by_definition reply applied (behind is) e = absurd (other_end reply applied e)
by_definition reply applied (below near is) e = absurd (below_end reply applied e)
by_definition {given = given} {a = a} {view = view} {fails = fails} {asked = asked} {now = now} reply applied (answers_it h written other after saving near over basis takes becomes by) e =
    (h, written, subst (IsByDefinition hss_signing given (record { agent = a; view = view; now = now; fails = fails }) asked h written) (same_reply other reply _ applied e) by)

-- ---- the world then

-- what stood in the participant's place before doesn't count
same_after : (w : World) (p q : Participant) → p.name ≡ q.name → world_after (with_participant w p) q ≡ world_after w q
same_after w p q named = ap (λ (v : World). record v { met = met_by w.met q.agent.pending }) (twice_placed w p q named)

same_turned : (p : Participant) (after : Holder Keeper Signer) (saving : Option HssKept) → after.keeper ≡ asked_to_save p.keeper saving → after_turn p after.agent saving ≡ turned_participant p after
same_turned p after saving kept = ap (λ (k : Keeper). having_made (record p { agent = after.agent; keeper = k }) after.agent.pending) (sym kept)

same_view : (v w : View) → Some v ≡ Some w → v ≡ w
same_view v w e = cc e

-- ---- where a turn is wanted

pub batches_are_fetched : BatchesAreFetched
batches_are_fetched s b h = record { under = (edge_in s.edges, h.under); members = batch_of_members s b h }

module _ {J : Type 0} (judges : Judges J) (c : Configuration) (r : ℕ) (p : Participant) (old : SessionState J) (is : IsConfigurationOf judges c r p old) (keeps : Invariant (c.world, c.ghost_state)) (hand : IsInHand c r) where
  -- what was available is taken, and the refresh is done
  abbrev pub Turning : SessionState J → Cache → Refresh → Type 0
  Turning = TurnsThen judges hss_judged r c.session p.cache

  may_be : (mid : SessionState J) (cache : Cache) (refresh : Refresh) → Turning mid cache refresh
      → (is_turning mid.stage ≡ true) × IsSomeAnd p.agent.view (λ view. IsFetchedIn view refresh.batch) × IfSome refresh.basis (λ basis. HasBounds basis.tree) × ((asked : Asked) → asked_at mid.stage ≡ Some asked → IsCall (asked_of asked) c.world.now)
  may_be mid cache refresh h = (
    h.turning,
    subst (λ (o : Option View). IsSomeAnd o (λ view. IsFetchedIn view refresh.batch)) (sym (its_view c r hand p is.is_by))
        (subst (λ (s : Session). IsFetchedIn s.standing.view refresh.batch) (taken_same h.takes) (batches_are_fetched h.taken.standing refresh.batch h.batch)),
    bounds_in h.taken h.notes refresh h.done,
    λ asked is_asked. let a = turn_is_asked judges h.taken mid asked h.session h.turning is_asked in record { caller = a.caller; args = a.args; moment = keeps.moment },
  )

  -- ---- the step

  module _ (mid new : SessionState J) (cache : Cache) (refresh : Refresh) (asked : Asked) (h : Turning mid cache refresh) (is_asked : asked_at mid.stage ≡ Some asked) (after : Holder Keeper Signer)
      (free : session_awaited new ≡ None) (past : is_turning new.stage ≡ false) where
    abbrev here : Configuration
    here = with_cache hss_judged r c p h.taken cache

    abbrev mine : Participant
    mine = record p { cache = cache }

    abbrev view : View
    view = h.taken.standing.view

    -- ---- of the configuration once what was available is taken

    kept_now : Invariant (here.world, here.ghost_state) × IsInHand here r
    kept_now = keeps_then judges c r p old is keeps h.taken cache h.takes hand

    found_now : participant here.world h.taken.by ≡ Some mine
    found_now = found_then judges c r p old is keeps h.taken cache h.takes

    in_view : mine.agent.view ≡ Some view
    in_view = its_view here r kept_now.1 mine found_now

    call : IsAskedOf h.taken asked
    call = turn_is_asked judges h.taken mid asked h.session h.turning is_asked

    asks_so : (xid : ℕ) (other : ModelAsked) → Asks view h.taken.message xid other → Asks view h.taken.message xid (asked_of asked)
    asks_so xid other a = asks_as view h.taken.message call.xid xid (asked_of asked) other call.asks a

    done_so : (notes : List Note) (given : ModelRefresh) → HasRefreshed h.taken notes given → HasRefreshed h.taken notes (refresh_of refresh)
    done_so notes given d = refreshed_as h.taken h.notes notes (refresh_of refresh) given h.done d

    starts_are : h.taken.starts ≡ c.session.starts
    starts_are = ap (λ (s : Session). s.starts) (taken_same h.takes)

    -- the turn, and what it leaves
    abbrev IsTurn : TurnEnd → Option HssKept → Type 0
    IsTurn end saving = Turns hss_signing (refresh_of refresh) (turning_of c.world p view) (asked_of asked) end after.agent saving × (after.keeper ≡ asked_to_save p.keeper saving)

    -- ---- it was answered

    record IsTurnTold (notes : List Note) (xid : ℕ) (reply : Reply) : Type 0 where
      told : ModelTurned
      replies : told.reply ≡ reply
      is_turn : IsCollisionFree (named_bytes here.world) → IsHssTurnIn (named_bytes here.world) (turning_of here.world mine view) h.taken c.began.knew (known_of c.ghost_state p.name) told

    turn_told_so : (notes : List Note) (xid : ℕ) (reply : Reply) (applied : ℕ) (saving : Option HssKept) → HasRefreshed h.taken notes (refresh_of refresh) → Asks view h.taken.message xid (asked_of asked) → IsTurn (Answered reply applied) saving
        → IsTurnTold notes xid reply
    turn_told_so notes xid reply applied saving done asks turn = ⊎_elim by_apart by_clash (clash_is_decided (named_bytes here.world))
      where
        by_clash : HasClash (named_bytes here.world) → IsTurnTold notes xid reply
        by_clash clash = record {
          told = record { reply = reply; set = [] };
          replies = refl;
          is_turn = λ apart. absurd (clash.4 (apart clash.0 clash.1 clash.2 clash.3 clash.5));
        }

        by_apart : IsCollisionFree (named_bytes here.world) → IsTurnTold notes xid reply
        by_apart apart =
            let may = refresh_may_turn here mine r notes (refresh_of refresh) kept_now.0 apart kept_now.1 found_now done in
            let definition = by_definition reply applied turn.0 refl in
            let of = definition.2 (grounds_of (named_bytes here.world) h.taken c.began.knew) (known_of c.ghost_state p.name) apart may.0 may.1 in
            record {
              told = of.turned;
              replies = sym of.replies;
              is_turn = λ again. record { xid = xid; asked = asked_of asked; asks = asks; notes = notes; given = refresh_of refresh; refreshed = done; taken = of.taken; is_turn = of.is_turn };
            }

    module _ (turned : Turned) where
      -- the step, after which the session says that
      abbrev SaysThen : Reply → Type 0
      SaysThen reply = IsStep judges c r new ⊥ (turned_world c.world mine (Ok turned) after) (given_by reply)

      answered_step : (reply : Reply) (saving : Option HssKept) (notes : List Note) (xid : ℕ) → HasRefreshed h.taken notes (refresh_of refresh) → Asks view h.taken.message xid (asked_of asked) → IsTurn (Answered reply turned.applied) saving
          → IsLeft judges ⊥ (answered_by_turn h.taken (said_of xid reply) notes after.agent.pending) new → SaysThen reply
      answered_step reply saving notes xid done asks turn left =
          let t = turn_told_so notes xid reply turned.applied saving done asks turn in
          record {
            next = record {
              world = world_after here.world (record (after_turn mine after.agent saving) { work = turned.applied });
              ghost_state = turn_told here mine view after.agent t.told;
              session = answered_by_turn h.taken (said_of xid reply) notes after.agent.pending;
              began = c.began;
            };
            steps = acts p h.taken cache _ is.is_by h.takes
                (acts_turns view reply turned.applied after.agent saving _ t.told in_view (answers notes (refresh_of refresh) xid (asked_of asked) reply turned.applied after.agent saving done asks turn.0) t.replies t.is_turn);
            left = left;
            world = same_after c.world mine (record (after_turn mine after.agent saving) { work = turned.applied }) refl
                ∙ ap (λ (q : Participant). world_after c.world (record q { work = turned.applied })) (same_turned mine after saving turn.1);
            gives = refl;
          }

      by_reply : (reply : Reply) (saving : Option HssKept) → turned.posts ≡ after.agent.pending → IsTurn (Answered reply turned.applied) saving → code.IsAnswered judges mid new h.taken turned reply → SaysThen reply
      by_reply reply saving posts turn a =
          answered_step reply saving a.notes a.xid (done_so a.notes a.given a.refreshed) (asks_so a.xid a.asked a.asks) turn
          (⊎_elim (λ session. left_on (subst (λ (pending : List Post). IsSession judges (answered_by_turn h.taken (said_of a.xid reply) a.notes pending) new) posts session) (λ waits. absurd (waits free)) past) (λ cut. left_cut cut.0) a.publishes)

      abbrev Gave : Type 0
      Gave = GivesTurn p view refresh asked c.world.now (Ok turned) after

      by_answer : Gave → TurnedIs judges mid new h.taken (Ok turned) → (given : Given) × IsStep judges c r new ⊥ (turned_world c.world mine (Ok turned) after) given × GivesNothing (Ok turned) given
      by_answer t told = (given_by t.0, by_reply t.0 t.1.saving t.2.posts (t.1.turns, t.1.keeper) (told t.0 t.2.bytes), tt)

      -- the reply is the one that its bytes are
      module _ (answers_are : AnswersAreReplies) (plans_are : PlansAreReplies) (finishes_are : FinishesAreReplies) (sets_make : SetsMakeTrees) (read : Reply) (fits : IsFittingReply asked.args read) (same : turned.reply ≡ bytes_of read) where
        saved_agent : IsHssKept (kept_of p.agent)
        saved_agent = (each (IsKeptSo IsSavedWell) c.world.participants p keeps.saved (found_named c.world.participants c.session.by p is.is_by).0).3.agent

        well : IsView view × Contains view.members (own_hss_key p.agent)
        well = by p.agent.view in_view saved_agent.view
          where
            by : (o : Option View) → o ≡ Some view → IfSome o (λ v. IsView v × HasKeys v × Contains v.members (own_hss_key p.agent) × AllByRecursion (λ e. IsTrue (is_named v e.0)) p.agent.floor) → IsView view × Contains view.members (own_hss_key p.agent)
            by None none g = cc none
            by (Some v) e g = subst (λ (x : View). IsView x × Contains x.members (own_hss_key p.agent)) (same_view v view e) (g.0, g.2)

        read_turn : (reply : Reply) (saving : Option HssKept) → turned.reply ≡ bytes_of reply → IsTurn (Answered reply turned.applied) saving → IsTurn (Answered read turned.applied) saving
        read_turn reply saving bytes turn = (
          reply_of answers_are plans_are finishes_are sets_make hss_signing IsSigner (refresh_of refresh) p.agent view (fails_next p.keeper) (asked_of asked) c.world.now saved_agent well call.caller call.args
              keeps.moment call.asks.not_alone reply read fits (sym same ∙ bytes) turned.applied refl turn.0,
          turn.1,
        )

        by_read : Gave → TurnedIs judges mid new h.taken (Ok turned) → SaysThen read
        by_read t told = by_reply read t.1.saving t.2.posts (read_turn t.0 t.1.saving t.2.bytes (t.1.turns, t.1.keeper)) (told read same)

    -- ---- it was refused

    module _ (end : TurnEnd) (refusal : IsRefusal end) (saving : Option HssKept) (turn : IsTurn end saving) where
      refused_step : (t : Session) → TakesHssTurn (turning_of c.world p view) h.taken end after.agent saving t → IsLeft judges (c.session.starts < 2) t new → given_at t.stage ≡ given_of None → IsStep judges c r new (c.session.starts < 2) (world_after c.world (turned_participant mine after)) (given_of None)
      refused_step t takes left gives = record {
        next = record here { world = world_after here.world (after_turn mine after.agent saving); session = t; began = record c.began { knew = known_of c.ghost_state p.name } };
        steps = acts p h.taken cache _ is.is_by h.takes (is_refused view end after.agent saving t in_view refusal takes);
        left = left;
        world = same_after c.world mine (after_turn mine after.agent saving) refl ∙ ap (λ (q : Participant). world_after c.world q) (same_turned mine after saving turn.1);
        gives = gives;
      }

      anew_step : h.taken.starts < 2 → IsLeft judges (c.session.starts < 2) (anew h.taken (begun_again_in hss_signing after.agent view)) new → IsStep judges c r new (c.session.starts < 2) (world_after c.world (turned_participant mine after)) (given_of None)
      anew_step few left = refused_step (anew h.taken (begun_again_in hss_signing after.agent view))
          (begins_again h.notes (refresh_of refresh) call.xid (asked_of asked) end after.agent saving h.done call.asks turn.0 refusal few) left (ap given_at h.done.0)

      by_refusal : (standing : ModelStanding) → standing ≡ begun_again_in hss_signing after.agent view → code.IsRefused judges mid new h.taken standing → IsStep judges c r new (c.session.starts < 2) (world_after c.world (turned_participant mine after)) (given_of None)
      by_refusal standing same (code_begins few session) = anew_step few (left_on (subst (λ (s : ModelStanding). IsSession judges (anew h.taken s) new) same session) (λ waits. absurd (waits free)) past)
      by_refusal standing same (code_lacks t few lacking session) = anew_step few (left_lacking t (subst (λ (n : ℕ). n < 2) starts_are few) (subst (λ (s : ModelStanding). LacksMemory (anew h.taken s) t) same lacking) session)
      by_refusal standing same (code_gives_up xid notes given other many done asks session) =
          refused_step (ended h.taken (said_no_memory xid) notes None)
          (gives_up notes (refresh_of refresh) xid (asked_of asked) end after.agent saving (done_so notes given done) (asks_so xid other asks) turn.0 refusal many) (left_on session (λ waits. absurd (waits free)) past) refl

    -- ---- whatever it was

    by_turn : (turned : Result Turned TurnFault) → GivesTurn p view refresh asked c.world.now turned after → TurnedIs judges mid new h.taken turned
        → (given : Given) × IsStep judges c r new (MayLack c.session.starts turned) (turned_world c.world mine turned after) given × GivesNothing turned given
    by_turn (Ok turned) t told = by_answer turned t told
    by_turn (Err fault.Memory) t told = (
      given_of None,
      record {
        next = with_cache hss_judged r c p told.0 cache;
        steps = lacks_memory p h.taken told.0 cache is.is_by (all_some h.takes) told.1;
        left = left_on told.2 (λ waits. absurd (waits free)) past;
        world = refl;
        gives = (lacking_gives told.1).0;
      },
      refl,
    )
    by_turn (Err (fault.Behind standing)) t told = (given_of None, by_refusal Behind tt t.0.saving (t.0.turns, t.0.keeper) (standing_of standing) t.1 told, refl)
    by_turn (Err (fault.BelowTide standing)) t told = (given_of None, by_refusal BelowTide tt t.0.saving (t.0.turns, t.0.keeper) (standing_of standing) t.1 told, refl)

pub turns_may_be : {J : Type 0} → TurnsMayBe J
turns_may_be judges c r p old mid cache refresh keeps hand is wanted = may_be judges c r p old is keeps hand mid cache refresh (turns_then judges hss_judged r c.session p.cache old is.judge is.replicas mid cache refresh (wanted.1 c.session is.session))

pub turns_are_steps : {J : Type 0} → TurnsAreSteps J
turns_are_steps judges c r p old mid new cache refresh asked turned after keeps hand is wanted is_asked had told free past =
    let h = turns_then judges hss_judged r c.session p.cache old is.judge is.replicas mid cache refresh (wanted.1 c.session is.session) in
    by_turn judges c r p old is keeps hand mid new cache refresh asked h is_asked after free past turned
    (subst (λ (o : Option View). IfSome o (λ view. GivesTurn p view refresh asked c.world.now turned after))
    (in_view judges c r p old is keeps hand mid new cache refresh asked h is_asked after free past) had)
    (told.1 h.taken h.session)

pub replies_are_read : AnswersAreReplies → PlansAreReplies → FinishesAreReplies → SetsMakeTrees → {J : Type 0} → RepliesAreRead J
replies_are_read answers_are plans_are finishes_are sets_make judges c r p old mid new cache refresh asked turned after read keeps hand is wanted is_asked had told free past fits same =
    let h = turns_then judges hss_judged r c.session p.cache old is.judge is.replicas mid cache refresh (wanted.1 c.session is.session) in
    by_read judges c r p old is keeps hand mid new cache refresh asked h is_asked after free past turned answers_are plans_are finishes_are sets_make read fits same
    (subst (λ (o : Option View). IfSome o (λ view. GivesTurn p view refresh asked c.world.now (Ok turned) after))
    (in_view judges c r p old is keeps hand mid new cache refresh asked h is_asked after free past) had)
    (told.1 h.taken h.session)

-- ---- after a refusal

-- the standing has no snapshot to load
fresh_so : (v : View) (a : HssAgent) (standing : Standing) → standing_of standing ≡ begun_again_in hss_signing a v → standing.basis ≡ None
fresh_so v a standing e = ap (λ (s : ModelStanding). s.to_load) e

pub refusals_are_fresh : RefusalsAreFresh
refusals_are_fresh p refresh asked now turned after some had = by p.agent.view some had
  where
    of : (v : View) (t : Result Turned TurnFault) → GivesTurn p v refresh asked now t after → IfErr t IsAgainFor
    of v (Ok done) h = tt
    of v (Err fault.Memory) h = tt
    of v (Err (fault.Behind standing)) h = fresh_so v after.agent standing h.1
    of v (Err (fault.BelowTide standing)) h = fresh_so v after.agent standing h.1

    by : (o : Option View) → IsSomeAnd o (λ view. Unit {0}) → IfSome o (λ view. GivesTurn p view refresh asked now turned after) → IfErr turned IsAgainFor
    by None none h = absurd none
    by (Some v) is h = of v turned h
