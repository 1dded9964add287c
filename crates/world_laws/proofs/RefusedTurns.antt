-- A turn that was refused leaves a world in which the invariant holds, and such a session: it begins again, or is over.
use Rattle.std.proofs.Common.{◌≡◌, inl, ℕ, zero, suc, ◌≤◌, ◌<◌, Bool, true, false, cond, ◌&&◌, List, [], Option, Some, None, refl, sym, ap, ◌∙◌, subst, arith, le_refl, Contains}
use Rattle.std.specs.Prelude.{IfSome, is_some, Ok}
use Rattle.std.proofs.lemmas.List.{append-nil}
use Rattle.std.proofs.lemmas.Slice.Eq.{bytes_eq-Decides}
use Rattle.ivy_base.specs.declared.key.Key.{Key}
use Rattle.ivy_base.specs.declared.key.PubKey.{PubKey}
use Rattle.ivy_base.specs.Naming.{IsCollisionFree}
use Rattle.dhash_model.specs.declared.miss.Miss.{Miss}
use Rattle.log_model.specs.Record.{Record}
use Rattle.log_model.specs.Vector.{Vector, seq_of}
use Rattle.log_model.specs.View.{View}
use Rattle.log_model.proofs.Lists.{each, in_nothing}
use Rattle.turn_model.specs.Basis.{Basis, Holding, Knows, fresh_basis, nothing_held}
use Rattle.turn_model.specs.Turn.{Asked}
use Rattle.agent_model.specs.Agent.{joined}
use Rattle.agent_model.specs.Standing.{Refresh, Standing, begun_again_in, dominates, going_on}
use Rattle.agent_model.specs.Turning.{TurnEnd, Turns, is_behind, is_below_tide}
use Rattle.agent_model.specs.Turning.Turns.{behind, below, answers as answers_it}
use Rattle.session_laws.specs.Going.{ComesTo}
use Rattle.session_laws.specs.Loading.{IsSnapshotOf}
use Rattle.session_laws.proofs.Going.{refresh_begins}
use Rattle.session_laws.proofs.Missing.{fails_by_the_last}
use Rattle.session_laws.proofs.Refreshed.{done_is_not_behind}
use Rattle.session_model.specs.Brought.{Brought, BlockOf, brought_in}
use Rattle.session_model.specs.Executions.{HasRefreshed, IsRefusal, anew, ended}
use Rattle.session_model.specs.Executions.TakesTurn.{answers, begins_again, gives_up}
use Rattle.session_model.specs.Refreshing.{FailsBy, Loaded, LoadsFor, Note, RefreshEnd, Refreshes, counting, start_of}
use Rattle.session_model.specs.Refreshing.LoadsFor.{some as snapshot_to_load}
use Rattle.session_model.specs.Refreshing.Refreshes.{loading, fetching}
use Rattle.session_model.specs.Replies.{Asks, said_no_memory}
use Rattle.session_model.specs.Sessions.{Session, Stage}
use Rattle.world_model.specs.Agents.{HssAgent, HssKept, TakesHssTurn, hss_signing, own_hss_key}
use Rattle.world_model.specs.Keepers.{fails_next}
use Rattle.world_model.specs.World.{World, Participant, named_bytes, participant}
use Rattle.world_model.specs.GhostState.{Began, HadTurn, Knowing, knowing_of, known_of}
use Rattle.world_model.specs.Steps.{Configuration, after_turn, met_by, turning_of, world_after}
use Rattle.world_laws.specs.Causes.{said_at}
use Rattle.world_laws.specs.Causes.HasCause.{no_memory}
use Rattle.world_laws.specs.Invariant.{HasSaid, IsAtStage, IsInHand, IsRefreshing, IsSoundIn, IsSoundSession, Invariant, KeepsUp}
use Rattle.world_laws.specs.Invariant.KeepsUp.{still, grown, dropped}
use Rattle.world_laws.specs.Laws.{RefusedTurnsKeep, StepLeaves}
use Rattle.world_laws.proofs.Bringing.{are_named, in_a_view, its_key, its_view, knew_stand, some_same, starts}
use Rattle.world_laws.proofs.Beginning.{none_last}
use Rattle.world_laws.proofs.MoreMet.{more_posts, more_snapshots, more_stand, more_to_load, more_verified}
use Rattle.world_laws.proofs.NotRefused.{fresh_not_below}
use Rattle.world_laws.proofs.Placed.{differ}
use Rattle.world_laws.proofs.SecondTurns.{goes_on_held, grown_not_behind, keeps_up, none_refused_later, one_view, sorted}
use Rattle.world_laws.proofs.TakingOn.{on_so}
use Rattle.world_laws.proofs.TurnsKept.{after_of, still_kept_in}
use Rattle.world_laws.proofs.TurnsConfiguration.{agent_now, agent_owned, all_sound, anyway, in_view, is_by, is_found, is_there, kept_sound, kept_viewed_now, keeper_owned, met_grows, pending_met, saved, snapshots_now, so}
use Rattle.world_laws.proofs.TurnsSigning.{left_before, still_signs, turned_to}
use Rattle.world_laws.proofs.TurnsWorld.{FitsTurn, StaysSound, ToldThen, apart_before, found_its, keeps_then, knowing_then, world_then}

-- ---- from where a turn goes on

-- an agent that is as it was goes on from what its session's refresh started from
went_on : (a : HssAgent) {s : Standing} {brought : List Brought} {notes : List Note} {given : Refresh} {end : RefreshEnd} → a.to_load ≡ s.to_load → joined a.holding ≡ s.held → a.floor ≡ s.floor → Refreshes s brought notes given end
    → joined (going_on a given.basis) ≡ given.started
went_on a load held floor (loading loads) = held
went_on a {s = s} load held floor (fetching basis loads fetches) = by basis loads
  where
    both : (t u : Bool) (b : Basis) → t ≡ true → u ≡ true → joined (cond (t && u) (record { basis = b; held = [] }) a.holding) ≡ b.front
    both true true b e f = refl
    both true false b e f = cc f
    both false u b e f = cc e

    counted : (b : Basis) → is_some a.to_load ≡ true → (t : Bool) → dominates s.floor b.front ≡ t → joined (going_on a (cond t (Some b) None)) ≡ start_of s (cond t (Some b) None)
    counted b some true far = both (is_some a.to_load) (dominates a.floor b.front) b some (ap (λ (v : Vector). dominates v b.front) floor ∙ far)
    counted b some false far = held

    loaded_some : {o : Option Key} {loaded : List Brought} (b : Basis) → LoadsFor o loaded (Loaded (Some b)) → is_some o ≡ true
    loaded_some b (snapshot_to_load loads) = refl

    by : {loaded : List Brought} (o : Option Basis) → LoadsFor s.to_load loaded (Loaded o) → joined (going_on a (counting s.floor o)) ≡ start_of s (counting s.floor o)
    by None loads = held
    by (Some b) loads = counted b (ap is_some load ∙ loaded_some b loads) (dominates s.floor b.front) refl

module _ (c : Configuration) (r : ℕ) (p : Participant) (keeps : Invariant (c.world, c.ghost_state)) (hand : IsInHand c r) (is_p : participant c.world c.session.by ≡ Some p)
    (notes : List Note) (given : Refresh) (xid : ℕ) (asked : Asked) (done : HasRefreshed c.session notes given) (asks : Asks c.session.standing.view c.session.message xid asked) where
  abbrev view : View
  view = c.session.standing.view

  abbrev a : HssAgent
  a = p.agent

  abbrev its : Knowing
  its = knowing_of c.ghost_state p.name

  abbrev met : List (List ℕ)
  met = met_by c.world.met p.agent.pending

  grows : (b : List ℕ) → Contains c.world.met b → Contains met b
  grows = met_grows c.world.met p.agent.pending

  -- nothing is reported
  tells : ToldThen (c.world, c.ghost_state) p its.known [] c.ghost_state
  tells = record {
    names = refl;
    its = refl;
    others = λ name other. refl;
    received = keeps.received;
    sessions = refl;
    begun = refl;
    turns = sym (append-nil c.ghost_state.turns);
  }

  -- ---- what is left, whatever became of what was held

  module _ (h : Holding) (load : Option Key) where
    abbrev after : HssAgent
    after = after_of p.agent p.agent.signer.made p.agent.floor h load p.agent.pending p.agent.has_failed

    abbrev q : Participant
    q = turned_to p (after_of p.agent p.agent.signer.made p.agent.floor h load p.agent.pending p.agent.has_failed) p.keeper p.work

    abbrev v : World
    v = world_then c.world (turned_to p (after_of p.agent p.agent.signer.made p.agent.floor h load p.agent.pending p.agent.has_failed) p.keeper p.work) (met_by c.world.met p.agent.pending)

    -- what has to be known of it where no names collide
    record HoldsThen : Type 0 where
      knows : Knows c.session.standing.view p.agent.floor h (knowing_of c.ghost_state p.name).known
      to_load : IfSome p.agent.view (λ u. IfSome load (λ root. (h ≡ nothing_held) × IsSnapshotOf (met_by c.world.met p.agent.pending) u (knowing_of c.ghost_state p.name).known root))
      fresh : (load ≡ None) × (h.basis ≡ fresh_basis)
      sessions : (s : Session) (b : Began) (sound : IsSoundSession c.world c.ghost_state s b) → s.by ≡ p.name
          → StaysSound s b sound.of (after_of p.agent p.agent.signer.made p.agent.floor h load p.agent.pending p.agent.has_failed) (knowing_of c.ghost_state p.name).known

    module _ (holds : IsCollisionFree (named_bytes c.world) → HoldsThen) where
      fit : FitsTurn (c.world, c.ghost_state) p q met its.known
      fit =
          let kept_so = so c r p keeps hand is_p in
          record {
            named = refl;
            owned = refl;
            in_view = refl;
            pending = more_posts c.world.met met grows a.pending (pending_met c r p keeps hand is_p);
            cached = refl;
            signs = (kept_so.0, kept_so.1, kept_so.2, still_signs p kept_so.0 kept_so.3 a.floor h load a.has_failed p.keeper p.work refl);
            saved = (kept_so.0, kept_so.1, kept_so.2, record { agent = (saved c r p keeps hand is_p).agent; entered = λ some. kept_viewed_now c r p keeps hand is_p });
            entered = record { agent = agent_owned c r p keeps hand is_p; keeper = (kept_so.0, kept_so.1, kept_so.2, keeper_owned c r p keeps hand is_p) };
            agent = λ apart. let old = agent_now c r p keeps hand is_p apart in subst (IsSoundIn met q (knowing_then (c.world, c.ghost_state) p its.known)) (sym (in_view c r p keeps hand is_p)) (record {
              knows = (holds apart).knows;
              stand = more_stand c.world.met met grows its.known old.stand;
              verified = more_verified c.world.met met grows view (own_hss_key a) a.floor its.received its.known old.verified;
              covers = old.covers;
            });
            keeper = λ apart. (
              kept_so.0,
              kept_so.1,
              kept_so.2,
              still_kept_in p kept_so.0 (saved c r p keeps hand is_p) view (in_view c r p keeps hand is_p) its c.world.met met grows a.signer.made a.floor h load a.pending a.has_failed p.keeper p.work its.known refl
                  (left_before p kept_so.0 kept_so.3) (kept_sound c r p keeps hand is_p apart),
            );
            to_load = λ apart. (holds apart).to_load;
            snapshots = λ apart. more_snapshots c.world.met met grows p its.known a.view (snapshots_now c r p keeps hand is_p apart);
            sessions = λ apart s b sound by_is viewed. (holds apart).sessions s b sound by_is;
          }

      no_turn : (g : HadTurn) → Contains [] g → g.began.number < c.ghost_state.begun
      no_turn g among = absurd (in_nothing g among)

      kept : Invariant (v, c.ghost_state)
      kept = keeps_then (c.world, c.ghost_state) keeps p (is_found c r p keeps hand is_p) q met grows its.known fit [] no_turn c.ghost_state tells

      found : participant v c.session.by ≡ Some q
      found = found_its (c.world, c.ghost_state) keeps p (is_found c r p keeps hand is_p) q met grows its.known fit [] no_turn c.ghost_state tells c.session.by ((bytes_eq-Decides c.session.by p.name).1 (sym (is_by c r p keeps hand is_p)))

      before : IsCollisionFree (named_bytes v) → IsCollisionFree (named_bytes c.world)
      before = apart_before (c.world, c.ghost_state) keeps p (is_found c r p keeps hand is_p) q met grows its.known fit [] no_turn c.ghost_state tells

      abbrev began : Began
      began = record c.began { knew = known_of c.ghost_state p.name }

      -- ---- it begins again

      abbrev standing : Standing
      standing = begun_again_in hss_signing (after_of p.agent p.agent.signer.made p.agent.floor h load p.agent.pending p.agent.has_failed) c.session.standing.view

      abbrev t : Session
      t = anew c.session (begun_again_in hss_signing (after_of p.agent p.agent.signer.made p.agent.floor h load p.agent.pending p.agent.has_failed) c.session.standing.view)

      came : ComesTo standing []
      came = refresh_begins standing

      goes : (miss : Miss) → came.end ≡ FailsBy miss → ⊥
      goes miss is =
          let last = fails_by_the_last standing [] came.notes came.given miss (subst (Refreshes standing [] came.notes came.given) is came.refreshes) in
          none_last last.0 last.1 last.2

      refreshing : IsRefreshing r t
      refreshing = record {
        xid = xid;
        asked = asked;
        asks = asks;
        notes = came.notes;
        given = came.given;
        end = came.end;
        refreshed = came.refreshes;
        goes_on = on_so r t hand.goes_on.some_entry refl came.end goes;
      }

      sound_anew : IsCollisionFree (named_bytes c.world) → IsSoundSession v c.ghost_state t began
      sound_anew apart = record {
        by = q;
        is_by = found;
        of = h;
        knows = (holds apart).knows;
        held = refl;
        edges = refl;
        to_load = tt;
        known = λ x among. subst (λ (n : List ℕ). Contains (known_of c.ghost_state n) x) (is_by c r p keeps hand is_p) among;
        floor = λ log. le_refl (seq_of a.floor log);
        keeps_up = still (holds apart).fresh.0 refl refl;
        anew = λ some. (holds apart).fresh;
        stays_fresh = λ fresh. (holds apart).fresh;
        received = λ e among. absurd (in_nothing e among);
        blocks = λ key bytes among. absurd (in_nothing (BlockOf key (Ok bytes)) among);
      }

      anew_in_hand : IsInHand (record { world = v; ghost_state = c.ghost_state; session = t; began = began }) r
      anew_in_hand = record {
        number = hand.number;
        goes_on = record {
          by = q;
          is_by = found;
          in_view = in_view c r p keeps hand is_p;
          own_key = refl;
          some_entry = hand.goes_on.some_entry;
          entries = hand.goes_on.entries;
          heard = tt;
          pending = fit.pending;
          stage = subst (λ (stage : Stage). IsAtStage v r t stage) (sym done.0) refreshing;
        };
        said = subst (λ (stage : Stage). HasSaid c.ghost_state c.began.number t (said_at stage)) (sym done.0) tt;
        sound = λ apart. sound_anew (before apart);
      }

      leaves_anew : StepLeaves c (record { world = v; ghost_state = c.ghost_state; session = t; began = began }) r
      leaves_anew = (kept, anew_in_hand, [], sym (append-nil c.ghost_state.turns), λ g among. absurd (in_nothing g among))

      -- ---- or it is over, which comes under a clash alone

      abbrev over : Session
      over = ended c.session (said_no_memory xid) notes None

      leaves_over : (IsCollisionFree (named_bytes c.world) → ⊥) → StepLeaves c (record { world = v; ghost_state = c.ghost_state; session = over; began = began }) r
      leaves_over clash = (
        kept,
        record {
          number = hand.number;
          goes_on = record {
            by = q;
            is_by = found;
            in_view = in_view c r p keeps hand is_p;
            own_key = its_key c r hand p is_p;
            some_entry = hand.goes_on.some_entry;
            entries = hand.goes_on.entries;
            heard = tt;
            pending = more_posts c.world.met met grows c.session.standing.pending hand.goes_on.pending;
            stage = refl;
          };
          said = no_memory xid asked asks;
          sound = λ apart. absurd (clash (before apart));
        },
        [],
        sym (append-nil c.ghost_state.turns),
        λ g among. absurd (in_nothing g among),
      )

  -- ---- the agent is behind

  module _ (s : Session) (b : Began) (sound : IsSoundSession c.world c.ghost_state s b) (by_is : s.by ≡ p.name) where
    one : sound.by ≡ p
    one = some_same sound.by p (sym sound.is_by ∙ ap (participant c.world) by_is ∙ is_found c r p keeps hand is_p)

    known_still : (x : Record) → Contains b.knew x → Contains its.known x
    known_still x among = subst (λ (n : List ℕ). Contains (known_of c.ghost_state n) x) by_is (sound.known x among)

    stays_as_it_is : StaysSound s b sound.of a its.known
    stays_as_it_is = record {
      known = known_still;
      floor = λ log. subst (λ (o : Participant). seq_of s.standing.floor log ≤ seq_of o.agent.floor log) one (sound.floor log);
      keeps_up = subst (λ (n : List ℕ). KeepsUp s sound.of a (known_of c.ghost_state n)) by_is (subst (λ (o : Participant). KeepsUp s sound.of o.agent (known_of c.ghost_state s.by)) one sound.keeps_up);
      anew = λ some. subst (λ (o : Participant). (o.agent.to_load ≡ None) × (o.agent.holding.basis ≡ fresh_basis)) one (sound.anew some);
      stays_fresh = λ fresh. subst (λ (o : Participant). (o.agent.to_load ≡ None) × (o.agent.holding.basis ≡ fresh_basis)) one (sound.stays_fresh fresh);
    }

    -- what was held is dropped, which isn't so where there was no basis
    stays_dropped : ((a.to_load ≡ None) × (a.holding.basis ≡ fresh_basis) → ⊥) → StaysSound s b sound.of (after nothing_held None) its.known
    stays_dropped not_fresh = record {
      known = known_still;
      floor = stays_as_it_is.floor;
      keeps_up = dropped (λ fresh. not_fresh (stays_as_it_is.stays_fresh fresh)) (by s.starts refl) refl refl;
      anew = λ some. (refl, refl);
      stays_fresh = λ fresh. (refl, refl);
    }
      where
        by : (n : ℕ) → s.starts ≡ n → s.starts ≡ 0
        by zero e = e
        by (suc n) e = absurd (not_fresh (stays_as_it_is.anew (omega (arith, e))))

  module _ (is_late : is_behind c.session.standing.view (own_hss_key p.agent) p.agent.floor (going_on p.agent given.basis) given ≡ true) (apart : IsCollisionFree (named_bytes c.world)) where
    sound_now : IsSoundSession c.world c.ghost_state c.session c.began
    sound_now = hand.sound apart

    viewed : a.view ≡ Some view
    viewed = in_view c r p keeps hand is_p

    own_is : c.session.standing.own ≡ own_hss_key a
    own_is = its_key c r hand p is_p

    not_behind : (floor : Vector) (o : Holding) → floor ≡ a.floor → o ≡ going_on a given.basis → is_behind view c.session.standing.own floor o given ≡ false → ⊥
    not_behind floor o same_floor same_holding ahead = differ (is_behind view (own_hss_key a) a.floor (going_on a given.basis) given) is_late
        (subst (λ (x : Holding). is_behind view (own_hss_key a) a.floor x given ≡ false) same_holding
        (subst (λ (x : Vector). is_behind view (own_hss_key a) x o given ≡ false) same_floor
        (subst (λ (x : PubKey). is_behind view x floor o given ≡ false) own_is ahead)))

    fresh_by : KeepsUp c.session sound_now.of a its.known → (a.to_load ≡ None) × (a.holding.basis ≡ fresh_basis)
    fresh_by (still load held floor) = absurd (not_behind c.session.standing.floor (going_on a given.basis) (sym floor) refl
        (done_is_not_behind (named_bytes c.world) c.session.standing (going_on a given.basis) c.began.knew (brought_in c.session.parts) notes given apart
        (in_a_view c keeps apart sound_now p is_p viewed) sound_now.knows.by_floor (knew_stand c keeps apart sound_now p is_p viewed) (starts c keeps apart sound_now p is_p viewed notes given done)
        (are_named c keeps apart sound_now p is_p viewed) done.1 (went_on a load held floor done.1) (sorted c keeps apart sound_now p is_p viewed notes given done)))
    fresh_by (grown load all far) = absurd (not_behind a.floor a.holding refl (sym (goes_on_held a given.basis load)) (grown_not_behind c keeps apart sound_now p is_p viewed notes given done all far))
    fresh_by (dropped other first load basis) = (load, basis)

    behind_holds : HoldsThen a.holding a.to_load
    behind_holds = record {
      knows = (agent_now c r p keeps hand is_p apart).knows;
      to_load = more_to_load c.world.met met grows p its.known a.view
          (each (λ (o : Participant). IfSome o.agent.view (λ u. IfSome o.agent.to_load (λ root. (o.agent.holding ≡ nothing_held) × IsSnapshotOf c.world.met u (known_of c.ghost_state o.name) root))) c.world.participants p (all_sound c r p keeps hand is_p apart).to_load (is_there c r p keeps hand is_p));
      fresh = fresh_by (keeps_up c keeps apart sound_now p is_p viewed);
      sessions = stays_as_it_is;
    }

  -- ---- it is below the tide

  module _ (is_low : is_below_tide (own_hss_key p.agent) p.agent.floor (going_on p.agent given.basis) given ≡ true) (apart : IsCollisionFree (named_bytes c.world)) where
    not_fresh : (a.to_load ≡ None) × (a.holding.basis ≡ fresh_basis) → ⊥
    not_fresh f = differ (is_below_tide (own_hss_key a) a.floor (going_on a given.basis) given) is_low
        (subst (λ (x : Holding). is_below_tide (own_hss_key a) a.floor x given ≡ false) (sym (goes_on_held a given.basis f.0)) (fresh_not_below (own_hss_key a) a.floor a.holding given f.1))

    below_holds : HoldsThen nothing_held None
    below_holds = let old = (agent_now c r p keeps hand is_p apart).knows in record {
      knows = record { by_floor = old.by_floor; closed = old.closed; holds = inl refl };
      to_load = anyway a.view;
      fresh = (refl, refl);
      sessions = λ s b sound by_is. stays_dropped s b sound by_is not_fresh;
    }

-- ---- the law

module _ (c : Configuration) (r : ℕ) (p : Participant) (keeps : Invariant (c.world, c.ghost_state)) (hand : IsInHand c r) (is_p : participant c.world c.session.by ≡ Some p) where
  abbrev Leaves : HssAgent → Option HssKept → Session → Type 0
  Leaves after save t = StepLeaves c (record c { world = world_after c.world (after_turn p after save); session = t; began = record c.began { knew = known_of c.ghost_state p.name } }) r

  module _ (notes : List Note) (given : Refresh) (xid : ℕ) (asked : Asked) (done : HasRefreshed c.session notes given) (asks : Asks c.session.standing.view c.session.message xid asked) where
    anew_so : (end : TurnEnd) (after : HssAgent) (save : Option HssKept) → Turns hss_signing given (turning_of c.world p c.session.standing.view) asked end after save → IsRefusal end
        → Leaves after save (anew c.session (begun_again_in hss_signing after c.session.standing.view))
    anew_so _ _ _ (behind is_late) refusal = leaves_anew c r p keeps hand is_p notes given xid asked done asks p.agent.holding p.agent.to_load (behind_holds c r p keeps hand is_p notes given xid asked done asks is_late)
    anew_so _ _ _ (below near is_low) refusal = leaves_anew c r p keeps hand is_p notes given xid asked done asks nothing_held None (below_holds c r p keeps hand is_p notes given xid asked done asks is_low)
    anew_so _ _ _ (answers_it _ _ _ _ _ _ _ _ _ _ _) refusal = absurd refusal

    over_so : (end : TurnEnd) (after : HssAgent) (save : Option HssKept) → Turns hss_signing given (turning_of c.world p c.session.standing.view) asked end after save → IsRefusal end → (IsCollisionFree (named_bytes c.world) → ⊥)
        → Leaves after save (ended c.session (said_no_memory xid) notes None)
    over_so _ _ _ (behind is_late) refusal clash = leaves_over c r p keeps hand is_p notes given xid asked done asks p.agent.holding p.agent.to_load (behind_holds c r p keeps hand is_p notes given xid asked done asks is_late) clash
    over_so _ _ _ (below near is_low) refusal clash = leaves_over c r p keeps hand is_p notes given xid asked done asks nothing_held None (below_holds c r p keeps hand is_p notes given xid asked done asks is_low) clash
    over_so _ _ _ (answers_it _ _ _ _ _ _ _ _ _ _ _) refusal clash = absurd refusal

  refused_so : (end : TurnEnd) (after : HssAgent) (save : Option HssKept) (t : Session) → IsRefusal end → TakesHssTurn (turning_of c.world p c.session.standing.view) c.session end after save t → Leaves after save t
  refused_so _ _ _ _ refusal (answers notes given xid asked reply applied after save done asks turns) = absurd refusal
  refused_so _ _ _ _ refusal (begins_again notes given xid asked end after save done asks turns is few) = anew_so notes given xid asked done asks end after save turns is
  refused_so _ _ _ _ refusal (gives_up notes given xid asked end after save done asks turns is many) = over_so notes given xid asked done asks end after save turns is (λ apart.
      let first = none_refused_later c r keeps apart hand p is_p notes given done c.session.standing.view (fails_next p.keeper) asked c.world.now end after save (its_view c r hand p is_p) turns is in
      absurd (omega (arith, first, many)))

pub refused_turns_keep : RefusedTurnsKeep
refused_turns_keep c r p view end after save t keeps hand ringed is_p in_view refusal takes =
    refused_so c r p keeps hand is_p end after save t refusal
    (subst (λ (u : View). TakesHssTurn (turning_of c.world p u) c.session end after save t) (sym (one_view c.session.standing.view view (sym (its_view c r hand p is_p) ∙ in_view))) takes)
