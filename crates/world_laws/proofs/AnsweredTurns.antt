-- A turn that was answered leaves a world in which the invariant holds, and such a session; and it is on the replay.
use Rattle.std.proofs.Common.{◌≡◌, ⊎_elim, inl, ℕ, ◌+◌, ◌<◌, Bool, true, false, List, [], ◌∷◌, ◌++◌, Option, Some, None, refl, sym, ap, ◌∙◌, subst, Contains}
use Rattle.std.specs.Prelude.{is_some}
use Rattle.std.proofs.lemmas.List.Elements.{Contains-append_left, Contains-append_right}
use Rattle.ivy_base.specs.Naming.{IsCollisionFree}
use Rattle.ivy_io.specs.Keepers as memory
use Rattle.log_model.specs.Closed.{log_of}
use Rattle.log_model.specs.Record.{Record}
use Rattle.log_model.specs.Vector.{join}
use Rattle.log_model.specs.View.{View}
use Rattle.log_model.proofs.Lists.{here, in_cons, in_nothing}
use Rattle.nfs_model.specs.declared.replies.Reply.{Reply}
use Rattle.turn_model.specs.Basis.{Holding}
use Rattle.turn_model.specs.Known.{IsVerified}
use Rattle.turn_model.specs.Turn.{Asked, Turned}
use Rattle.turn_model.proofs.Kept.{kept_tree_is_replay}
use Rattle.dht_ids.specs.declared.post.Post.{Post}
use Rattle.agent_model.specs.Agent.{joined}
use Rattle.agent_model.specs.Standing.{Refresh, going_on}
use Rattle.agent_model.specs.Turning.{Answered, Becomes, IsByDefinition, MayTake, MayWrite, Turns}
use Rattle.agent_model.specs.Turning.Becomes.{reads, saves, loses}
use Rattle.agent_model.specs.Turning.Turns.{answers as turn_answers}
use Rattle.session_model.specs.Brought.{brought_in}
use Rattle.session_model.specs.Executions.{HasRefreshed, answered_by_turn}
use Rattle.session_model.specs.Executions.TakesTurn.{answers, begins_again, gives_up}
use Rattle.session_model.specs.Refreshing.{Done, Note}
use Rattle.session_model.specs.Replies.{Asks, said_of}
use Rattle.session_model.specs.Sessions.{Session, in_publishing_order, publishing}
use Rattle.session_laws.proofs.OneRefresh.{refresh_is_deterministic}
use Rattle.world_model.specs.Agents.{HssAgent, IsHssTurnIn, HssKept, TakesHssTurn, hss_signing, hss_kept_bytes, own_hss_key}
use Rattle.world_model.specs.Keepers.{Keeper, asked_to_save, fails_next}
use Rattle.world_model.specs.World.{World, Participant, named_bytes, participant}
use Rattle.world_model.specs.GhostState.{HadTurn, GhostState, knowing_of, known_of}
use Rattle.world_model.specs.Steps.{Configuration, after_turn, met_by, turn_told, turning_of, world_after}
use Rattle.world_laws.specs.Causes.{HasCause}
use Rattle.world_laws.specs.Causes.HasCause.{turned as by_turn}
use Rattle.world_laws.specs.Headline.{IsOnReplay, TurnHolds}
use Rattle.world_laws.specs.Invariant.{GoesOn, IsAtStage, IsInHand, IsMetPost, IsRefreshing, IsRefreshingOn, IsSoundSession, Invariant}
use Rattle.world_laws.specs.Laws.{AnsweredTurnsKeep, StepLeaves}
use Rattle.world_laws.proofs.Bringing.{its_key, its_view, refresh_may_turn}
use Rattle.world_laws.proofs.LackingSteps.{sound_taken}
use Rattle.world_laws.proofs.MoreMet.{more_verified}
use Rattle.world_laws.proofs.Publishing.{begins}
use Rattle.world_laws.proofs.SecondTurns.{one_view}
use Rattle.world_laws.proofs.WholePublishing.{each_published}
use Rattle.world_laws.proofs.AnsweredTurnsFit.{all_of, all_owned, lost_fits, more, posts, saved_fits, saved_knows, saving, still_fits, still_knows}
use Rattle.world_laws.proofs.TurnsKept.{after_of}
use Rattle.world_laws.proofs.TurnsKnown.{KnowsThen, same_own_log, taken, taken_known, turned_is, writes, written_verified}
use Rattle.world_laws.proofs.TurnsConfiguration.{is_by, is_found, met_grows}
use Rattle.agent_laws.proofs.Sets.{lost_set, read_set, saved_set}
use Rattle.world_laws.proofs.TurnsSigning.{turned_to}
use Rattle.world_laws.proofs.TurnsWorld.{FitsTurn, apart_before, goes_then, keeps_then, sound_session, told_named, told_now, world_then}

-- the save fails, and the keeper has the old bytes or the new ones
by_planned : {X : Type 0} (o : Option Bool) → is_some o ≡ true → (o ≡ Some false → X) → (o ≡ Some true → X) → X
by_planned None fails old new = cc fails
by_planned (Some false) fails old new = old refl
by_planned (Some true) fails old new = new refl

module _ (c : Configuration) (r : ℕ) (p : Participant) (keeps : Invariant (c.world, c.ghost_state)) (hand : IsInHand c r) (is_p : participant c.world c.session.by ≡ Some p)
    (notes : List Note) (given : Refresh) (xid : ℕ) (asked : Asked) (reply : Reply) (done : HasRefreshed c.session notes given) (asks : Asks c.session.standing.view c.session.message xid asked)
    (turned : Turned) (replies : turned.reply ≡ reply)
    (is_turn : IsCollisionFree (named_bytes c.world) → IsHssTurnIn (named_bytes c.world) (turning_of c.world p c.session.standing.view) c.session c.began.knew (known_of c.ghost_state p.name) turned) where
  abbrev view : View
  view = c.session.standing.view

  abbrev a : HssAgent
  a = p.agent

  -- no ask is on its way once the refresh is done
  none_asked : c.session.current ≡ []
  none_asked =
      let at : IsRefreshing r c.session = subst (IsAtStage c.world r c.session) done.0 hand.goes_on.stage in
      let is_done : at.end ≡ Done = (refresh_is_deterministic c.session.standing (brought_in c.session.parts) at.notes notes at.given given at.end Done at.refreshed done.1).2 in
      subst (IsRefreshingOn r c.session) is_done at.goes_on

  -- ---- what is left, whatever became of the agent

  module _ (made : ℕ) (h : Holding) (posted : List Post) (failed : Bool) (keeper : Keeper) (work : ℕ) where
    abbrev after : HssAgent
    after = after_of p.agent made (join p.agent.floor (joined h)) h None posted failed

    abbrev q : Participant
    q = turned_to p (after_of p.agent made (join p.agent.floor (joined h)) h None posted failed) keeper work

    abbrev had : HadTurn
    had = record {
      session = c.session;
      began = c.began;
      by = p;
      knowing = knowing_of c.ghost_state p.name;
      view = c.session.standing.view;
      met = named_bytes c.world;
      now = c.world.now;
      after = after_of p.agent made (join p.agent.floor (joined h)) h None posted failed;
      turned = turned;
    }

    abbrev su : GhostState
    su = turn_told c p c.session.standing.view (after_of p.agent made (join p.agent.floor (joined h)) h None posted failed) turned

    abbrev t : Session
    t = answered_by_turn c.session (said_of xid reply) notes posted

    abbrev v : World
    v = world_then c.world (turned_to p (after_of p.agent made (join p.agent.floor (joined h)) h None posted failed) keeper work) (met_by c.world.met posted)

    -- it is on the replay
    replayed : (apart : IsCollisionFree (named_bytes c.world)) → KnowsThen view (own_hss_key a) a.floor (knowing_of c.ghost_state p.name).received (knowing_of c.ghost_state p.name).known (met_by c.world.met posted) h turned.set
        → IsVerified c.world.met view (own_hss_key a) (join a.floor (joined h)) (knowing_of c.ghost_state p.name).received turned.set → log_of (own_hss_key a) (is_turn apart).taken ≡ log_of (own_hss_key a) (knowing_of c.ghost_state p.name).known → IsOnReplay had
    replayed apart knows verified own_log = let it = is_turn apart in record {
      in_view = its_view c r hand p is_p;
      of_view = refl;
      of_own = (sym (is_by c r p keeps hand is_p), told_named (c.world, c.ghost_state) keeps p (is_found c r p keeps hand is_p), its_key c r hand p is_p);
      xid = it.xid;
      asked = it.asked;
      asks = it.asks;
      notes = it.notes;
      given = it.given;
      refreshed = it.refreshed.1;
      loaded = (refresh_may_turn c p r it.notes it.given keeps apart hand is_p it.refreshed).1.loaded;
      candidates = it.is_turn.candidates;
      of_heads = it.is_turn.of_heads;
      taken = it.taken;
      taken_is_largest = it.is_turn.largest;
      is_answer = it.is_turn.by_set;
      keeps_what_was_known = knows.more;
      own_log_is_known = own_log;
      is_verified = more_verified c.world.met (named_bytes c.world) (λ b among. Contains-append_left c.world.met _ b among) view (own_hss_key a) (join a.floor (joined h)) (knowing_of c.ghost_state p.name).received turned.set verified;
      set_is_closed = knows.closed;
      kept_tree_is_replay = kept_tree_is_replay view turned.set h knows.closed knows.holds;
      basis_stands = knows.holds;
    }

    leaves : FitsTurn (c.world, c.ghost_state) p (turned_to p (after_of p.agent made (join p.agent.floor (joined h)) h None posted failed) keeper work) (met_by c.world.met posted) turned.set → TurnHolds had
        → StepLeaves c (record { world = v; ghost_state = su; session = t; began = c.began }) r
    leaves fit holds = (kept, in_hand, had ∷ [], refl, λ g among. ⊎_elim (λ e. subst TurnHolds e holds) (λ none. absurd (in_nothing g none)) (in_cons had [] g among))
      where
        grows : (b : List ℕ) → Contains c.world.met b → Contains (met_by c.world.met posted) b
        grows = met_grows c.world.met posted

        numbered : (g : HadTurn) → Contains (had ∷ []) g → g.began.number < c.ghost_state.begun
        numbered g among = ⊎_elim (λ e. subst (λ (x : HadTurn). x.began.number < c.ghost_state.begun) e hand.number) (λ none. absurd (in_nothing g none)) (in_cons had [] g among)

        kept : Invariant (v, su)
        kept = keeps_then (c.world, c.ghost_state) keeps p (is_found c r p keeps hand is_p) q (met_by c.world.met posted) grows turned.set fit (had ∷ []) numbered su
            (told_now (c.world, c.ghost_state) keeps p (is_found c r p keeps hand is_p) turned.set (had ∷ []))

        on : GoesOn v r c.session
        on = goes_then (c.world, c.ghost_state) keeps p (is_found c r p keeps hand is_p) q (met_by c.world.met posted) grows turned.set fit (had ∷ []) numbered su
            (told_now (c.world, c.ghost_state) keeps p (is_found c r p keeps hand is_p) turned.set (had ∷ [])) r c.session hand.goes_on

        cause : HasCause su c.began.number t (said_of xid turned.reply)
        cause = by_turn had xid asked given (Contains-append_right c.ghost_state.turns (had ∷ []) had (here had []))
            (record { number_is = refl; by = refl; message = refl; entries = refl; standing = refl; parts = refl }) asks done.1

        sound : IsCollisionFree (named_bytes v) → IsSoundSession v su c.session c.began
        sound apart =
            let before = apart_before (c.world, c.ghost_state) keeps p (is_found c r p keeps hand is_p) q (met_by c.world.met posted) grows turned.set fit (had ∷ []) numbered su
            (told_now (c.world, c.ghost_state) keeps p (is_found c r p keeps hand is_p) turned.set (had ∷ [])) apart in
            sound_session (c.world, c.ghost_state) keeps p (is_found c r p keeps hand is_p) q (met_by c.world.met posted) grows turned.set fit (had ∷ []) numbered su
            (told_now (c.world, c.ghost_state) keeps p (is_found c r p keeps hand is_p) turned.set (had ∷ [])) before r c.session c.began hand.goes_on (hand.sound before)

        in_hand : IsInHand (record { world = v; ghost_state = su; session = t; began = c.began }) r
        in_hand = record {
          number = hand.number;
          goes_on = record {
            by = on.by;
            is_by = on.is_by;
            in_view = on.in_view;
            own_key = on.own_key;
            some_entry = on.some_entry;
            entries = on.entries;
            heard = on.heard;
            pending = on.pending;
            stage = (refl, each_published (IsMetPost (met_by c.world.met posted)) posted fit.pending, begins r t hand.goes_on.some_entry none_asked (in_publishing_order posted));
          };
          said = subst (λ (x : Reply). HasCause su c.began.number t (said_of xid x)) replies cause;
          sound = λ apart. sound_taken v su c.session c.began c.session.parts c.session.current (publishing (Some (said_of xid reply)) posted) notes c.session.missed (record { heads = λ e h. h; blocks = λ key bytes h. inl h }) (sound apart);
        }

  -- ---- by what became of it

  -- what is planned for the next save
  saved_kept : (l : HssKept) → fails_next p.keeper ≡ false → (asked_to_save p.keeper (Some l)).kept ≡ Some (hss_kept_bytes l)
  saved_kept l fine = by (memory.planned_next p.keeper) refl fine
    where
      by : (o : Option Bool) → memory.planned_next p.keeper ≡ o → is_some o ≡ false → (memory.after_save p.keeper (hss_kept_bytes l)).kept ≡ Some (hss_kept_bytes l)
      by None planned e = ap (λ x. (memory.after_planned x p.keeper (hss_kept_bytes l)).kept) planned
      by (Some new) planned e = cc e

  module _ (h : Holding) (basis_is : h.basis ≡ (going_on p.agent given.basis).basis) (may : MayTake hss_signing c.session.standing.view p.agent h) (applied : ℕ) where
    abbrev Leaves : HssAgent → Option HssKept → Type 0
    Leaves then_it save = StepLeaves c (record {
      world = world_after c.world (record (after_turn p then_it save) { work = applied });
      ghost_state = turn_told c p c.session.standing.view then_it turned;
      session = answered_by_turn c.session (said_of xid reply) notes then_it.pending;
      began = c.began;
    }) r

    -- nothing new was saved
    module _ (written : List Record) (by_definition : IsByDefinition hss_signing given (turning_of c.world p c.session.standing.view) asked h written reply)
        (set_is : (apart : IsCollisionFree (named_bytes c.world)) → turned.set ≡ taken c r p keeps hand is_p notes given xid asked reply done asks h written by_definition turned apart (is_turn apart)) where
      still_holds : (failed : Bool) (keeper : Keeper) → TurnHolds (had a.signer.made h a.pending failed keeper applied)
      still_holds failed keeper apart = replayed a.signer.made h a.pending failed keeper applied apart
          (still_knows c r p keeps hand is_p notes given xid asked reply done asks applied h basis_is may turned is_turn written by_definition set_is apart)
          (subst (λ set. IsVerified c.world.met view (own_hss_key a) (join a.floor (joined h)) (knowing_of c.ghost_state p.name).received set) (sym (set_is apart))
          (taken_known c r p keeps hand is_p notes given xid asked reply done asks h written by_definition turned apart (is_turn apart)).verified)
          (same_own_log c r p keeps hand is_p notes given xid asked reply done asks h written by_definition turned apart (is_turn apart))

      still_leaves : (failed : Bool) (keeper : Keeper) → keeper.kept ≡ p.keeper.kept
          → StepLeaves c (record { world = v a.signer.made h a.pending failed keeper applied; ghost_state = su a.signer.made h a.pending failed keeper applied; session = t a.signer.made h a.pending failed keeper applied; began = c.began }) r
      still_leaves failed keeper held = leaves a.signer.made h a.pending failed keeper applied
          (still_fits c r p keeps hand is_p notes given xid asked reply done asks applied h basis_is may turned is_turn written by_definition set_is failed keeper held) (still_holds failed keeper)

    read_leaves : IsByDefinition hss_signing given (turning_of c.world p c.session.standing.view) asked h [] reply
        → StepLeaves c (record { world = v a.signer.made h a.pending a.has_failed p.keeper applied; ghost_state = su a.signer.made h a.pending a.has_failed p.keeper applied; session = t a.signer.made h a.pending a.has_failed p.keeper applied; began = c.began }) r
    read_leaves by_definition = still_leaves [] by_definition (λ apart.
        let its = is_turn apart in
        ap (λ (x : Turned). x.set) (turned_is c r p keeps hand is_p notes given xid asked reply done asks h [] by_definition turned apart its)
        ∙ read_set hss_signing a view its.taken asked c.world.now (fails_next p.keeper) (writes c r p keeps hand is_p notes given xid asked reply done asks h [] by_definition turned apart its))
        a.has_failed p.keeper refl

    module _ (before : List Record) (last : Record) (may_write : MayWrite hss_signing c.session.standing.view p.agent before last)
        (by_definition : IsByDefinition hss_signing given (turning_of c.world p c.session.standing.view) asked h (before ++ last ∷ []) reply) where
      abbrev saved_now : HssKept
      saved_now = saving c r p keeps hand is_p notes given xid asked reply done asks applied h basis_is may turned is_turn before last may_write by_definition

      abbrev its_posts : List Post
      its_posts = posts c r p keeps hand is_p notes given xid asked reply done asks applied h basis_is may turned is_turn before last may_write by_definition

      abbrev its_holding : Holding
      its_holding = more c r p keeps hand is_p notes given xid asked reply done asks applied h basis_is may turned is_turn before last may_write by_definition

      save_leaves : fails_next p.keeper ≡ false
          → StepLeaves c (record {
            world = v (a.signer.made + 1) its_holding its_posts a.has_failed (asked_to_save p.keeper (Some saved_now)) applied;
            ghost_state = su (a.signer.made + 1) its_holding its_posts a.has_failed (asked_to_save p.keeper (Some saved_now)) applied;
            session = t (a.signer.made + 1) its_holding its_posts a.has_failed (asked_to_save p.keeper (Some saved_now)) applied;
            began = c.began;
          }) r
      save_leaves fine = leaves (a.signer.made + 1) its_holding its_posts a.has_failed (asked_to_save p.keeper (Some saved_now)) applied
          (saved_fits c r p keeps hand is_p notes given xid asked reply done asks applied h basis_is may turned is_turn before last may_write by_definition set_is (asked_to_save p.keeper (Some saved_now)) (saved_kept saved_now fine))
          (λ apart. replayed (a.signer.made + 1) its_holding its_posts a.has_failed (asked_to_save p.keeper (Some saved_now)) applied apart
          (saved_knows c r p keeps hand is_p notes given xid asked reply done asks applied h basis_is may turned is_turn before last may_write by_definition set_is apart)
          (subst (λ set. IsVerified c.world.met view (own_hss_key a) (join a.floor (joined its_holding)) (knowing_of c.ghost_state p.name).received set) (sym (set_is apart))
          (written_verified c r p keeps hand is_p notes given xid asked reply done asks h (before ++ last ∷ []) by_definition turned apart (is_turn apart)
          (all_owned c r p keeps hand is_p notes given xid asked reply done asks applied h basis_is may turned is_turn before last may_write by_definition)))
          (same_own_log c r p keeps hand is_p notes given xid asked reply done asks h (before ++ last ∷ []) by_definition turned apart (is_turn apart)))
        where
          set_is : (apart : IsCollisionFree (named_bytes c.world))
              → turned.set ≡ all_of c r p keeps hand is_p notes given xid asked reply done asks applied h basis_is may turned is_turn before last may_write by_definition apart
          set_is apart =
              let its = is_turn apart in
              ap (λ (x : Turned). x.set) (turned_is c r p keeps hand is_p notes given xid asked reply done asks h (before ++ last ∷ []) by_definition turned apart its)
              ∙ saved_set hss_signing a view its.taken asked c.world.now (fails_next p.keeper) fine ∙ sym (writes c r p keeps hand is_p notes given xid asked reply done asks h (before ++ last ∷ []) by_definition turned apart its)

      abbrev lost_keeper : Keeper
      lost_keeper = asked_to_save p.keeper (Some (saving c r p keeps hand is_p notes given xid asked reply done asks applied h basis_is may turned is_turn before last may_write by_definition))

      abbrev Lost : Type 0
      Lost = StepLeaves c (record {
        world = v a.signer.made h a.pending true lost_keeper applied;
        ghost_state = su a.signer.made h a.pending true lost_keeper applied;
        session = t a.signer.made h a.pending true lost_keeper applied;
        began = c.began;
      }) r

      lost_is : fails_next p.keeper ≡ true → (apart : IsCollisionFree (named_bytes c.world))
          → turned.set ≡ taken c r p keeps hand is_p notes given xid asked reply done asks h (before ++ last ∷ []) by_definition turned apart (is_turn apart)
      lost_is fails apart =
          let its = is_turn apart in
          ap (λ (x : Turned). x.set) (turned_is c r p keeps hand is_p notes given xid asked reply done asks h (before ++ last ∷ []) by_definition turned apart its)
          ∙ lost_set hss_signing a view its.taken asked c.world.now (fails_next p.keeper) fails

      kept_by : (o : Option Bool) → memory.planned_next p.keeper ≡ o → lost_keeper.kept ≡ (memory.after_planned o p.keeper (hss_kept_bytes saved_now)).kept
      kept_by o planned = ap (λ x. (memory.after_planned x p.keeper (hss_kept_bytes saved_now)).kept) planned

      lose_with_old : fails_next p.keeper ≡ true → memory.planned_next p.keeper ≡ Some false → Lost
      lose_with_old fails planned = still_leaves (before ++ last ∷ []) by_definition (lost_is fails) true lost_keeper (kept_by (Some false) planned)

      lose_with_new : fails_next p.keeper ≡ true → memory.planned_next p.keeper ≡ Some true → Lost
      lose_with_new fails planned = leaves a.signer.made h a.pending true lost_keeper applied
          (lost_fits c r p keeps hand is_p notes given xid asked reply done asks applied h basis_is may turned is_turn before last may_write by_definition (lost_is fails) lost_keeper (kept_by (Some true) planned))
          (still_holds (before ++ last ∷ []) by_definition (lost_is fails) true lost_keeper)

      lose_leaves : fails_next p.keeper ≡ true → Lost
      lose_leaves fails = by_planned (memory.planned_next p.keeper) fails (lose_with_old fails) (lose_with_new fails)

    by_becoming : (written : List Record) (then_it : HssAgent) (save : Option HssKept) → Becomes hss_signing c.session.standing.view p.agent h (fails_next p.keeper) written then_it save
        → IsByDefinition hss_signing given (turning_of c.world p c.session.standing.view) asked h written reply → Leaves then_it save
    by_becoming _ _ _ reads by_definition = read_leaves by_definition
    by_becoming _ _ _ (saves before last may_write fine) by_definition = save_leaves before last may_write by_definition fine
    by_becoming _ _ _ (loses before last may_write fails) by_definition = lose_leaves before last may_write by_definition fails

-- ---- the law

module _ (c : Configuration) (r : ℕ) (p : Participant) (keeps : Invariant (c.world, c.ghost_state)) (hand : IsInHand c r) (is_p : participant c.world c.session.by ≡ Some p) (reply : Reply) (turned : Turned) (replies : turned.reply ≡ reply) where
  abbrev Holds : View → ℕ → HssAgent → Option HssKept → Session → Type 0
  Holds view applied after save t = StepLeaves c (record { world = world_after c.world (record (after_turn p after save) { work = applied }); ghost_state = turn_told c p view after turned; session = t; began = c.began }) r

  abbrev IsIts : View → Type 0
  IsIts view = IsCollisionFree (named_bytes c.world) → IsHssTurnIn (named_bytes c.world) (turning_of c.world p view) c.session c.began.knew (known_of c.ghost_state p.name) turned

  by_turns : (notes : List Note) (given : Refresh) (xid : ℕ) (asked : Asked) (applied : ℕ) (after : HssAgent) (save : Option HssKept) → HasRefreshed c.session notes given → Asks c.session.standing.view c.session.message xid asked
      → Turns hss_signing given (turning_of c.world p c.session.standing.view) asked (Answered reply applied) after save → IsIts c.session.standing.view
      → Holds c.session.standing.view applied after save (answered_by_turn c.session (said_of xid reply) notes after.pending)
  by_turns notes given xid asked _ _ _ done asks (turn_answers h written _ after save near over basis_is may becomes by_definition) is_turn =
      by_becoming c r p keeps hand is_p notes given xid asked reply done asks turned replies is_turn h basis_is may _ written after save becomes by_definition

  takes_so : (applied : ℕ) (after : HssAgent) (save : Option HssKept) (t : Session) → TakesHssTurn (turning_of c.world p c.session.standing.view) c.session (Answered reply applied) after save t → IsIts c.session.standing.view
      → Holds c.session.standing.view applied after save t
  takes_so _ _ _ _ (answers notes given xid asked _ applied then_it save done asks turns) is_turn = by_turns notes given xid asked applied then_it save done asks turns is_turn
  takes_so _ _ _ _ (begins_again notes given xid asked _ then_it save done asks turns refusal few) is_turn = absurd refusal
  takes_so _ _ _ _ (gives_up notes given xid asked _ then_it save done asks turns refusal many) is_turn = absurd refusal

pub answered_turns_keep : AnsweredTurnsKeep
answered_turns_keep c r p view reply applied after save t turned keeps hand ringed is_p in_view takes replies is_turn =
    subst (λ (u : View). TakesHssTurn (turning_of c.world p u) c.session (Answered reply applied) after save t → IsIts c r p keeps hand is_p reply turned replies u → Holds c r p keeps hand is_p reply turned replies u applied after save t)
    (one_view c.session.standing.view view (sym (its_view c r hand p is_p) ∙ in_view)) (takes_so c r p keeps hand is_p reply turned replies applied after save t) takes is_turn
