-- A settling of a call that is shown, and its end.
use Rattle.std.proofs.Common.{◌≡◌, ℕ, true, false, List, Option, Some, None, refl, sym, ap, ◌∙◌, subst}
use Rattle.std.specs.Prelude.{is_some}
use Rattle.log_heads.specs.declared.judge.HssJudge.{HssJudge}
use Rattle.dht_ids.specs.declared.post.Ack.{Ack}
use Rattle.agent_model.specs.Others.{settled}
use Rattle.session_model.specs.Sessions.{Cache, Over, Session}
use Rattle.ivy_session.specs.declared.served.Served.{Served}
use Rattle.ivy_session.specs.declared.session.Next.{Next}
use Rattle.ivy_session.specs.declared.session.Next.TheVariants as next
use Rattle.ivy_session.specs.States.{SessionState, is_turning}
use Rattle.ivy_session.specs.Stepping.{IsNext, NextIs}
use Rattle.ivy_session.specs.Stepping.NextIs.{settles}
use Rattle.ivy_session.proofs.Ended.{over_is_past}
use Rattle.script_participants.specs.ParticipantState.{ParticipantState, state_of}
use Rattle.world_model.specs.Steps.{Configuration}
use Rattle.world_model.specs.World.{Participant, World, with_participant}
use Rattle.session_steps.specs.Configurations.{IsDone, IsConfigurationOf, given_at}
use Rattle.session_steps.specs.Configurations.IsDone.{was_over, lacks_memory, is_cut}
use Rattle.session_steps.specs.Representing.{CallState, IsTold, IsInProgress, IsUntold, Shown, Represents, RepresentsBy, RepresentsSession, StepsFrom, StepsTo, judges, shown}
use Rattle.session_steps.specs.Within.{HasNext, Laws}
use Rattle.session_steps.proofs.Configurations.{as_told, by_step, left_is, same_nodes, configuration_of, stayed, stays, stepped, untold}
use Rattle.session_steps.proofs.Asks.{wants_there, with_cache}

settled_no_turn : {old new : SessionState HssJudge} {s : Session} {before after : Cache} {acks : List Ack} → NextIs judges old new s before after (next.Settle acks) → is_turning new.stage ≡ false
settled_no_turn {new = new} {s = s} (settles said acks at free same session) = over_is_past judges (record s { stage = Over said }) new said refl session

module _ (c : Configuration) (r : ℕ) (old : Shown) (way : IsInProgress c r) (shows : Represents c r old) (none : old.call.told ≡ None) (mid : CallState) (between : ParticipantState) (laws : Laws) where
  is_untold : IsUntold c.session old.call
  is_untold = untold c.session old.call none shows.session

  configuration : IsConfigurationOf judges c r shows.p old.call.session
  configuration = configuration_of c r old way shows is_untold

  -- its participant, with the cache as it is then
  abbrev mine : Participant
  mine = record shows.p { cache = between.cache }

  module _ (wanted : Next) (h : HasNext old.call mid old.who between wanted) where
    wants : IsNext judges old.call.session mid.session shows.p.cache between.cache wanted
    wants = wants_there c r old way shows none mid between h

    is_mine : state_of mine ≡ between
    is_mine = with_cache c r old way shows none mid between h

    same_given : mid.given ≡ given_at c.session.stage
    same_given = ap (λ (call : CallState). call.given) h.call ∙ is_untold.gives

  -- that the agent drops what was acknowledged is a step
  pub settles_step : (acks : List Ack) (after : ParticipantState) → HasNext old.call mid old.who between (next.Settle acks) → after ≡ record between { agent = settled between.agent acks } → mid.session.is_cut ≡ false
      → StepsTo c r (shown mid old.nodes after old.met old.now)
  settles_step acks after h dropped whole =
      let step = laws.settlings judges c r shows.p old.call.session mid.session between.cache acks configuration (wants (next.Settle acks) h) in
      by_step c r old way shows laws (shown mid old.nodes after old.met old.now) (record mine { agent = settled shows.p.agent acks }) c.world.met is_untold step
      (left_is step.left whole (λ t may lacking session. may))
      (record {
        world = ap (λ (w : World). with_participant w (record mine { agent = settled shows.p.agent acks })) (sym (same_nodes c r old way shows));
        named = refl;
        who = ap (λ (who : ParticipantState). record who { agent = settled who.agent acks }) (is_mine (next.Settle acks) h) ∙ sym dropped;
        are_met = shows.met;
        now = refl;
        replicas = (wants (next.Settle acks) h).0.1 ∙ shows.replicas;
        no_turn = settled_no_turn ((wants (next.Settle acks) h).1 c.session is_untold.session);
        gives = same_given (next.Settle acks) h;
        untold = ap (λ (call : CallState). call.told) h.call ∙ none;
      })

  -- ---- it is done

  module _ (told : Served) (h : HasNext old.call mid old.who between (next.Done told)) where
    abbrev then_shown : Shown
    then_shown = shown (record mid { told = Some told }) old.nodes between old.met old.now

    by : mid.session.is_cut ≡ false → IsDone c r shows.p mid.session between.cache told → StepsTo c r then_shown
    by whole (was_over said at is_told noted same) = stayed c r old way shows then_shown shows.p c.world.met said at (record {
      world = stays c r old way shows;
      named = refl;
      who = ap (λ (cache : Cache). state_of (record shows.p { cache = cache })) (sym same) ∙ is_mine (next.Done told) h;
      are_met = shows.met;
      now = refl;
      replicas = (wants (next.Done told) h).0.1 ∙ shows.replicas;
      session = as_told c.session then_shown.call told refl (record { said = said; is_over = at; is_told = is_told; noted = noted; gives = same_given (next.Done told) h });
    })
    by whole (lacks_memory then said steps at is_told gives noted world) = stepped c r old way shows then_shown then mine c.world.met laws steps (record {
      world = world ∙ ap (λ (w : World). with_participant w mine) (sym (same_nodes c r old way shows));
      named = refl;
      who = is_mine (next.Done told) h;
      are_met = shows.met;
      now = refl;
      replicas = (wants (next.Done told) h).0.1 ∙ shows.replicas;
      session = as_told then.session then_shown.call told refl (record { said = Some said; is_over = at; is_told = is_told; noted = noted; gives = same_given (next.Done told) h ∙ sym gives });
    })
    by whole (is_cut cut) = cc (cut, whole)

    -- it was over, or memory ran out
    pub done_step : mid.session.is_cut ≡ false → StepsTo c r then_shown
    done_step whole = by whole (laws.done judges c r shows.p old.call.session mid.session between.cache told configuration (wants (next.Done told) h))

-- a call that was told to be over stays
pub told_stays : (old : Shown) (told : Served) → old.call.told ≡ Some told → StepsFrom old old
told_stays old told is c r way shows =
    let over = shows_told told is shows.session in
    stayed c r old way shows old shows.p c.world.met over.said over.is_over (record {
      world = stays c r old way shows;
      named = refl;
      who = shows.who;
      are_met = shows.met;
      now = refl;
      replicas = shows.replicas;
      session = shows.session;
    })
  where
    shows_told : (told : Served) → old.call.told ≡ Some told → RepresentsSession c.session old.call → IsTold c.session old.call told
    shows_told told is shows = subst (λ (o : Option Served). RepresentsBy c.session old.call o) is shows

some_of : (P : Type 0) (o : Option Served) → is_some o ≡ true → ((told : Served) → o ≡ Some told → P) → P
some_of P None is each = cc is
some_of P (Some told) is each = each told refl

pub is_told_stays : (old : Shown) → is_some old.call.told ≡ true → StepsFrom old old
is_told_stays old is = some_of (StepsFrom old old) old.call.told is (told_stays old)
