-- What is wanted next of a call that is shown, and an ask of it.
use Rattle.std.proofs.Common.{◌≡◌, ◌≢◌, ◌⊎◌, inl, inr, ⊎_elim, ℕ, false, List, map, Option, Some, None, refl, sym, ap, ◌∙◌, subst}
use Rattle.log_heads.specs.declared.judge.HssJudge.{HssJudge}
use Rattle.ring_model.specs.Members.{IsAmong}
use Rattle.dht_ids.specs.Asked.{IsForData}
use Rattle.dht_ids.specs.declared.ask.Ask.{Ask}
use Rattle.dht_ids.specs.declared.ask.Ask.TheVariants as ask
use Rattle.dht_ids.specs.declared.peer.Peer.{Peer}
use Rattle.session_model.specs.Sessions.{Cache, Session}
use Rattle.ivy_session.specs.declared.session.Next.{Next}
use Rattle.ivy_session.specs.declared.session.Next.TheVariants as next
use Rattle.ivy_session.specs.States.{SessionState, is_told, is_turning, session_awaited}
use Rattle.ivy_session.specs.Stepping.{IsNext, NextIs}
use Rattle.ivy_session.specs.Stepping.NextIs.{asks, asks_again}
use Rattle.ivy_session.proofs.Ended.{not_told}
use Rattle.ivy_session.proofs.Hearing.{asks_for_data}
use Rattle.ring_nodes.specs.NodesState.{BringsOnly, NodesState, made_peers}
use Rattle.script_participants.specs.ParticipantState.{ParticipantState, state_of}
use Rattle.world_model.specs.World.{peer_of}
use Rattle.world_model.specs.Steps.{Configuration}
use Rattle.world_laws.specs.Invariant.{GoesOn, OnlyPublishes}
use Rattle.session_steps.specs.Representing.{CallState, HasConfiguration, IsInProgress, IsUntold, Shown, Represents, StepsTo, judges, shown}
use Rattle.session_steps.specs.Within.{HasAskedOf, HasNext, Laws, MayAsk}
use Rattle.session_steps.proofs.Configurations.{by_step, left_is, configuration_of, untold}

-- ---- before it is known what is wanted

-- the session may be asked what it wants
pub may_want : (old : Shown) → HasConfiguration old → old.call.told ≡ None → (is_turning old.call.session.stage ≡ false) × (is_told old.call.session.stage ≡ false)
may_want old configuration none =
    let is = untold configuration.0.session old.call none configuration.3.session in
    (is.no_turn, not_told judges configuration.0.session old.call.session is.session)

-- ---- whom it asks

-- a question for data is no notice
data_brings : (made : List Peer) (question : Ask) → IsForData question → BringsOnly made question
data_brings made (ask.Route key) is = tt
data_brings made ask.Near is = absurd is
data_brings made (ask.Notify peer) is = absurd is
data_brings made (ask.Get key) is = tt
data_brings made (ask.PutBlock key bytes) is = tt
data_brings made (ask.PutHead key bytes) is = tt

awaits : {node : Peer} {question : Ask} (o : Option (Peer × Ask)) → o ≡ Some (node, question) → o ≢ None
awaits o is none = cc (sym none ∙ is)

next_brings : (made : List Peer) {old new : SessionState HssJudge} {s : Session} {before after : Cache} {node : Peer} {question : Ask} → NextIs judges old new s before after (next.Ask node question)
    → BringsOnly made question × (session_awaited new ≢ None)
next_brings made {new = new} (asks t node question takes session awaited of) = (data_brings made question (asks_for_data of), awaits (session_awaited new) awaited)
next_brings made {new = new} (asks_again node question waits awaited session of same) = (data_brings made question (asks_for_data of), awaits (session_awaited new) awaited)

-- ---- what is wanted of a configuration that is represented

module _ (c : Configuration) (r : ℕ) (old : Shown) (way : IsInProgress c r) (shows : Represents c r old) (none : old.call.told ≡ None) (mid : CallState) (between : ParticipantState) where
  -- the configuration's participant had that cache
  pub wants_there : {wanted : Next} → HasNext old.call mid old.who between wanted → IsNext judges old.call.session mid.session shows.p.cache between.cache wanted
  wants_there {wanted} h = subst (λ (who : ParticipantState). IsNext judges old.call.session mid.session who.cache between.cache wanted) (sym shows.who) h.wants

  pub goes : GoesOn c.world r c.session ⊎ OnlyPublishes c.world r c.session
  goes = ⊎_elim (λ hand. inl hand.goes_on) (λ only. inr only) way.hand

  -- the participant has another cache, and nothing else changed
  pub with_cache : {wanted : Next} → HasNext old.call mid old.who between wanted → state_of (record shows.p { cache = between.cache }) ≡ between
  with_cache h = ap (λ (who : ParticipantState). record who { cache = between.cache }) shows.who ∙ sym h.who

  is_untold : IsUntold c.session old.call
  is_untold = untold c.session old.call none shows.session

  pub asked_may_be : Laws → (node : Peer) (question : Ask) → HasNext old.call mid old.who between (next.Ask node question) → MayAsk mid old.nodes node question
  asked_may_be laws node question h =
      let wants = wants_there h in
      let brings = next_brings (made_peers old.nodes) (wants.1 c.session is_untold.session) in
      record {
        made = subst (λ nodes. IsAmong node (map peer_of nodes)) shows.nodes.0
            (laws.made judges c r shows.p old.call.session mid.session between.cache node question (configuration_of c r old way shows is_untold) goes wants);
        brings = brings.0;
        waits = brings.1;
      }

  -- the ask is a step
  pub asks_step : Laws → (new : CallState) (after : ParticipantState) (later : NodesState) (node : Peer) (question : Ask) → HasNext old.call mid old.who between (next.Ask node question)
      → HasAskedOf node question mid new old.nodes later between after → new.session.is_cut ≡ false → StepsTo c r (shown new later after old.met old.now)
  asks_step laws new after later node question h asked whole =
      let wants = wants_there h in
      let step = laws.asks judges c r shows.p old.call.session mid.session new.session between.cache after.cache node question asked.answer old.nodes later (configuration_of c r old way shows is_untold) is_untold.asked wants
      shows.nodes asked.fate asked.heard.heard asked.heard.no_turn in
      by_step c r old way shows laws (shown new later after old.met old.now) (record shows.p { cache = after.cache }) c.world.met is_untold step
      (left_is step.left whole (λ t may lacking session. may))
      (record {
        world = refl;
        named = refl;
        who = ap (λ (who : ParticipantState). record who { cache = after.cache }) (with_cache h) ∙ sym asked.heard.who;
        are_met = shows.met;
        now = refl;
        replicas = asked.heard.heard.0.1 ∙ wants.0.1 ∙ shows.replicas;
        no_turn = asked.heard.no_turn;
        gives = ap (λ (call : CallState). call.given) asked.heard.call ∙ ap (λ (call : CallState). call.given) h.call ∙ is_untold.gives;
        untold = ap (λ (call : CallState). call.told) asked.heard.call ∙ ap (λ (call : CallState). call.told) h.call ∙ none;
      })

-- some configuration is represented
pub may_ask : Laws → (old : Shown) → HasConfiguration old → old.call.told ≡ None → (mid : CallState) (between : ParticipantState) (node : Peer) (question : Ask) → HasNext old.call mid old.who between (next.Ask node question)
    → MayAsk mid old.nodes node question
may_ask laws old configuration none mid between node question h = asked_may_be configuration.0 configuration.1 old configuration.2 configuration.3 none mid between laws node question h
