-- An ask of a session in code, with its fate and its hearing, is a step of the configuration.
use Rattle.std.proofs.Common.{◌≡◌, ◌⊎◌, ℕ, true, false, List, map, Option, Result, Ok, refl, sym, ap, ◌∙◌, subst}
use Rattle.ivy_base.specs.declared.memory.Memory.{Memory}
use Rattle.dhash_model.specs.Signed.{hss_judged}
use Rattle.ring_model.specs.Members.{IsAmong}
use Rattle.dht_ids.specs.declared.ask.Answer.{Answer}
use Rattle.dht_ids.specs.declared.ask.Ask.{Ask}
use Rattle.dht_ids.specs.declared.peer.Peer.{Peer}
use Rattle.dht_ids.specs.declared.post.Ack.{Ack}
use Rattle.dht_ids.specs.declared.post.Post.{Post}
use Rattle.dhash_client.specs.GetHead.{Judges}
use Rattle.session_model.specs.Executions.{Fails, LacksMemory}
use Rattle.session_model.specs.Executions.Fails.{goes_on as refresh_goes}
use Rattle.session_model.specs.Sessions.{Cache, Hears, Publishing, Said, Session}
use Rattle.ivy_session.specs.declared.session.Next.TheVariants as next
use Rattle.ivy_session.specs.States.{IsSession, SessionState, is_turning}
use Rattle.ivy_session.specs.Stepping.{AsksOf, HeardIs, IsSameSession, NextIs}
use Rattle.ivy_session.specs.Stepping.HeardIs.{hears as heard_it, lacks_memory as no_memory_heard, is_cut as cut_heard}
use Rattle.ivy_session.specs.Stepping.NextIs.{asks as next_asks, asks_again}
use Rattle.ivy_session.proofs.Ended.{lacking_is_over, over_has_asked}
use Rattle.ivy_session.proofs.Hearing.{PutHears, hears_some, publishing_hears, publishing_now}
use Rattle.ivy_session.proofs.Wanted.{AsksThen, asks_then}
use Rattle.ring_nodes.specs.NodesState.{NodesState, IsNodesOf, with_nodes}
use Rattle.world_model.specs.Fates.{FateOf}
use Rattle.world_model.specs.World.{World, Participant, peer_of, with_participant}
use Rattle.world_model.specs.Steps.{Configuration, ask_told, with_cache}
use Rattle.world_model.specs.Steps.Acts.{asks as acts_asks, asks_in_vain}
use Rattle.world_model.specs.Steps.Steps.{acts}
use Rattle.world_laws.specs.Invariant.{GoesOn, OnlyPublishes}
use Rattle.session_steps.specs.Laws.{AsksAreSteps, NextAskedAreMade}
use Rattle.session_steps.specs.Configurations.{IsLeft, IsConfigurationOf, IsStep, given_at}
use Rattle.session_steps.specs.Configurations.IsLeft.{goes_on as left_on, is_cut as left_cut}
use Rattle.session_steps.proofs.Asked.{asks_made, knows_made, taken_knows}
use Rattle.session_steps.proofs.ConfigurationSteps.{as_ring, as_ring_then, fails_gives, hears_gives, lacking_gives, taken_gives, twice_placed}

same_answer : (a b : Answer) → ◌≡◌ {A = Result Answer Memory} (Ok a) (Ok b) → a ≡ b
same_answer a b e = cc e

-- ---- what is asked next

module _ {J : Type 0} (judges : Judges J) (c : Configuration) (r : ℕ) (p : Participant) (old : SessionState J) (is : IsConfigurationOf judges c r p old) where
  -- what was available is taken, and then the session asks that
  abbrev pub Asks : SessionState J → Cache → Peer → Ask → Type 0
  Asks = AsksThen judges hss_judged r c.session p.cache

  -- the node was made
  next_made : (mid : SessionState J) (between : Cache) (node : Peer) (question : Ask) → GoesOn c.world r c.session ⊎ OnlyPublishes c.world r c.session → NextIs judges old mid c.session p.cache between (next.Ask node question)
      → IsAmong node (map peer_of c.world.nodes)
  next_made mid between node question goes (next_asks t _ _ takes session awaited asks) =
      asks_made c.world r t node question (taken_knows c.world takes (knows_made c.world r c.session goes)) (as_ring judges c r p old is (λ judged n. AsksOf judged n t node question) asks)
  next_made mid between node question goes (asks_again _ _ waits awaited session asks same) =
      asks_made c.world r c.session node question (knows_made c.world r c.session goes) (as_ring judges c r p old is (λ judged n. AsksOf judged n c.session node question) asks)

  -- ---- the step

  module _ (mid new : SessionState J) (between after : Cache) (node : Peer) (question : Ask) (given : Answer) (before later : NodesState) (same : IsSameSession old mid) (then_asks : Asks mid between node question)
      (nodes : IsNodesOf c.world before) (fate : (w : World) → IsNodesOf w before → FateOf hss_judged w node question given (with_nodes w later))
      (past : is_turning new.stage ≡ false) where
    abbrev here : Configuration
    here = with_cache hss_judged r c p then_asks.taken between

    abbrev mine : Participant
    mine = record p { cache = between }

    fate_now : FateOf hss_judged here.world node question given (with_nodes here.world later)
    fate_now = fate here.world nodes

    same_world : with_participant (with_nodes here.world later) (record p { cache = after }) ≡ with_participant (with_nodes c.world later) (record p { cache = after })
    same_world = twice_placed (with_nodes c.world later) mine (record p { cache = after }) refl

    heard_so : (heard t : Session) → Hears hss_judged r then_asks.taken between node question given heard after → Fails heard t → IsLeft judges ⊥ t new → IsStep judges c r new ⊥ (with_participant (with_nodes c.world later) (record p { cache = after })) (given_at c.session.stage)
    heard_so heard t hearing goes left = record {
      next = record { world = with_participant (with_nodes here.world later) (record p { cache = after }); ghost_state = ask_told c.ghost_state p.name then_asks.taken t; session = t; began = c.began };
      steps = acts p then_asks.taken between _ is.is_by then_asks.takes (acts_asks node question given (with_nodes here.world later) heard t after fate_now hearing goes);
      left = left;
      world = same_world;
      gives = fails_gives goes ∙ hears_gives hearing ∙ taken_gives then_asks.takes;
    }

    -- where memory runs out
    in_vain : (t : Session) → LacksMemory then_asks.taken t → after ≡ between → IsSession judges t new → IsStep judges c r new ⊥ (with_participant (with_nodes c.world later) (record p { cache = after })) (given_at c.session.stage)
    in_vain t lacking stays session =
        let h = hears_some hss_judged r then_asks.taken between node question given then_asks.asks in
        let over = lacking_is_over lacking in
        record {
          next = record here { world = with_nodes here.world later; session = t };
          steps = acts p then_asks.taken between _ is.is_by then_asks.takes (asks_in_vain node question given (with_nodes here.world later) h.0 t h.1 fate_now h.2 lacking);
          left = left_on session (over_has_asked judges t new over.0 over.1 session) past;
          world = ap (λ (cache : Cache). with_participant (with_nodes c.world later) (record p { cache = cache })) (sym stays);
          gives = (lacking_gives lacking).0 ∙ sym (lacking_gives lacking).1 ∙ taken_gives then_asks.takes;
        }

    cut_so : (said : Option Said) (posts : List Post) (acks : List Ack) → then_asks.taken.stage ≡ Publishing said posts acks → new.is_cut ≡ true → after ≡ between
        → IsStep judges c r new ⊥ (with_participant (with_nodes c.world later) (record p { cache = after })) (given_at c.session.stage)
    cut_so said posts acks at cut stays =
        let h : PutHears hss_judged r then_asks.taken between (node, question) given said = publishing_hears hss_judged r then_asks.taken between node question given said posts acks at then_asks.asks in
        heard_so h.heard h.heard (subst (Hears hss_judged r then_asks.taken between node question given h.heard) (sym stays) h.hears)
        (refresh_goes (λ notes brought miss stage refreshes. publishing_now h.heard said h.publishes.0 h.publishes.1 h.publishes.2 stage)) (left_cut cut)

    by_hearing : HeardIs judges mid new then_asks.taken between after node question (Ok given) → IsStep judges c r new ⊥ (with_participant (with_nodes c.world later) (record p { cache = after })) (given_at c.session.stage)
    by_hearing (heard_it answer heard t is_answer hearing goes session asked) =
        heard_so heard t
        (as_ring_then judges c r p old is mid same (λ judged n. Hears judged n then_asks.taken between node question given heard after)
        (subst (λ (a : Answer). Hears (judges mid.judge) mid.replicas then_asks.taken between node question a heard after) (sym (same_answer given answer is_answer)) hearing))
        goes (left_on session asked past)
    by_hearing (no_memory_heard t lacking stays session) = in_vain t lacking stays session
    by_hearing (cut_heard said posts acks at cut stays session) = cut_so said posts acks at cut stays

pub next_asked_are_made : {J : Type 0} → NextAskedAreMade J
next_asked_are_made judges c r p old mid between node question is goes wanted = next_made judges c r p old is mid between node question goes (wanted.1 c.session is.session)

pub asks_are_steps : {J : Type 0} → AsksAreSteps J
asks_are_steps judges c r p old mid new between after node question given before later is asked wanted nodes fate heard past =
    let then_asks = asks_then judges hss_judged r c.session p.cache old is.judge is.replicas mid between node question asked (wanted.1 c.session is.session) in
    by_hearing judges c r p old is mid new between after node question given before later wanted.0 then_asks nodes fate past (heard.1 then_asks.taken node question then_asks.awaited then_asks.session)
