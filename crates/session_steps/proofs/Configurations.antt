-- A configuration in progress that is represented, and what is represented after a step of it.
use Rattle.std.proofs.Common.{◌≡◌, inl, inr, ℕ, false, List, Option, Some, None, refl, sym, ap, ◌∙◌, subst}
use Rattle.dhash_model.specs.Signed.{hss_judged}
use Rattle.session_model.specs.Sessions.{Over, Said, Session}
use Rattle.dhash_client.specs.GetHead.{Judges}
use Rattle.session_model.specs.Executions.{LacksMemory}
use Rattle.ivy_session.specs.declared.served.Served.{Served}
use Rattle.ivy_session.specs.States.{HasAsked, IsSession, SessionState, is_turning}
use Rattle.ring_nodes.specs.NodesState.{IsNodesOf, with_nodes}
use Rattle.session_steps.specs.MetState.{AreMet}
use Rattle.script_model.specs.Messages.{Given}
use Rattle.script_participants.specs.ParticipantState.{state_of}
use Rattle.world_model.specs.World.{Participant, World, participant, with_participant}
use Rattle.world_model.specs.Steps.{Configuration, Steps}
use Rattle.world_laws.proofs.Frames.{found_placed, placed_itself}
use Rattle.session_steps.specs.Configurations.{IsLeft, IsConfigurationOf, IsStep}
use Rattle.session_steps.specs.Configurations.IsLeft.{goes_on, lacks_memory, is_cut}
use Rattle.session_steps.specs.Representing.{CallState, IsTold, IsInProgress, IsUntold, Leaves, Shown, Represents, RepresentsBy, RepresentsSession, StepsTo, judges, world_left}
use Rattle.session_steps.specs.Within.{Laws}

-- ---- sessions

pub untold : (s : Session) (call : CallState) → call.told ≡ None → RepresentsSession s call → IsUntold s call
untold s call none shows = subst (λ (o : Option Served). RepresentsBy s call o) none shows

pub as_untold : (s : Session) (call : CallState) → call.told ≡ None → IsUntold s call → RepresentsSession s call
as_untold s call none shows = subst (λ (o : Option Served). RepresentsBy s call o) (sym none) shows

pub as_told : (s : Session) (call : CallState) (told : Served) → call.told ≡ Some told → IsTold s call told → RepresentsSession s call
as_told s call told is shows = subst (λ (o : Option Served). RepresentsBy s call o) (sym is) shows

-- where memory didn't run out after it, the session in code is that one
pub left_is : {J : Type 0} {judges : Judges J} {may : Type 0} {s : Session} {st : SessionState J} → IsLeft judges may s st → st.is_cut ≡ false → ((t : Session) → may → LacksMemory s t → IsSession judges t st → ⊥)
    → IsSession judges s st × HasAsked st s
left_is (goes_on session asked no_turn) whole not = (session, asked)
left_is (lacks_memory t may lacking session) whole not = absurd (not t may lacking session)
left_is (is_cut cut) whole not = cc (cut, whole)

-- ---- a configuration

module _ (c : Configuration) (r : ℕ) (old : Shown) (way : IsInProgress c r) (shows : Represents c r old) where
  -- the world has these nodes
  pub same_nodes : with_nodes c.world old.nodes ≡ c.world
  same_nodes = λ i. record c.world { nodes = sym shows.nodes.0 i; asked = sym shows.nodes.1 i; lost = sym shows.nodes.2 i }

  -- and the participant in its own place
  pub stays : c.world ≡ world_left c.world old.nodes c.world.met shows.p
  stays = sym (ap (λ (w : World). with_participant w shows.p) same_nodes ∙ placed_itself c.world way.keeps.apart c.session.by shows.p shows.is_by)

  pub configuration_of : IsUntold c.session old.call → IsConfigurationOf judges c r shows.p old.call.session
  configuration_of is = record { is_by = shows.is_by; some_entry = is.some_entry; session = is.session; judge = refl; replicas = shows.replicas }

  module _ (new : Shown) (next : Configuration) (p : Participant) (met : List (List ℕ)) where
    -- what is to be seen of the participant, the blocks met and the session that are shown then
    pub record IsShownBy : Type 0 where
      pub world : next.world ≡ world_left c.world new.nodes met p
      pub named : p.name ≡ shows.p.name
      pub who : state_of p ≡ new.who
      pub are_met : AreMet met new.met
      pub now : new.now ≡ old.now
      pub replicas : new.call.session.replicas ≡ r
      pub session : RepresentsSession next.session new.call

    found : p.name ≡ shows.p.name → participant (world_left c.world new.nodes met p) c.session.by ≡ Some p
    found named = found_placed (with_nodes c.world new.nodes) way.keeps.apart c.session.by shows.p shows.is_by p named

    pub leaves_so : next.session.by ≡ c.session.by → IsShownBy → Leaves c r new next
    leaves_so by is = record {
      shows = record {
        p = p;
        is_by = subst (λ (name : List ℕ). participant next.world name ≡ Some p) (sym by) (subst (λ (w : World). participant w c.session.by ≡ Some p) (sym is.world) (found is.named));
        who = is.who;
        nodes = subst (λ (w : World). IsNodesOf w new.nodes) (sym is.world) (refl, refl, refl);
        met = subst (λ (w : World). AreMet w.met new.met) (sym is.world) is.are_met;
        now = subst (λ (w : World). w.now ≡ new.now) (sym is.world) (shows.now ∙ sym is.now);
        replicas = is.replicas;
        session = is.session;
      };
      world = is.world ∙ ap (λ (blocks : List (List ℕ)). world_left c.world new.nodes blocks p) (sym (ap (λ (w : World). w.met) is.world));
    }

    pub stepped : Laws → Steps hss_judged r c.session.by c next → IsShownBy → StepsTo c r new
    stepped laws steps is = record { next = next; steps = inl steps; leaves = leaves_so (laws.one_call r c.session.by c next steps).0 is }

  -- a session that is over stays
  pub stayed : (new : Shown) (p : Participant) (met : List (List ℕ)) (said : Option Said) → c.session.stage ≡ Over said → IsShownBy new c p met → StepsTo c r new
  stayed new p met said over is = record { next = c; steps = inr (refl, said, over); leaves = leaves_so new c p met refl is }

  -- ---- what a law says is a step

  module _ (laws : Laws) (new : Shown) (p : Participant) (met : List (List ℕ)) (is : IsUntold c.session old.call) where
    -- what the calls of the step leave
    pub record IsLeftSo (after : World) (given : Given) : Type 0 where
      pub world : after ≡ world_left c.world new.nodes met p
      pub named : p.name ≡ shows.p.name
      pub who : state_of p ≡ new.who
      pub are_met : AreMet met new.met
      pub now : new.now ≡ old.now
      pub replicas : new.call.session.replicas ≡ r
      pub no_turn : is_turning new.call.session.stage ≡ false
      pub gives : new.call.given ≡ given
      pub untold : new.call.told ≡ None

    pub by_step : {may : Type 0} {after : World} {given : Given} (step : IsStep judges c r new.call.session may after given) → IsSession judges step.next.session new.call.session × HasAsked new.call.session step.next.session
        → IsLeftSo after given → StepsTo c r new
    by_step step goes left = stepped new step.next p met laws step.steps (record {
      world = step.world ∙ left.world;
      named = left.named;
      who = left.who;
      are_met = left.are_met;
      now = left.now;
      replicas = left.replicas;
      session = as_untold step.next.session new.call left.untold (record {
        some_entry = λ none. is.some_entry (sym (laws.one_call r c.session.by c step.next step.steps).2 ∙ none);
        session = goes.0;
        asked = goes.1;
        no_turn = left.no_turn;
        gives = left.gives ∙ sym step.gives;
      });
    })
