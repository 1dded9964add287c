-- Many steps of a session, and all up to its end, leave what one does.
use Rattle.std.proofs.Common.{◌≡◌, ⊎_elim, ℕ, Bool, List, [], ◌++◌, Option, Some, refl, sym, ap, ◌∙◌, subst, append_assoc}
use Rattle.std.proofs.lemmas.List.{append-nil}
use Rattle.std.proofs.lemmas.List.Elements.{Contains-append_cases}
use Rattle.ivy_base.specs.declared.key.Key.{Key}
use Rattle.ivy_base.specs.declared.operation.Moment.{Moment}
use Rattle.dhash_model.specs.Signed.{hss_judged}
use Rattle.log_model.proofs.Lists.{in_nothing}
use Rattle.log_model.specs.View.{View}
use Rattle.dht_ids.specs.declared.ask.Answer.{Answer}
use Rattle.dht_ids.specs.declared.ask.Ask.{Ask}
use Rattle.dht_ids.specs.declared.judge.Judged.{Judged}
use Rattle.dht_ids.specs.declared.peer.Peer.{Peer}
use Rattle.agent_model.specs.Turning.{TurnEnd}
use Rattle.session_model.specs.Executions.{Fails, LacksMemory, Settles, TakesTurn}
use Rattle.session_model.specs.Executions.Fails.{fails, goes_on}
use Rattle.session_model.specs.Executions.LacksMemory.{lacks}
use Rattle.session_model.specs.Executions.Settles.{settles as settles_all}
use Rattle.session_model.specs.Executions.TakesTurn.{answers as turn_answers, begins_again, gives_up}
use Rattle.session_model.specs.Sessions.{Cache, Hears, Session, Takes, TakesAll, TakesSome}
use Rattle.session_model.specs.Sessions.Hears.{gets_on, got, puts_on, puts}
use Rattle.session_model.specs.Sessions.Takes.{posted, cached}
use Rattle.session_model.specs.Sessions.TakesAll.{none as takes_none, more as takes_more}
use Rattle.session_model.specs.Sessions.TakesSome.{none as some_none, more as some_more}
use Rattle.world_model.specs.Agents.{HssAgent, HssKept, hss_signing}
use Rattle.world_model.specs.Fates.{FateOf}
use Rattle.world_model.specs.Fates.FateOf.{lost, stopped, answers}
use Rattle.world_model.specs.Keepers.{fails_next}
use Rattle.world_model.specs.World.{World, Participant, participant}
use Rattle.world_model.specs.GhostState.{HadTurn}
use Rattle.world_model.specs.Steps.{Acts, RunsOut, Configuration, Steps, StepsOn, with_cache}
use Rattle.world_model.specs.Steps.Acts.{asks, asks_in_vain, turns, is_refused, settles}
use Rattle.world_model.specs.Steps.Steps.{acts, lacks_memory}
use Rattle.world_model.specs.Steps.RunsOut.{is_over as runs_over, more as runs_more}
use Rattle.world_model.specs.Steps.StepsOn.{none as steps_none, is_over as steps_over, more as steps_more}
use Rattle.world_laws.specs.Invariant.{IsInHand, Invariant}
use Rattle.world_laws.specs.Laws.{AllStepsKeep, ManyStepsKeep, StepLeaves}
use Rattle.world_laws.proofs.Bringing.{some_same}
use Rattle.world_laws.proofs.EachStep.{each_step_keeps}

-- ---- what a step leaves as it was

-- it is a session of the same participant, in the same view, with the same message
abbrev pub IsSameCall : Session → Session → Type 0
IsSameCall s t = (t.by ≡ s.by) × (t.message ≡ s.message) × (t.standing.view ≡ s.standing.view)

same_then : (s t u : Session) → IsSameCall s t → IsSameCall t u → IsSameCall s u
same_then s t u one other = (other.0 ∙ one.0, other.1 ∙ one.1, other.2 ∙ one.2)

-- it has the same number, in a ring of the same r, among the same open sessions
pub record IsSameConfiguration (c next : Configuration) : Type 0 where
  pub call : IsSameCall c.session next.session
  pub number : next.began.number ≡ c.began.number
  pub replicas : next.world.replicas ≡ c.world.replicas
  pub sessions : next.world.sessions ≡ c.world.sessions
  pub told : next.ghost_state.sessions ≡ c.ghost_state.sessions

module _ {judged : Key → List ℕ → Option Judged} {r : ℕ} where
  hears_same : (s : Session) (cache : Cache) (node : Peer) (question : Ask) (answer : Answer) (heard : Session) (after : Cache) → Hears judged r s cache node question answer heard after → IsSameCall s heard
  hears_same s cache node question answer _ _ (gets_on want wants next part) = (refl, refl, refl)
  hears_same s cache node question answer _ _ (got want brought wants next whole) = (refl, refl, refl)
  hears_same s cache node question answer _ _ (puts_on said p posts acks at next part) = (refl, refl, refl)
  hears_same s cache node question answer _ _ (puts said p posts acks came at next whole) = (refl, refl, refl)

  takes_same : (s t : Session) (cache after : Cache) → Takes judged r s cache t after → IsSameCall s t
  takes_same s _ cache _ (posted key bytes wants none is) = (refl, refl, refl)
  takes_same s _ cache _ (cached key bytes wants none missing is) = (refl, refl, refl)

  takes_all_same : {s t : Session} {cache after : Cache} → TakesAll judged r s cache t after → IsSameCall s t
  takes_all_same (takes_none none) = (refl, refl, refl)
  takes_all_same (takes_more {s} {mid} {t} {cache} {between} {after} first rest) = same_then s mid t (takes_same s mid cache between first) (takes_all_same rest)

  takes_some_same : {s t : Session} {cache after : Cache} → TakesSome judged r s cache t after → IsSameCall s t
  takes_some_same some_none = (refl, refl, refl)
  takes_some_same (some_more {s} {mid} {t} {cache} {between} {after} first rest) = same_then s mid t (takes_same s mid cache between first) (takes_some_same rest)

fails_same : (s t : Session) → Fails s t → IsSameCall s t
fails_same s _ (fails notes given miss xid asked at refreshed asks_it) = (refl, refl, refl)
fails_same s _ (goes_on none) = (refl, refl, refl)

lacks_same : (s t : Session) → LacksMemory s t → IsSameCall s t
lacks_same s _ (lacks notes shown given end xid asked at refreshed asks_it rest front) = (refl, refl, refl)

settles_same : (a : HssAgent) (s : Session) (after : HssAgent) (t : Session) → Settles a s after t → IsSameCall s t
settles_same a s _ _ (settles_all said acks at) = (refl, refl, refl)

turn_same : (now : Moment) (a : HssAgent) (view : View) (failing : Bool) (s : Session) (end : TurnEnd) (after : HssAgent) (saving : Option HssKept) (t : Session) → view ≡ s.standing.view → TakesTurn hss_signing (record { agent = a; view = view; now = now; fails = failing }) s end after saving t → IsSameCall s t
turn_same now a view failing s _ _ _ _ is (turn_answers notes given xid asked reply applied after saving done asks_it turned) = (refl, refl, refl)
turn_same now a view failing s _ _ _ _ is (begins_again notes given xid asked end after saving done asks_it turned refused few) = (refl, refl, is)
turn_same now a view failing s _ _ _ _ is (gives_up notes given xid asked end after saving done asks_it turned refused many) = (refl, refl, refl)

fate_same : {judged : Key → List ℕ → Option Judged} {w next : World} {to : Peer} {question : Ask} {answer : Answer} → FateOf judged w to question answer next → (next.replicas ≡ w.replicas) × (next.sessions ≡ w.sessions)
fate_same (lost l) = (refl, refl)
fate_same (stopped n l is dead) = (refl, refl)
fate_same (answers n l is live) = (refl, refl)

one_view : (a b : View) → Some a ≡ Some b → a ≡ b
one_view a b e = cc e

module _ (r : ℕ) where
  acts_same : (c next : Configuration) (p : Participant) → p.agent.view ≡ Some c.session.standing.view → Acts hss_judged r p c next → IsSameConfiguration c next
  acts_same c _ p enters (asks node question answer next heard t cache fate hears goes) = record {
    call = same_then c.session heard t (hears_same c.session p.cache node question answer heard cache hears) (fails_same heard t goes);
    number = refl;
    replicas = (fate_same fate).0;
    sessions = (fate_same fate).1;
    told = refl;
  }
  acts_same c _ p enters (asks_in_vain node question answer next heard t cache fate hears lacking) =
      record { call = lacks_same c.session t lacking; number = refl; replicas = (fate_same fate).0; sessions = (fate_same fate).1; told = refl }
  acts_same c _ p enters (turns view reply applied after saving t turned in_view takes replies is_turn) = record {
    call = turn_same c.world.now p.agent view (fails_next p.keeper) c.session _ after saving t (one_view view c.session.standing.view (sym in_view ∙ enters)) takes;
    number = refl;
    replicas = refl;
    sessions = refl;
    told = refl;
  }
  acts_same c _ p enters (is_refused view end after saving t in_view refusal takes) = record {
    call = turn_same c.world.now p.agent view (fails_next p.keeper) c.session end after saving t (one_view view c.session.standing.view (sym in_view ∙ enters)) takes;
    number = refl;
    replicas = refl;
    sessions = refl;
    told = refl;
  }
  acts_same c _ p enters (settles after t is) = record { call = settles_same p.agent c.session after t is; number = refl; replicas = refl; sessions = refl; told = refl }

  step_same : (name : List ℕ) (c next : Configuration) → ((p : Participant) → participant c.world name ≡ Some p → p.agent.view ≡ Some c.session.standing.view) → Steps hss_judged r name c next → IsSameConfiguration c next
  step_same name c _ enters (acts p taken cache next is_p takes act) =
      let first : IsSameCall c.session taken = takes_all_same takes in
      let then_so = acts_same (with_cache hss_judged r c p taken cache) next (record p { cache = cache }) (enters p is_p ∙ ap (λ (v : View). Some v) (sym first.2)) act in
      record { call = same_then c.session taken next.session first then_so.call; number = then_so.number; replicas = then_so.replicas; sessions = then_so.sessions; told = then_so.told }
  step_same name c _ enters (lacks_memory p taken t cache is_p takes lacking) =
      record { call = same_then c.session taken t (takes_some_same takes) (lacks_same taken t lacking); number = refl; replicas = refl; sessions = refl; told = refl }

-- ---- one step after the other

-- what steps leave, and what they leave as it was
pub record Leads (c next : Configuration) (r : ℕ) : Type 0 where
  pub leaves : StepLeaves c next r
  pub same : IsSameConfiguration c next

stays : (c : Configuration) (r : ℕ) → Invariant (c.world, c.ghost_state) → IsInHand c r → Leads c c r
stays c r keeps hand = record {
  leaves = (keeps, hand, [], sym (append-nil c.ghost_state.turns), λ h among. absurd (in_nothing h among));
  same = record { call = (refl, refl, refl); number = refl; replicas = refl; sessions = refl; told = refl };
}

leads_on : (c between next : Configuration) (r : ℕ) → Leads c between r → Leads between next r → Leads c next r
leads_on c between next r one other = record {
  leaves = (
    other.leaves.0,
    other.leaves.1,
    one.leaves.2 ++ other.leaves.2,
    other.leaves.3 ∙ ap (λ (ts : List HadTurn). ts ++ other.leaves.2) one.leaves.3 ∙ append_assoc c.ghost_state.turns one.leaves.2 other.leaves.2,
    λ h among. ⊎_elim (one.leaves.4 h) (other.leaves.4 h) (Contains-append_cases one.leaves.2 other.leaves.2 h among),
  );
  same = record {
    call = same_then c.session between.session next.session one.same.call other.same.call;
    number = other.same.number ∙ one.same.number;
    replicas = other.same.replicas ∙ one.same.replicas;
    sessions = other.same.sessions ∙ one.same.sessions;
    told = other.same.told ∙ one.same.told;
  };
}

module _ (r : ℕ) where
  pub step_leads : (name : List ℕ) (c next : Configuration) → c.session.by ≡ name → Invariant (c.world, c.ghost_state) → IsInHand c r → c.world.replicas ≡ Some r → Steps hss_judged r name c next → Leads c next r
  step_leads name c next named keeps hand ringed step =
      let its : Steps hss_judged r c.session.by c next = subst (λ n. Steps hss_judged r n c next) (sym named) step in
      record {
        leaves = each_step_keeps c next r keeps hand ringed its;
        same = step_same r c.session.by c next
            (λ p is_p. subst (λ (q : Participant). q.agent.view ≡ Some c.session.standing.view) (some_same hand.goes_on.by p (sym hand.goes_on.is_by ∙ is_p)) hand.goes_on.in_view) its;
      }

  pub steps_on_lead : (name : List ℕ) {count : ℕ} {c next : Configuration} → StepsOn hss_judged r name count c next → c.session.by ≡ name → Invariant (c.world, c.ghost_state) → IsInHand c r → c.world.replicas ≡ Some r → Leads c next r
  steps_on_lead name {c = c} steps_none named keeps hand ringed = stays c r keeps hand
  steps_on_lead name {c = c} (steps_over said over) named keeps hand ringed = stays c r keeps hand
  steps_on_lead name (steps_more {count} {c} {between} {next} step rest) named keeps hand ringed =
      let one = step_leads name c between named keeps hand ringed step in
      leads_on c between next r one (steps_on_lead name rest (one.same.call.0 ∙ named) one.leaves.0 one.leaves.1 (one.same.replicas ∙ ringed))

  pub runs_lead : (name : List ℕ) {c next : Configuration} → RunsOut hss_judged r name c next → c.session.by ≡ name → Invariant (c.world, c.ghost_state) → IsInHand c r → c.world.replicas ≡ Some r → Leads c next r
  runs_lead name {c = c} (runs_over said over) named keeps hand ringed = stays c r keeps hand
  runs_lead name (runs_more {c} {between} {next} step rest) named keeps hand ringed =
      let one = step_leads name c between named keeps hand ringed step in
      leads_on c between next r one (runs_lead name rest (one.same.call.0 ∙ named) one.leaves.0 one.leaves.1 (one.same.replicas ∙ ringed))

pub many_steps_keep : ManyStepsKeep
many_steps_keep c next r count keeps hand ringed steps = (steps_on_lead r c.session.by steps refl keeps hand ringed).leaves

pub all_steps_keep : AllStepsKeep
all_steps_keep c next r keeps hand ringed runs = (runs_lead r c.session.by runs refl keeps hand ringed).leaves
