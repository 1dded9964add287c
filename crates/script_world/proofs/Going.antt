-- A session that goes on in worlds that have these parts.
use Rattle.std.proofs.Common.{◌≡◌, ⊎_elim, ℕ, List, [], set, get_or, refl, sym, ap, ◌∙◌, subst, Option, Some, None}
use Rattle.std.specs.Prelude.{OnErr, OnOk, Result, Ok, Err}
use Rattle.std.specs.List.{position}
use Rattle.std.specs.Str.{bytes_eq}
use Rattle.ivy_base.specs.declared.memory.Memory.{Memory}
use Rattle.dhash_model.specs.Signed.{hss_judged}
use Rattle.ring_nodes.specs.NodesState.{NodesState, with_nodes}
use Rattle.ring_nodes.proofs.Places.{none_found}
use Rattle.session_steps.specs.MetState.{MetState}
use Rattle.world_model.specs.World.{Participant, World, participant, with_participant}
use Rattle.world_model.specs.Steps.{RunsOut, Configuration, StepsOn}
use Rattle.world_model.specs.Steps.RunsOut.{is_over as runs_over, more as runs_more}
use Rattle.world_model.specs.Steps.StepsOn.{none as steps_none, is_over as steps_over, more as steps_more}
use Rattle.world_laws.proofs.Bringing.{found_named}
use Rattle.world_laws.proofs.WholePublishing.{step_same}
use Rattle.script_participants.specs.ParticipantState.{AreNamedApart, ParticipantState}
use Rattle.session_steps.specs.Representing.{CallState, HasConfiguration, IsInProgress, Leaves, ManyStepsFrom, RunsOutFrom, Represents, shown}
use Rattle.script_world.specs.PartsState.{AreKept, HasParts, PartsState}
use Rattle.script_world.specs.Running.{HasConfigurationIn, IsConfigurationIn, LeadsTo, RunsOutIn, StepsOnIn}
use Rattle.script_world.proofs.Faulting.{nodes_then}
use Rattle.script_world.proofs.Keeping.{changed_has, found_so, nobody_in}
use Rattle.script_world.proofs.Kept.{kept_changed}

-- ---- steps are of one participant's session

module _ {r : ℕ} {name : List ℕ} where
  on_by : {count : ℕ} {c end : Configuration} → StepsOn hss_judged r name count c end → end.session.by ≡ c.session.by
  on_by steps_none = refl
  on_by (steps_over said over) = refl
  on_by (steps_more {count} {c} {between} {next} step rest) = on_by rest ∙ (step_same r name c between step).0

  runs_by : {c end : Configuration} → RunsOut hss_judged r name c end → end.session.by ≡ c.session.by
  runs_by (runs_over said over) = refl
  runs_by (runs_more {c} {between} {next} step rest) = runs_by rest ∙ (step_same r name c between step).0

-- whoever a session in progress is of is there
pub is_there : (c : Configuration) (r : ℕ) → IsInProgress c r → (p : Participant) × (participant c.world c.session.by ≡ Some p)
is_there c r way = ⊎_elim (λ hand. (hand.goes_on.by, hand.goes_on.is_by)) (λ only. (only.by, only.is_by)) way.hand

module _ (s : PartsState) (name : List ℕ) (old : CallState) where
  pub not_nobody : HasConfigurationIn s name old → position (λ (q : ParticipantState). bytes_eq q.name name) s.participants ≡ None → ⊥
  not_nobody (c, r, configuration) none =
      let there = is_there c r configuration.way in
      let nobody = nobody_in c.world s configuration.parts name (none_found (λ (q : ParticipantState). bytes_eq q.name name) s.participants none) in
      let found : participant c.world name ≡ Some there.0 = subst (λ (n : List ℕ). participant c.world n ≡ Some there.0) configuration.named there.1 in
      cc (sym nobody ∙ found)

  module _ (place : ℕ) (who : ParticipantState) (found : position (λ (q : ParticipantState). bytes_eq q.name name) s.participants ≡ Some place) (is : who ≡ get_or s.participants place who) where
    shown_so : (c : Configuration) (r : ℕ) → IsConfigurationIn s name old c r → Represents c r (shown old s.nodes who s.met s.moment)
    shown_so c r configuration =
        let its = found_so c.world s configuration.parts name place who found is in
        record {
          p = its.0;
          is_by = subst (λ (n : List ℕ). participant c.world n ≡ Some its.0) (sym configuration.named) its.1;
          who = its.2;
          nodes = configuration.parts.nodes;
          met = configuration.parts.met;
          now = configuration.parts.moment;
          replicas = configuration.replicas;
          session = configuration.shows;
        }

    pub some_configuration : HasConfigurationIn s name old → HasConfiguration (shown old s.nodes who s.met s.moment)
    some_configuration (c, r, configuration) = (c, r, configuration.way, shown_so c r configuration)

    -- what is left
    module _ (new : CallState) (nodes : NodesState) (later : ParticipantState) (met : MetState) where
      abbrev after : PartsState
      after = record s { nodes = nodes; participants = set s.participants place later; met = met }

      module _ (c end : Configuration) (r : ℕ) (configuration : IsConfigurationIn s name old c r) (leaves : Leaves c r (shown new nodes later met s.moment) end) (same : end.session.by ≡ c.session.by) where
        named : leaves.shows.p.name ≡ name
        named = (found_named end.world.participants end.session.by leaves.shows.p leaves.shows.is_by).1 ∙ same ∙ configuration.named

        parts : AreNamedApart s.participants → HasParts end.world after
        parts apart = subst (λ (w : World). HasParts w after) (sym leaves.world) (record {
          replicas = h.replicas;
          nodes = h.nodes;
          participants = h.participants;
          views = h.views;
          replies = h.replies;
          moment = h.moment;
          met = leaves.shows.met;
        })
          where
            h : HasParts (with_participant (with_nodes c.world nodes) leaves.shows.p) (record s { nodes = nodes; participants = set s.participants place later })
            h = changed_has (with_nodes c.world nodes) (record s { nodes = nodes }) (nodes_then c.world s configuration.parts nodes) name place later leaves.shows.p apart found leaves.shows.who named

        leads : AreNamedApart s.participants → LeadsTo after new c end
        leads apart = record {
          goes_on = (parts apart, ap (λ (w : World). w.sessions) leaves.world);
          ring = ap (λ (w : World). w.replicas) leaves.world;
          shown = record { replicas = sym configuration.parts.replicas ∙ configuration.way.ring ∙ ap (λ (n : ℕ). Some n) (sym leaves.shows.replicas); shows = leaves.shows.session };
        }

        same_name : later.name ≡ who.name
        same_name =
            let its = found_so c.world s configuration.parts name place who found is in
            ap (λ (q : ParticipantState). q.name) (sym leaves.shows.who) ∙ named ∙ sym (found_named c.world.participants name its.0 its.1).1 ∙ ap (λ (q : ParticipantState). q.name) its.2

        kept_so : AreKept s.replicas s.participants → AreKept after.replicas after.participants
        kept_so kept = kept_changed s.replicas s.participants place who later kept is same_name

      -- ---- so many steps

      module _ (count : ℕ) (steps : ManyStepsFrom count (shown old s.nodes who s.met s.moment) (shown new nodes later met s.moment)) where
        pub steps_lead : AreNamedApart s.participants → StepsOnIn name s old after new count
        steps_lead apart c r configuration =
            let to = steps c r configuration.way (shown_so c r configuration) in
            (to.0, subst (λ (n : List ℕ). StepsOn hss_judged r n count c to.0) configuration.named to.1, leads c to.0 r configuration to.2 (on_by to.1) apart)

        pub steps_kept : HasConfigurationIn s name old → AreKept s.replicas s.participants → AreKept after.replicas after.participants
        steps_kept (c, r, configuration) kept = let to = steps c r configuration.way (shown_so c r configuration) in kept_so c to.0 r configuration to.2 (on_by to.1) kept

      -- ---- all up to the end

      module _ (runs : RunsOutFrom (shown old s.nodes who s.met s.moment) (shown new nodes later met s.moment)) where
        pub runs_lead : HasConfigurationIn s name old → AreNamedApart s.participants → RunsOutIn name s old after new
        runs_lead (d, q, some) apart = (
          (runs d q some.way (shown_so d q some)).0,
          λ c r configuration.
              let to = runs c r configuration.way (shown_so c r configuration) in
              (to.1, subst (λ (n : List ℕ). RunsOut hss_judged r n c to.1) configuration.named to.2, leads c to.1 r configuration to.3 (runs_by to.2) apart),
        )

        pub runs_kept : HasConfigurationIn s name old → AreKept s.replicas s.participants → AreKept after.replicas after.participants
        runs_kept (c, r, configuration) kept = let to = runs c r configuration.way (shown_so c r configuration) in kept_so c to.1 r configuration to.3 (runs_by to.2) kept

-- ---- steps that went, or for which memory ran out, after which nobody is left

module _ {Went : Type 0} (kept later : List ParticipantState) (went : Result (Unit {0}) Memory) where
  pub then_so : (result : Result (Unit {0}) Memory) (So : List ParticipantState → Type 0) → result ≡ went → OnOk went Went → OnOk result (later ≡ kept) → (Went → So kept) → OnOk result (So later)
  then_so (Ok done) So same its is so = subst So (sym is) (so (subst (λ (r : Result (Unit {0}) Memory). OnOk r Went) (sym same) its))
  then_so (Err fault) So same its is so = tt

  pub then_kept : (result : Result (Unit {0}) Memory) (r : Option ℕ) (before : List ParticipantState) → AreKept r before → result ≡ went → OnOk went Went → OnOk result (later ≡ kept) → OnErr result (later ≡ []) → (Went → AreKept r kept) → AreKept r later
  then_kept (Ok done) r before was same its is nobody so = subst (AreKept r) (sym is) (so (subst (λ (o : Result (Unit {0}) Memory). OnOk o Went) (sym same) its))
  then_kept (Err fault) r before was same its is nobody so = subst (AreKept r) (sym nobody) (record { apart = tt; few = was.few; nobody = λ none. refl })
