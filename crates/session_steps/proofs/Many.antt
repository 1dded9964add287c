-- Many steps of a call that is shown.
use Rattle.std.proofs.Common.{◌≡◌, ◌⊎◌, inl, inr, ⊎_elim, ℕ, zero, suc, false, List, Option, Some, None, refl, sym, ap, ◌∙◌, subst}
use Rattle.std.specs.Prelude.{IsTrue, is_some}
use Rattle.dhash_model.specs.Signed.{hss_judged}
use Rattle.session_model.specs.Sessions.{Over, Said, Session}
use Rattle.ivy_session.specs.declared.served.Served.{Served}
use Rattle.ring_nodes.specs.NodesState.{NodesState, with_nodes}
use Rattle.world_model.specs.World.{Participant, World, participant}
use Rattle.world_model.specs.Steps.{RunsOut, Configuration, Steps, StepsOn}
use Rattle.world_model.specs.Steps.StepsOn.{none as on_none, is_over as on_over, more as on_more}
use Rattle.world_model.specs.Steps.RunsOut.{is_over as out_over, more as out_more}
use Rattle.world_laws.proofs.Bringing.{found_named}
use Rattle.world_laws.proofs.OneSteps.{over_steps}
use Rattle.session_steps.proofs.ConfigurationSteps.{twice_placed}
use Rattle.session_steps.specs.Representing.{CallState, HasConfiguration, IsOver, IsInProgress, Leaves, ManyStepsFrom, RunsOutFrom, Shown, RepresentsBy, StepsFrom, StepsTo, world_left}
use Rattle.session_steps.specs.Within.{IsReached, Laws, Reaches, ReachesOn}
use Rattle.session_steps.proofs.Configurations.{stays}

-- ---- a configuration that is over

module _ (r : ℕ) (name : List ℕ) where
  -- has no more steps
  over_on : (count : ℕ) {c end : Configuration} (said : Option Said) → c.session.stage ≡ Over said → StepsOn hss_judged r name count c end → StepsOn hss_judged r name (suc count) c end
  over_on zero said over on_none = on_over said over
  over_on (suc count) said over (on_over also at) = on_over said over
  over_on (suc count) said over (on_more step rest) = absurd (over_steps r step said over)

-- ---- one step after many

-- in progress still
module _ (laws : Laws) (c : Configuration) (r : ℕ) (way : IsInProgress c r) (s : Shown) (next : Configuration) (leaves : Leaves c r s next) where
  way_on : Steps hss_judged r c.session.by c next → IsInProgress next r
  way_on steps = ⊎_elim
      (λ hand. let k = laws.keep c next r way.keeps hand way.ring steps in record { keeps = k.0; ring = ring; hand = inl k.1 })
      (λ only. let k = laws.publishing c next r way.keeps only way.ring steps in record { keeps = k.0; ring = ring; hand = inr k.1 })
      way.hand
    where
      ring : next.world.replicas ≡ Some r
      ring = ap (λ (w : World). w.replicas) leaves.world ∙ way.ring

-- whoever a session's participant is, it has the session's name
its_name : (w : World) (name : List ℕ) (p : Participant) → participant w name ≡ Some p → p.name ≡ name
its_name w name p is = (found_named w.participants name p is).1

-- what is left of what was left
left_twice : (w : World) (first later : NodesState) (met more : List (List ℕ)) (p q : Participant) → p.name ≡ q.name → world_left (world_left w first met p) later more q ≡ world_left w later more q
left_twice w first later met more p q named = ap (λ (u : World). record u { met = more }) (twice_placed (with_nodes w later) p q named)

module _ (laws : Laws) (c : Configuration) (r : ℕ) (old now new : Shown) (Rest All Less : List ℕ → Configuration → Configuration → Type 0)
    (step : (mid next : Configuration) → Steps hss_judged r c.session.by mid next → (end : Configuration) → Less c.session.by next end → Rest c.session.by mid end)
    (over : (mid : Configuration) (said : Option Said) → mid.session.stage ≡ Over said → (end : Configuration) → Less c.session.by mid end → Rest c.session.by mid end) where
  goes_on : IsReached Rest All c r now → StepsFrom now new → IsReached Less All c r new
  goes_on reached steps = by to.next to.steps to.leaves
    where
      to : StepsTo reached.mid r new
      to = steps reached.mid r reached.way reached.leaves.shows

      -- as it is left to the first configuration
      left : (next : Configuration) → next.session.by ≡ reached.mid.session.by → Leaves reached.mid r new next → Leaves c r new next
      left next same leaves = record {
        shows = leaves.shows;
        world = leaves.world
            ∙ ap (λ (w : World). world_left w new.nodes next.world.met leaves.shows.p) reached.leaves.world
            ∙ left_twice c.world now.nodes new.nodes reached.mid.world.met next.world.met reached.leaves.shows.p leaves.shows.p
            (its_name reached.mid.world reached.mid.session.by reached.leaves.shows.p reached.leaves.shows.is_by ∙ sym same ∙ sym (its_name next.world next.session.by leaves.shows.p leaves.shows.is_by));
      }

      by : (next : Configuration) → Steps hss_judged r reached.mid.session.by reached.mid next ⊎ IsOver reached.mid next → Leaves reached.mid r new next → IsReached Less All c r new
      by next (inl stepped) leaves =
          let same = (laws.one_call r reached.mid.session.by reached.mid next stepped).0 in
          record {
            mid = next;
            way = way_on laws reached.mid r reached.way new next leaves stepped;
            leaves = left next same leaves;
            by = same ∙ reached.by;
            goes = λ end rest. reached.goes end (step reached.mid next (subst (λ (name : List ℕ). Steps hss_judged r name reached.mid next) reached.by stepped) end rest);
          }
      by next (inr stayed) leaves = record {
        mid = next;
        way = subst (λ (s : Configuration). IsInProgress s r) (sym stayed.0) reached.way;
        leaves = left next (ap (λ (s : Configuration). s.session.by) stayed.0) leaves;
        by = ap (λ (s : Configuration). s.session.by) stayed.0 ∙ reached.by;
        goes = λ end rest. reached.goes end (over reached.mid stayed.1 stayed.2 end (subst (λ (s : Configuration). Less c.session.by s end) stayed.0 rest));
      }

-- ---- a count of them

pub reaches_first : (count : ℕ) (old : Shown) → Reaches count count old old
reaches_first count old c r way shows = record { mid = c; way = way; leaves = record { shows = shows; world = stays c r old way shows }; by = refl; goes = λ end rest. rest }

pub reaches_next : Laws → (left count : ℕ) (old now new : Shown) → Reaches (suc left) count old now → StepsFrom now new → Reaches left count old new
reaches_next laws left count old now new reached steps c r way shows =
    goes_on laws c r old now new (λ name. StepsOn hss_judged r name (suc left)) (λ name. StepsOn hss_judged r name count) (λ name. StepsOn hss_judged r name left)
    (λ mid next stepped end rest. on_more stepped rest) (λ mid said at end rest. over_on r c.session.by left said at rest) (reached c r way shows) steps

pub reaches_all : (count : ℕ) (old new : Shown) → Reaches 0 count old new → ManyStepsFrom count old new
reaches_all count old new reached c r way shows = let here = reached c r way shows in (here.mid, here.goes here.mid on_none, here.leaves)

-- some configuration in progress is represented all along
pub reached_configuration : (left count : ℕ) (old now : Shown) → HasConfiguration old → Reaches left count old now → HasConfiguration now
reached_configuration left count old now configuration reached = let here = reached configuration.0 configuration.1 configuration.2 configuration.3 in (here.mid, configuration.1, here.way, here.leaves.shows)

-- ---- up to the end

pub reaches_on_first : (old : Shown) → ReachesOn old old
reaches_on_first old c r way shows = record { mid = c; way = way; leaves = record { shows = shows; world = stays c r old way shows }; by = refl; goes = λ end rest. rest }

pub reaches_on_next : Laws → (old now new : Shown) → ReachesOn old now → StepsFrom now new → ReachesOn old new
reaches_on_next laws old now new reached steps c r way shows =
    goes_on laws c r old now new (RunsOut hss_judged r) (RunsOut hss_judged r) (RunsOut hss_judged r) (λ mid next stepped end rest. out_more stepped rest) (λ mid said at end rest. rest) (reached c r way shows) steps

pub reached_on_configuration : (old now : Shown) → HasConfiguration old → ReachesOn old now → HasConfiguration now
reached_on_configuration old now configuration reached = let here = reached configuration.0 configuration.1 configuration.2 configuration.3 in (here.mid, configuration.1, here.way, here.leaves.shows)

-- where it was told to be over
pub reaches_end : (old new : Shown) → IsTrue (is_some new.call.told) → ReachesOn old new → RunsOutFrom old new
reaches_end old new told reached c r way shows =
    let here = reached c r way shows in
    let over = ended here.mid.session new.call.told told here.leaves.shows.session in
    (told, here.mid, here.goes here.mid (out_over over.0 over.1), here.leaves)
  where
    ended : (s : Session) (o : Option Served) → IsTrue (is_some o) → RepresentsBy s new.call o → (said : Option Said) × (s.stage ≡ Over said)
    ended s None told is = cc told
    ended s (Some served) told is = (is.said, is.is_over)

-- it was not told yet
pub not_told : (call : CallState) → is_some call.told ≡ false → call.told ≡ None
not_told call = by call.told
  where
    by : (o : Option Served) → is_some o ≡ false → o ≡ None
    by None none = refl
    by (Some told) none = cc none
