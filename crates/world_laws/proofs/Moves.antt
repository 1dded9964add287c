-- Each step of a session is a few moves.
use Rattle.std.proofs.Common.{◌≡◌, ℕ, List, Some, refl}
use Rattle.dhash_model.specs.Signed.{hss_judged}
use Rattle.session_model.specs.Sessions.{Cache, Session, TakesAll, TakesSome}
use Rattle.session_model.specs.Sessions.TakesAll.{none as all_none, more as all_more}
use Rattle.session_model.specs.Sessions.TakesSome.{none as some_none, more as some_more}
use Rattle.agent_model.specs.Turning.{Answered}
use Rattle.world_model.specs.Steps.{Acts, RunsOut, Configuration, Steps, StepsOn, with_cache}
use Rattle.world_model.specs.Steps.Acts.{asks as acts_asks, asks_in_vain, is_refused, settles as acts_settles, turns as acts_turns}
use Rattle.world_model.specs.Steps.Steps.{acts, lacks_memory}
use Rattle.world_model.specs.Steps.RunsOut.{is_over as runs_over, more as runs_more}
use Rattle.world_model.specs.Steps.StepsOn.{is_over as steps_over, more as steps_more, none as steps_none}
use Rattle.world_model.specs.World.{Participant, participant}
use Rattle.world_laws.proofs.Placed.{found_in_place}
use Rattle.world_laws.specs.Moves.{Move, Moves}
use Rattle.world_laws.specs.Moves.Move.{asks, hears, lacks, settles, takes, turns}
use Rattle.world_laws.specs.Moves.Moves.{further, here}
use Rattle.world_laws.specs.Moves.Tells.{refuses, tells}

some_of : {r : ℕ} {s t : Session} {cache after : Cache} → TakesAll hss_judged r s cache t after → TakesSome hss_judged r s cache t after
some_of (all_none none) = some_none
some_of (all_more one rest) = some_more one (some_of rest)

module _ {r : ℕ} {name : List ℕ} where
  then_on : {c mid next : Configuration} → Moves hss_judged r name c mid → Moves hss_judged r name mid next → Moves hss_judged r name c next
  then_on here rest = rest
  then_on (further one more) rest = further one (then_on more rest)

  pub act_moves : {p : Participant} {c next : Configuration} → participant c.world name ≡ Some p → Acts hss_judged r p c next → Moves hss_judged r name c next
  act_moves {p} is (acts_asks node question answer next heard t cache fate hearing goes) = further (hears p node question answer next heard t cache is fate hearing goes) here
  act_moves is (asks_in_vain node question answer next heard t cache fate hearing lacking) = further (asks node question answer next fate) (further (lacks t lacking) here)
  act_moves {p} is (acts_turns view reply applied after saving t turned in_view taking same is_turn) =
      further (turns p view (Answered reply applied) after saving t applied _ _ is in_view taking (tells reply applied turned same is_turn)) here
  act_moves {p} is (is_refused view end after saving t in_view refusal taking) = further (turns p view end after saving t p.work _ _ is in_view taking (refuses end refusal)) here
  act_moves {p} is (acts_settles after t settling) = further (settles p after t is settling) here

  pub step_moves : {c next : Configuration} → Steps hss_judged r name c next → Moves hss_judged r name c next
  step_moves {c} (acts p taken cache next is taking act) =
      further (takes p taken cache is (some_of taking))
      (act_moves {c = with_cache hss_judged r c p taken cache} (found_in_place c.world name p (record p { cache = cache }) is refl) act)
  step_moves (lacks_memory p taken t cache is taking lacking) = further (takes p taken cache is taking) (further (lacks t lacking) here)

  pub steps_move : {count : ℕ} {c end : Configuration} → StepsOn hss_judged r name count c end → Moves hss_judged r name c end
  steps_move steps_none = here
  steps_move (steps_over said over) = here
  steps_move (steps_more step rest) = then_on (step_moves step) (steps_move rest)

  pub runs_move : {c end : Configuration} → RunsOut hss_judged r name c end → Moves hss_judged r name c end
  runs_move (runs_over said over) = here
  runs_move (runs_more step rest) = then_on (step_moves step) (runs_move rest)

  -- what each move leaves so, all do
  pub all_moves : (P : Configuration → Type 0) → ((c next : Configuration) → Move hss_judged r name c next → P c → P next) → {c end : Configuration} → Moves hss_judged r name c end → P c → P end
  all_moves P each here h = h
  all_moves P each (further {c} {between} {next} one rest) h = all_moves P each rest (each c between one h)

  -- the same where each is told what comes then: of what holds up to the end
  pub along : {end : Configuration} (P : Configuration → Type 0) → ((c next : Configuration) → Move hss_judged r name c next → Moves hss_judged r name next end → P c → P next) → {c : Configuration} → Moves hss_judged r name c end → P c → P end
  along P each here h = h
  along P each (further {c} {between} {next} one rest) h = along P each rest (each c between one rest h)
