-- Runs in which memory always suffices, and that any other run tells where memory ran out.
use Rattle.std.specs.Prelude.{◌≡◌, ◌⊎◌, ℕ, ◌+◌, List, ◌∷◌, ◌++◌, length}
use Rattle.script_driver.specs.Run.{Outcome, RunFollows, Obeys, Ran, Runs, WithLaw, behind, shown}
use Rattle.world_model.specs.Logs.{Played}
use Rattle.world_model.specs.Step.{IvyStep}
use Rattle.world_laws.specs.FullRuns.{Clashes, LackedMemory}
use Rattle.world_laws.specs.Invariant.{Invariant}
use Rattle.world_laws.specs.Laws.{HadMemory}

-- a run in which memory was always there, and no names of what was met collide
abbrev pub HasMemoryAlong : Played → ℕ → List (List ℕ) → Ran → Type 0
HasMemoryAlong w number lines ran = Runs (WithLaw IvyStep HadMemory) w number lines ran

-- The first lines go on with memory there, and no names collide; and the line after them does this.
pub record ComesTo (Law : Played → List ℕ → Outcome Played → Type 0) (w : Played) (lines : List (List ℕ)) : Type 0 where
  pub front : List (List ℕ)
  pub line : List ℕ
  pub rest : List (List ℕ)
  pub are : lines ≡ front ++ line ∷ rest
  pub text : List ℕ
  pub mid : Played
  pub obeyed : Obeys (WithLaw IvyStep HadMemory) w front text mid
  pub outcome : Outcome Played
  pub step : IvyStep mid (shown line) outcome
  pub is : Law mid (shown line) outcome

-- so it is in this run
pub record RunComesTo (Law : Played → List ℕ → Outcome Played → Type 0) (w : Played) (number : ℕ) (lines : List (List ℕ))
    (ran : Ran) : Type 0 where
  pub comes : ComesTo Law w lines
  pub place : ℕ
  pub place_is : place ≡ number + length comes.front
  pub later : Ran
  pub follows : RunFollows (λ next. Runs IvyStep next (place + 1) comes.rest) place comes.outcome later
  pub ran_is : ran ≡ behind comes.text later

-- memory ran out for a call, or names clash
abbrev pub LacksOrClashes : Played → List ℕ → Outcome Played → Type 0
LacksOrClashes w line outcome = LackedMemory w line outcome ⊎ Clashes outcome

-- Each run from such a world is one in which memory was always there, or comes to where memory ran out for a call, or to where names clash.
abbrev pub RunsTellOfMemory : Type 0
RunsTellOfMemory = (w : Played) (number : ℕ) (lines : List (List ℕ)) (ran : Ran) → Invariant w → Runs IvyStep w number lines ran
    → HasMemoryAlong w number lines ran ⊎ RunComesTo LacksOrClashes w number lines ran
