-- A script's world in code, as contracts see it, the worlds of the definitions that it may be, and what a line does in each of them.
use Rattle.std.specs.Prelude.{◌≡◌, ℕ, List, [], ◌∷◌, Option, Some}
use Rattle.script_driver.specs.declared.machine.Taken.{Taken}
use Rattle.script_driver.specs.Run.{Outcome}
use Rattle.world_model.specs.Logs.{Played}
use Rattle.world_model.specs.World.{NamedSession}
pub use Rattle.stage_laws.specs.Stage.{KeepsAll}
use Rattle.script_world.specs.CallsState.{CallState, RepresentsSession}
use Rattle.script_world.specs.PartsState.{HasParts, IsTaken, PartsState}

-- a session by its name in the script, and whose it is
pub record OpenState : Type 0 where
  pub name : List ℕ
  pub by : List ℕ
  pub call : CallState

-- all parts, and the open sessions in the order of their lines
pub record WorldState : Type 0 where
  pub parts : PartsState
  pub sessions : List OpenState

-- the code's session is that one, in a ring in which so many own a key
pub record IsOpenAs (owners : Option ℕ) (t : NamedSession) (o : OpenState) : Type 0 where
  pub name : t.name ≡ o.name
  pub by : t.session.by ≡ o.by
  pub replicas : owners ≡ Some o.call.session.replicas
  pub shows : RepresentsSession t.session o.call

abbrev pub AreOpenAs : Option ℕ → List NamedSession → List OpenState → Type 0
AreOpenAs replicas [] [] = Unit {0}
AreOpenAs replicas (t ∷ ts) (o ∷ os) = IsOpenAs replicas t o × AreOpenAs replicas ts os
AreOpenAs replicas _ _ = ⊥

-- the world in code may be that one
pub record RepresentsWorld (s : WorldState) (w : Played) : Type 0 where
  pub parts : HasParts w.0 s.parts
  pub sessions : AreOpenAs w.0.replicas w.0.sessions s.sessions

-- it may be some such world
abbrev pub HasWorld : WorldState → Type 0
HasWorld s = (w : Played) × RepresentsWorld s w × KeepsAll w

-- The line does so in each such world that it may be, and where it goes on the world in code may be what that goes on to.
abbrev pub LineDoes : (Played → Outcome Played → Type 0) → WorldState → Taken → WorldState → Type 0
LineDoes Does before how after = (w : Played) → RepresentsWorld before w → KeepsAll w → IsTaken (RepresentsWorld after) (Does w) how
