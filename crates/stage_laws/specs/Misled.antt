-- Where no line makes a snapshot no refresh is misled.
use Rattle.std.specs.Prelude.{ℕ, List, Contains}
use Rattle.std.specs.List.{AllByRecursion}
use Rattle.ivy_base.specs.declared.key.PubKey.{PubKey}
use Rattle.ivy_base.specs.Naming.{IsCollisionFree}
use Rattle.log_model.specs.Record.{Record}
use Rattle.agent_model.specs.Candidates.{IsMisled}
use Rattle.agent_model.specs.Standing.{Refresh}
use Rattle.session_model.specs.Brought.{brought_in}
use Rattle.session_model.specs.Executions.{grounds_of}
use Rattle.session_model.specs.Refreshing.{Done, Note, Refreshes}
use Rattle.session_model.specs.Sessions.{Session}
use Rattle.script_driver.specs.Run.{Obeys, shown}
use Rattle.world_model.specs.Logs.{Played}
use Rattle.world_model.specs.Step.{IvyStep}
use Rattle.world_model.specs.GhostState.{HadTurn, began_of, empty_ghost_state}
use Rattle.world_model.specs.World.{NamedSession, empty_world, named_bytes}
use Rattle.world_laws.specs.Laws.{MakesNoSnapshot}

-- The session's refresh, where it is finished, isn't misled in the log of any member of the view, among the blocks met. Its agent knew
-- these records when it (last) began.
abbrev pub IsNotMisled : List (List ℕ) → Session → List Record → Type 0
IsNotMisled met s knew = (notes : List Note) (given : Refresh) (owner : PubKey) (records : List Record)
    → Refreshes s.standing (brought_in s.parts) notes given Done → Contains s.standing.view.members owner
    → IsMisled (grounds_of met s knew) s.standing.view given.started owner records → ⊥

-- So it is of each turn that was had, where no two different blocks that were met before it have one name; and of each open session, where
-- none that were met so far have.
pub record NothingMisleads (w : Played) : Type 0 where
  pub turns : (h : HadTurn) → Contains w.1.turns h → IsCollisionFree h.met → IsNotMisled h.met h.session h.began.knew
  pub sessions : (s : NamedSession) → Contains w.0.sessions s → IsCollisionFree (named_bytes w.0)
      → IsNotMisled (named_bytes w.0) s.session (began_of w.1 s.name).knew

-- So it is in each world that a script comes to of which no line makes a snapshot.
abbrev pub NoTurnIsMisled : Type 0
NoTurnIsMisled = (lines : List (List ℕ)) (text : List ℕ) (w : Played) → AllByRecursion (λ line. MakesNoSnapshot (shown line)) lines
    → Obeys IvyStep (empty_world, empty_ghost_state) lines text w → NothingMisleads w
