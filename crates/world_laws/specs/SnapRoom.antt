-- Snapshots that can be saved: where no names collide, what is to be saved of one has a spelling.
use Rattle.std.specs.Prelude.{◌≡◌, ◌⊎◌, ℕ, true, List, Contains, IfSome, Some, codes}
use Rattle.std.specs.List.{AllByRecursion}
use Rattle.ivy_base.specs.Naming.{IsCollisionFree}
use Rattle.log_model.specs.View.{View}
use Rattle.agent_model.specs.SavedBytes.{ArePostsSpelled}
use Rattle.script_driver.specs.Run.{Goes, Obeys}
use Rattle.script_model.specs.declared.command.Command.TheVariants as command
use Rattle.script_model.specs.Lines.{command_of}
use Rattle.world_model.specs.Keepers.{fails_next}
use Rattle.world_model.specs.Logs.{Played, failed_text, snapping_in}
use Rattle.world_model.specs.Step.{IvyStep}
use Rattle.world_model.specs.GhostState.{empty_ghost_state}
use Rattle.world_model.specs.World.{Participant, World, empty_world, named_bytes, participant}
use Rattle.world_laws.specs.FullRuns.{MetLittle, PublishFew}
use Rattle.world_laws.specs.FullTurns.{AreBytes}
use Rattle.world_laws.specs.Invariant.{Invariant}

-- the blocks met are bytes
abbrev pub MetBytes : World → Type 0
MetBytes w = AllByRecursion AreBytes w.met

abbrev pub EmptyMetBytes : Type 0
EmptyMetBytes = MetBytes empty_world

-- A line leaves it so.
abbrev pub MetBytesCome : Type 0
MetBytesCome = (w next : Played) (line output : List ℕ) → Invariant w → PublishFew w.0 → MetBytes w.0 → IvyStep w line (Goes next output)
    → MetBytes next.0

-- Where no names collide, and no more was met than a line may go on with, what is to be saved of a snapshot has a spelling. So the case of
-- the line in which it has none never comes.
abbrev pub SnapshotsCanBeSaved : Type 0
SnapshotsCanBeSaved = (w : Played) (p : Participant) (view : View) → Invariant w → PublishFew w.0 → MetBytes w.0 → MetLittle w.0
    → IsCollisionFree (named_bytes w.0) → Contains w.0.participants p → p.agent.view ≡ Some view
    → IfSome (snapping_in p view).1 (λ k. ArePostsSpelled k.pending)

-- So a line that is to make a snapshot shows that it failed only where a save of the participant's failed before, or this one fails.
abbrev pub SnapshotsFailBySaves : Type 0
SnapshotsFailBySaves = (w next : Played) (line log : List ℕ) (p : Participant) → Invariant w → PublishFew w.0 → MetBytes w.0
    → IsCollisionFree (named_bytes w.0) → command_of line ≡ Some (command.Snap log) → participant w.0 log ≡ Some p
    → IvyStep w line (Goes next (failed_text (codes "snap") p.name))
    → (p.agent.has_failed ≡ true) ⊎ (fails_next p.keeper ≡ true)

-- So it is of each such line of a script from its beginning, where no names collide.
abbrev pub ScriptsSaveSnapshots : Type 0
ScriptsSaveSnapshots = (lines : List (List ℕ)) (text : List ℕ) (w next : Played) (line log : List ℕ) (p : Participant)
    → Obeys IvyStep (empty_world, empty_ghost_state) lines text w → IsCollisionFree (named_bytes w.0)
    → command_of line ≡ Some (command.Snap log) → participant w.0 log ≡ Some p
    → IvyStep w line (Goes next (failed_text (codes "snap") p.name))
    → (p.agent.has_failed ≡ true) ⊎ (fails_next p.keeper ≡ true)
