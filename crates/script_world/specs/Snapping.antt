-- How a snapshot is made: all that its line does before what is pending is published.
use Rattle.std.specs.Prelude.{◌≡◌, ℕ, true, List, Option, Some, codes}
use Rattle.ivy_base.specs.declared.key.Key.{Key}
use Rattle.log_model.specs.View.{View}
use Rattle.snapshot_model.specs.Spelling.{root_name}
use Rattle.agent_model.specs.Others.{basis_of}
use Rattle.agent_model.specs.SavedBytes.{ArePostsSpelled}
use Rattle.dht_ids.specs.declared.judge.Judged.{Judged}
use Rattle.script_driver.specs.Run.{Goes, Refuses}
use Rattle.script_world.specs.declared.snapping.SnapEnd.{SnapEnd}
use Rattle.script_world.specs.declared.snapping.SnapEnd.TheVariants as end
use Rattle.world_model.specs.Logs.{Played, SnapLine, failed_text, having_snapped, snapping_in}
use Rattle.world_model.specs.Steps.{met_by}
use Rattle.world_model.specs.World.{Participant, participant, with_participant}
use Rattle.script_world.specs.PartsState.{GoesOn, HasParts, PartsState}

-- The participant of that name is in a view, and has made and saved a snapshot with that root. What it has to publish counts as met, and
-- the world then has these parts: what the line of a snapshot asks for, but that its agent publishes then.
pub record HasSnapshot (w : Played) (log : List ℕ) (root : Key) (after : PartsState) : Type 0 where
  pub one : Participant
  pub view : View
  pub is_there : participant w.0 log ≡ Some one
  pub in_view : one.agent.view ≡ Some view
  pub made : (snapping_in one view).0.1 ≡ true
  pub root_is : root ≡ root_name view (basis_of one.agent.holding)
  pub spelled : ArePostsSpelled (having_snapped one view).agent.pending
  pub goes_on : GoesOn w.0 after
      (record (with_participant w.0 (having_snapped one view)) { met = met_by w.0.met (having_snapped one view).agent.pending })

-- so in each world that has the parts before; or in each the line shows that the save failed, in the same ring, or is refused
abbrev pub SnapsIn : List ℕ → PartsState → SnapEnd → PartsState → Type 0
SnapsIn log before (end.Made root) after = (w : Played) → HasParts w.0 before → HasSnapshot w log root after
SnapsIn log before end.Failed after =
    (w : Played) → HasParts w.0 before → (judged : Key → List ℕ → Option Judged)
    → (next : Played) × SnapLine judged w (participant w.0 log) (Goes next (failed_text (codes "snap") log))
    × GoesOn w.0 after next.0 × (next.0.replicas ≡ w.0.replicas)
SnapsIn log before end.Refused after =
    (w : Played) → HasParts w.0 before → (judged : Key → List ℕ → Option Judged) → SnapLine judged w (participant w.0 log) Refuses
