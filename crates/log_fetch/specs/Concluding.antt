-- What comes of a head whose walk is over.
use Rattle.std.specs.Prelude.{◌≡◌, ◌≢◌, ◌⊎◌, ◌<◌, ◌≤◌, length, Option}
use Rattle.log_model.specs.View.{View}
use Rattle.log_model.specs.Fetched.{Edge}
use Rattle.log_records.specs.Batches.{Batch}
use Rattle.log_fetch.specs.declared.trial.Concluded.{Concluded}
use Rattle.log_fetch.specs.declared.trial.Concluded.TheVariants as concluded
use Rattle.log_fetch.specs.declared.trial.Settled.{Settled}
use Rattle.log_fetch.specs.declared.trial.Settled.TheVariants as settled
use Rattle.log_fetch.specs.Trying.{Trying, EndsWith, GoesOnWith, trial_left}

-- the next head is tried, of which there are fewer each time, or the log is through
abbrev pub ConcludesAs : View → Option Edge → Trying → Batch → Batch → Concluded → Type 0
ConcludesAs view edge t old new (concluded.Next next) =
    (new ≡ old) × (length next.rest < length t.rest) × (next.walk.owner ≡ t.walk.owner) × GoesOnWith view edge t old next
ConcludesAs view edge t old new (concluded.Over fault) = EndsWith view edge t old new fault

-- a block is wanted, or the log is through
abbrev pub SettlesAs : View → Option Edge → Trying → Batch → Batch → Settled → Type 0
SettlesAs view edge t old new (settled.Waits next) =
    (new ≡ old) × (next.walk.left ≢ 0) × (next.walk.owner ≡ t.walk.owner) × GoesOnWith view edge t old next
SettlesAs view edge t old new (settled.Over fault) = EndsWith view edge t old new fault

-- ---- how many blocks may still be wanted

-- the next head leaves fewer
abbrev pub LeavesFewer : Trying → Concluded → Type 0
LeavesFewer t (concluded.Next next) = trial_left next < trial_left t
LeavesFewer t (concluded.Over fault) = Unit {0}

-- those that wait leave no more, and they are the same or fewer heads are left
abbrev pub LeavesNoMore : Trying → Settled → Type 0
LeavesNoMore t (settled.Waits next) = (trial_left next ≤ trial_left t) × ((next ≡ t) ⊎ (length next.rest < length t.rest))
LeavesNoMore t (settled.Over fault) = Unit {0}
