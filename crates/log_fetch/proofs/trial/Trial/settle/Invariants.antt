use Rattle.std.proofs.Common.{◌≡◌, ◌⊎◌, ◌<◌, ◌≤◌, length}
use Rattle.log_fetch.specs.Trying.{GoesOnWith, trial_left}
use Rattle.log_fetch.proofs.trial.Trial.settle.Given as goal

-- the heads went on as far as this one, and nothing was taken
abbrev pub invariant-walks : goal.invariant-walks
invariant-walks l = record {
  batch : l.batch ≡ l.fn.batch;
  owner : l.trial.walk.owner ≡ l.fn.self.walk.owner;
  goes_on : GoesOnWith l.view l.edge l.fn.self l.fn.batch l.trial;
  left : trial_left l.trial ≤ trial_left l.fn.self;
  fewer : (l.trial ≡ l.fn.self) ⊎ (length l.trial.rest < length l.fn.self.rest);
}

abbrev pub decreases-walks : goal.decreases-walks
decreases-walks l = length l.trial.rest
