use Rattle.std.proofs.Common.{◌≡◌, map, Option, Some}
use Rattle.fork_model.specs.Before.{Before, TellsRecords}
use Rattle.fork_model.specs.Finding as model
use Rattle.fork_proof.specs.Found.{tip_seen}
use Rattle.fork_proof.proofs.ways.way_down.Given as goal

abbrev pub invariant-records : goal.invariant-records
invariant-records l = (before : Before) → TellsRecords before
    → ◌≡◌ {A = Option model.Way} (Some (record { blocks = map (λ b. b.now) l.passed.items; last = l.last })) (model.way_down before l.blocks (tip_seen l.tip) l.above)
