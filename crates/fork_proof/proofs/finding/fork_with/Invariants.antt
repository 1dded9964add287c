use Rattle.std.proofs.Common.{◌≡◌, map, drop}
use Rattle.fork_model.specs.Before.{Before, TellsRecords}
use Rattle.fork_model.specs.Finding as model
use Rattle.fork_proof.specs.Found.{walk_seen}
use Rattle.fork_proof.proofs.finding.fork_with.Given as goal

abbrev pub invariant-others : goal.invariant-others
invariant-others l = (before : Before) → TellsRecords before
    → model.first_with (model.fork_of before l.blocks (walk_seen l.one)) (map walk_seen (drop l.other-index l.others))
    ≡ model.first_with (model.fork_of before l.blocks (walk_seen l.one)) (map walk_seen l.others)
