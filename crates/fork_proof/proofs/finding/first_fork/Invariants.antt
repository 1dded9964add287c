use Rattle.std.proofs.Common.{◌≡◌, map, drop}
use Rattle.fork_model.specs.Before.{Before, TellsRecords}
use Rattle.fork_model.specs.Finding as model
use Rattle.fork_proof.specs.Found.{walk_seen}
use Rattle.fork_proof.proofs.finding.first_fork.Given as goal

abbrev pub invariant-firsts : goal.invariant-firsts
invariant-firsts l = (before : Before) → TellsRecords before
    → model.first_pair (model.fork_of before l.blocks) (map walk_seen (drop l.place l.walks)) ≡ model.first_pair (model.fork_of before l.blocks) (map walk_seen l.walks)
