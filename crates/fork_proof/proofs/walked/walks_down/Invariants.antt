use Rattle.std.proofs.Common.{◌≡◌, map, take}
use Rattle.std.specs.Prelude.{All}
use Rattle.fork_proof.specs.Found.{tip_seen, walk_seen, HasNames}
use Rattle.fork_proof.proofs.walked.walks_down.Given as goal

abbrev pub invariant-tips : goal.invariant-tips
invariant-tips l = record {
  tips : map walk_seen l.walks.items ≡ map tip_seen (take l.tip-index l.tips);
  names : All (HasNames l.blocks) l.walks.items;
}
