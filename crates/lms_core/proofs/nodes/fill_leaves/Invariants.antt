use Rattle.std.proofs.Common.{◌*◌}
use Rattle.lms_core.specs.Kept.{AreLeaves}
use Rattle.lms_core.proofs.nodes.fill_leaves.Given as goal

abbrev pub invariant-fours : goal.invariant-fours
invariant-fours l = AreLeaves l.key l.first l.out (4 * l.four)
