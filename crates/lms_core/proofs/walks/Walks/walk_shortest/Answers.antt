use Rattle.std.proofs.Common.{arith}
use Rattle.lms_core.proofs.OnWay.{stays}
use Rattle.lms_core.proofs.walks.Walks.walk_shortest.Goals as goal

pub walk_lanes-requires-clause-room : goal.walk_lanes-requires-clause-room
walk_lanes-requires-clause-room c k below = omega (arith, c.steps_left-steps.ensures, c.shortest-lane.ensures.least k below)

pub returns-else-steps-gt0-clause-gone : goal.returns-else-steps-gt0-clause-gone
returns-else-steps-gt0-clause-gone c = stays c.args.leaf.now.id c.args.leaf.now.number c.args.self.now c.requires.way
