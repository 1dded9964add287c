use Rattle.lms_core.specs.Walks.{HasGone}
use Rattle.lms_core.proofs.walks.Walks.walk_lanes.Given as goal

abbrev pub invariant-lanes : goal.invariant-lanes
invariant-lanes l = HasGone l.leaf.id l.leaf.number l.initial.self l.self
