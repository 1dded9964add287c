use Rattle.std.proofs.Common.{◌≡◌, length}
use Rattle.lms_core.specs.Fours.{AreLanes}
use Rattle.lms_core.specs.Walks.{HasGone}
use Rattle.lms_core.proofs.walks.Walks.walk_fours.Given as goal

abbrev pub invariant-places : goal.invariant-places
invariant-places l = record {
  four : length l.lanes ≡ 4;
  lanes : AreLanes l.lanes;
  gone : HasGone l.leaf.id l.leaf.number l.initial.self l.self;
}
