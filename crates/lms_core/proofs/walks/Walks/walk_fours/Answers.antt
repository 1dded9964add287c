use Rattle.std.proofs.Common.{[], ◌∷◌, ◌<◌, slice_index, refl, ◌∙◌, arith}
use Rattle.std.proofs.lemmas.List.{length-set}
use Rattle.sha256_lanes.proofs.LaneLemmas.{below_four}
use Rattle.lms_core.proofs.OnWay.{goes_on, lane_written, may_go_on, stays}
use Rattle.lms_core.proofs.walks.Walks.walk_fours.Goals as goal

pub places-init : goal.places-init
places-init c = record {
  four = refl;
  lanes = below_four (λ k. slice_index (0 ∷ 1 ∷ 2 ∷ 3 ∷ []) k < 68) (omega arith) (omega arith) (omega arith) (omega arith);
  gone = stays c.args.leaf.now.id c.args.leaf.now.number c.args.self.now c.requires;
}

pub walk_shortest-lane-requires-clause-way : goal.walk_shortest-lane-requires-clause-way
walk_shortest-lane-requires-clause-way c = may_go_on c.args.leaf.now.id c.args.leaf.now.number c.args.self.now c.places.self c.requires c.places.invariant.gone

pub places-preserved : goal.places-preserved
places-preserved c = record {
  four = length-set c.places.lanes c.walk_shortest-lane.result c.places.place ∙ c.places.invariant.four;
  lanes = lane_written c.places.lanes c.walk_shortest-lane.result c.places.place c.places.invariant.four c.walk_shortest-lane.ensures.lane (omega arith) c.places.invariant.lanes;
  gone = goes_on _ _ _ _ _ c.places.invariant.gone c.walk_shortest-lane.ensures.gone;
}
