use Rattle.std.proofs.Common.{◌≡◌, ◌+◌, ◌-◌, ◌<◌, List, [], ℕ, slice_index, slice_index_or, refl, ap, ◌∙◌, arith}
use Rattle.hash_signature_model.specs.OneTime.{chain}
use Rattle.lms_core.specs.Kept.{at}
use Rattle.lms_core.specs.Walks.{IsOnWay}
use Rattle.lms_core.proofs.OnWay.{one_written, stays}
use Rattle.lms_core.proofs.walks.Walks.walk_lanes.Goals as goal

pub later-reached-requires : goal.later-reached-requires
later-reached-requires c k below =
    let way = c.requires.way (slice_index c.args.lanes.now k) (c.requires.lanes k below) in
    omega (arith, way.0, way.1, c.requires.room k below, c.numbers_in-numbers.ensures k below)

pub lanes-init : goal.lanes-init
lanes-init c = stays c.args.leaf.now.id c.args.leaf.now.number c.args.self.now c.requires.way

pub lanes-preserved : goal.lanes-preserved
lanes-preserved c =
    let id = c.args.leaf.now.id in
    let leaf = c.args.leaf.now.number in
    let before = c.args.self.now in
    let k = c.lanes.lane in
    let below : k < 4 = omega arith in
    let place = slice_index c.args.lanes.now k in
    let inside : place < 68 = c.requires.lanes k below in
    let number : slice_index c.numbers_in-numbers.result k ≡ slice_index before.from place = c.numbers_in-numbers.ensures k below in
    let later : slice_index c.later-reached.result k ≡ slice_index c.numbers_in-numbers.result k + c.args.steps = c.later-reached.ensures k below in
    let way = c.requires.way place inside in
    let room = c.requires.room k below in
    let gone : slice_index c.later-reached.result k - slice_index before.from place ≡ c.args.steps = omega arith in
    let end : slice_index_or c.to_bytes-ends.result k [] ≡ chain id leaf place (slice_index before.from place) (slice_index c.later-reached.result k - slice_index before.from place) (at before.values place) =
    ap (λ (lists : List (List ℕ)). at lists k) c.to_bytes-ends.ensures ∙ (c.walk_each.ensures k below ∙ rw (number, c.values_in-start.ensures k below, gone) refl) in
    record {
      ends = c.lanes.invariant.ends;
      chains = one_written (λ i value n. IsOnWay id leaf before i value n) c.lanes.self.values c.lanes.self.from place (slice_index_or c.to_bytes-ends.result k []) (slice_index c.later-reached.result k)
          (omega arith) (omega arith) (record { forward = omega arith; inside = omega (arith, way.0); reached = end }) c.lanes.invariant.chains;
    }
