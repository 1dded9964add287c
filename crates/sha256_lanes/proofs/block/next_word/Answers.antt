use Rattle.std.proofs.Common.{◌≡◌, ◌+◌, ◌%◌, arith, refl}
use Rattle.sha256_lanes.proofs.LaneLemmas.{lane_word}
use Rattle.sha256_lanes.proofs.block.next_word.Goals as goal

pub returns-clause-value : goal.returns-clause-value
returns-clause-value c j h =
    let w = c.args.w.now in
    let place = c.args.place in
    let at : place % 16 ≡ place = omega arith in
    rw (
      c.add-word.ensures j h,
      c.add.ensures j h,
      c.add-near.ensures j h,
      c.small_sigma1.ensures j h,
      c.small_sigma0.ensures j h,
      lane_word w j ((place + 14) % 16),
      lane_word w j ((place + 9) % 16),
      lane_word w j ((place + 1) % 16),
      lane_word w j (place % 16),
      at,
    ) refl
