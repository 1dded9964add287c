use Rattle.std.proofs.Common.{◌^◌, ◌<◌, ◌∙◌, slice_index}
use Rattle.sha256_lanes.proofs.LaneLemmas.{lane_fits, left_shifts_of, shifts_of}
use Rattle.sha256_lanes.proofs.BlockLemmas.{joined_word}
use Rattle.sha256_lanes.proofs.messages.across.Goals as goal

pub returns : goal.returns
returns c j below =
    let fits : slice_index c.args.right j < 2 ^ 32 = lane_fits c.args.right j c.fits-right.0 c.fits-right.1 below in
    c.add.ensures j below ∙ rw (left_shifts_of 8 c.args.left c.fits-left.0 j below, shifts_of 24 c.args.right c.fits-right.0 j below)
    (joined_word (slice_index c.args.left j) (slice_index c.args.right j) fits)
