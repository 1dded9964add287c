use Rattle.std.proofs.Common.{refl, sym}
use Rattle.sha2.proofs.Schedule256.{rounds_first}
use Rattle.sha256_lanes.specs.Lanes.{lane, state}
use Rattle.sha256_lanes.proofs.LaneLemmas.{lane_word}
use Rattle.sha256_lanes.proofs.block.first_step.Goals as goal

pub returns : goal.returns
returns c j below = λ b h window held.
    rounds_first b h (lane j c.args.w.now) (state j c.args.v) c.args.t _ _ _ c.requires window held refl (sym (lane_word c.args.w.now j c.args.t)) (c.round.ensures j below)
