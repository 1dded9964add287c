use Rattle.std.proofs.Common.{◌∙◌}
use Rattle.sha256_lanes.proofs.LaneLemmas.{splat_at}
use Rattle.sha256_lanes.proofs.messages.hash_four.Goals as goal

pub returns : goal.returns
returns c j below =
    let three = c.three.ensures in
    c.hash_lanes.ensures j c.args.middle below (record { three = three.three; fit = three.fit; word = splat_at c.three.result j below ∙ three.word })
