use Rattle.sha256_lanes.proofs.LaneLemmas.{lanes_vote}
use Rattle.sha256_lanes.proofs.words.maj.Goals as goal

pub returns : goal.returns
returns c = lanes_vote c.args.x c.fits-x.0 c.args.y c.fits-y.0 c.args.z c.fits-z.0
