use Rattle.sha256_lanes.proofs.LaneLemmas.{lanes_choose}
use Rattle.sha256_lanes.proofs.words.ch.Goals as goal

pub returns : goal.returns
returns c = lanes_choose c.args.x c.fits-x.0 c.args.y c.fits-y.0 c.args.z c.fits-z.0
