use Rattle.fork_proof.proofs.Reading.{front_read}
use Rattle.fork_proof.proofs.form.read_front.Goals as goal

pub returns : goal.returns
returns c = front_read c.read_tag.ensures c.opaque-low.ensures c.opaque-high.ensures
