use Rattle.snapshot_loading.proofs.Settled.{settled}
use Rattle.snapshot_loading.proofs.settling.settle.Goals as goal

pub returns : goal.returns
returns c = settled c.args.part.now c.args.tree.now c.put_content.new.self c.in_ok-content.content c.in_ok-content.ensures.content c.in_ok-put_content.ensures.ok c.in_ok-put_content.ensures.sound
