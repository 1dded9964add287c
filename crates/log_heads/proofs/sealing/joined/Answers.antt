use Rattle.log_heads.proofs.SealedHeads.{joined_are}
use Rattle.log_heads.proofs.sealing.joined.Goals as goal

pub returns : goal.returns
returns c = joined_are c.args.front.now c.args.back.now c.copy_from_slice.new.self c.copy_from_slice-2.new.self c.told-front c.copy_from_slice.ensures.after c.copy_from_slice-2.ensures.after
