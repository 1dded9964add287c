use Rattle.fork_proof.proofs.Walks.{prev_found, never_found}
use Rattle.fork_proof.proofs.checking.prev_of.Goals as goal

pub returns-in-Ok : goal.returns-in-Ok
returns-in-Ok c = prev_found c.args.owner.now c.args.block.now c.args.seq _ c.prev_at.result c.in-Ok.ensures.ok c.prev_at.ensures

pub returns-in-Err : goal.returns-in-Err
returns-in-Err c = never_found c.args.owner.now c.args.block.now c.args.seq c.in-Err.fault c.unread.result c.in-Err.ensures.err c.unread.ensures.none c.unread.ensures.other
