use Rattle.log_fetch.proofs.Getting.{heads_came, block_came}
use Rattle.log_fetch.proofs.get.Get.next.Goals as goal

pub returns-in-Done-clause-wanted : goal.returns-in-Done-clause-wanted
returns-in-Done-clause-wanted g c = heads_came g.J.Judge.judges c.args.self.now c.in-Heads.field-0 c.in-Heads.get _ c.in_ok-node-in-Heads.field-0 c.in-Done.heads c.in-Heads.is c.in_ok-node-in-Heads.ensures.wanted c.in-Done.is

pub returns-in-Done-2-clause-wanted : goal.returns-in-Done-2-clause-wanted
returns-in-Done-2-clause-wanted g c = block_came g.J.Judge.judges c.args.self.now c.in-Block.get _ c.in_ok-node-in-Block.field-0 c.in-Done-2.block c.in-Block.is c.in_ok-node-in-Block.ensures.wanted c.in-Done-2.is
