use Rattle.std.proofs.Common.{sym, ap}
use Rattle.world_model.specs.Nodes.{Node}
use Rattle.ring_nodes.proofs.Putting.{block_given, head_given, named_block}
use Rattle.ring_nodes.proofs.node.RingNode.answer_known.Goals as goal

pub returns-in-PutBlock-clause-given : goal.returns-in-PutBlock-clause-given
returns-in-PutBlock-clause-given g c =
    block_given (g.J.Judge.judges c.args.judge.now) c.args.self.now c.args.question.now c.in-PutBlock.key c.in-PutBlock.bytes c.as_slice.result.now c.self.inside.store c.put_known.result c.told.result
    c.in-PutBlock.is c.as_slice.ensures (ap (λ (n : Node). n.blocks) (sym c.self.view_is)) c.put_known.ensures.told c.told.ensures

pub returns-in-PutHead-clause-given : goal.returns-in-PutHead-clause-given
returns-in-PutHead-clause-given g c =
    head_given (g.J.Judge.judges c.args.judge.now) c.args.self.now c.args.question.now c.in-PutHead.key c.in-PutHead.bytes c.as_slice-in-PutHead.result.now c.self.inside.store c.put_head.result c.told-in-PutHead.result
    c.in-PutHead.is c.as_slice-in-PutHead.ensures (ap (λ (n : Node). n.blocks) (sym c.self.view_is)) c.put_head.ensures.told c.told-in-PutHead.ensures

pub put_known-requires : goal.put_known-requires
put_known-requires g c = λ so. named_block c.args.question.now c.in-PutBlock.key c.in-PutBlock.bytes c.as_slice.result.now c.in-PutBlock.is c.as_slice.ensures (c.requires so)
