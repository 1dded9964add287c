use Rattle.std.proofs.Common.{reverse}
use Rattle.dhash_client.proofs.Asks.{leaves_out}
use Rattle.dhash_client.proofs.lookup.next_of.Goals as goal

pub loop-node-preserved : goal.loop-node-preserved
loop-node-preserved c = leaves_out (reverse c.args.asked.now) c.args.rest.now.items c.loop-node.rest.items c.pop_front.new.self.items c.in-Some.node c.loop-node.invariant c.in-Some.ensures.items c.if-not-was_asked.ensures
