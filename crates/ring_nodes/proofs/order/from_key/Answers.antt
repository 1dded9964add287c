use Rattle.std.proofs.Common.{rules}
use Rattle.ring_model.specs.Circle.{number}
use Rattle.ring_nodes.proofs.Behind.{from_is}
use Rattle.ring_nodes.proofs.order.from_key.Goals as goal

pub returns : goal.returns
returns c = from_is c.args.live.now c.front.peers.items (number c.args.key.now) c.front.peer-index c.front.invariant (search rules)
