use Rattle.std.proofs.Common.{rules}
use Rattle.ring_nodes.proofs.Numbering.{put_by_place}
use Rattle.ring_nodes.proofs.order.put_in_order.Goals as goal

pub returns : goal.returns
returns c =
    put_by_place c.args.peers.now.items c.insert.new.self.items c.args.peer c.first_behind.result c.unwrap_or-place.result c.len.result
    (search rules) (search rules) (search rules) (search rules)
