use Rattle.std.proofs.Common.{rules}
use Rattle.ring_nodes.proofs.Numbering.{put_by_number}
use Rattle.ring_nodes.proofs.nodes.put_numbered.Goals as goal

pub returns : goal.returns
returns c =
    put_by_number c.args.peers.now.items c.insert.new.self.items c.args.peer c.first_above.result c.unwrap_or-place.result c.len.result
    (search rules) (search rules) (search rules) (search rules)
