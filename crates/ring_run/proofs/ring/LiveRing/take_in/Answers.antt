use Rattle.std.proofs.Common.{◌≡◌, map, rules}
use Rattle.world_model.specs.Ring.{peer_numbered}
use Rattle.world_model.specs.World.{with_numbered}
use Rattle.ring_run.proofs.Numbers.{taken_is_live}
use Rattle.ring_run.proofs.Seats.{live_more}
use Rattle.ring_run.proofs.ring.LiveRing.take_in.Goals as goal

pub invariant_of-self-2 : goal.invariant_of-self-2
invariant_of-self-2 c =
    let more : c.put_numbered.new.peers.items ≡ with_numbered c.self.inside.made.items (peer_numbered c.args.number) = search rules in
    let lives = live_more (λ s. s.peer) c.self.inside.live.items c.push.new.self.items c.of.result c.in_ok-node.node c.numbered-peer.result (peer_numbered c.args.number) _ _ c.in_ok-push.ensures.items c.of.ensures c.in_ok-node.ensures c.numbered-peer.ensures in
    taken_is_live c.args.self.now c.self.inside.replicas c.args.number c.self.inside.made.items c.put_numbered.new.peers.items (map (λ s. s.peer) c.self.inside.live.items) (map (λ s. s.peer) c.push.new.self.items)
    c.self.invariant c.self.view_is c.requires more lives
