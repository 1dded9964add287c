use Rattle.std.proofs.Common.{◌≡◌, get_or, map, subst}
use Rattle.node_store.specs.Stores.{post_of}
use Rattle.ring_nodes.specs.NodesState.{NodesState}
use Rattle.ring_nodes.proofs.Changing.{call_has_node}
use Rattle.ring_nodes.proofs.nodes.RingNodes.posts.Goals as goal

pub returns : goal.returns
returns c =
    call_has_node (λ posts n. posts ≡ map post_of n.blocks) c.args.self.now c.args.peer.now.id c.place.result c.index.result.now c.posts.result c.place.ensures
    (subst (λ (s : NodesState). c.index.result.now ≡ get_or s.nodes c.place.result c.index.result.now) c.self.view_is c.index.ensures) c.posts.ensures
