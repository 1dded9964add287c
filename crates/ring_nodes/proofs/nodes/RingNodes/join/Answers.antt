use Rattle.std.proofs.Common.{◌≡◌, true, false, sym, ap, ◌∙◌, subst, ◌≤◌, ◌<◌}
use Rattle.dhash_model.specs.State.{alone_node}
use Rattle.dht_ids.specs.declared.peer.Peer.{Peer}
use Rattle.world_model.specs.Ring.{empty_node}
use Rattle.ring_nodes.specs.Joining.{IsNewPeer, with_node_more}
use Rattle.ring_nodes.proofs.Joins.{alone_line, full_line, known_is, least_made, lines_through, never_undone, new_alone, refused_line}
use Rattle.ring_nodes.proofs.nodes.RingNodes.join.Goals as goal

pub returns-then-is_made-clause-line : goal.returns-then-is_made-clause-line
returns-then-is_made-clause-line g c =
    refused_line (g.J.Judge.judges c.args.judge.now) c.args.self.now c.args.number c.args.replicas c.args.self.now
    (known_is c.args.self.now c.args.number c.node_id.result c.is_made.result true c.node_id.ensures c.is_made.ensures c.if-is_made.true)

pub returns-then-count-ge-MOST_NODES-clause-line : goal.returns-then-count-ge-MOST_NODES-clause-line
returns-then-count-ge-MOST_NODES-clause-line g c =
    full_line (g.J.Judge.judges c.args.judge.now) c.args.self.now c.args.number c.args.replicas
    (known_is c.args.self.now c.args.number c.node_id.result c.is_made.result false c.node_id.ensures c.is_made.ensures c.if-is_made.false) c.args.self.now
    (subst (λ n. 256 ≤ n) c.count.ensures c.if-count-ge-MOST_NODES.true)

pub join_through-requires-clause-new : goal.join_through-requires-clause-new
join_through-requires-clause-new g c = record { unknown = sym c.is_made.ensures ∙ c.if-is_made.false; named = c.node_id.ensures }

pub join_through-requires-clause-made : goal.join_through-requires-clause-made
join_through-requires-clause-made g c = least_made c.args.self.now.nodes c.in-Some.through (sym c.least_live.ensures ∙ c.in-Some.is)

pub add-requires : goal.add-requires
add-requires g c =
    let peer : Peer = record { number = c.args.number; id = c.node_id.result } in
    let new : IsNewPeer c.args.self.now peer = record { unknown = sym c.is_made.ensures ∙ c.if-is_made.false; named = c.node_id.ensures } in
    new_alone c.args.self.now peer c.args.replicas new c.in_ok-alone-in-None.field-0 c.in_ok-alone-in-None.ensures

pub returns-in-Some-clause-line : goal.returns-in-Some-clause-line
returns-in-Some-clause-line g c =
    lines_through (g.J.Judge.judges c.args.judge.now) c.args.self.now c.args.number c.args.replicas
    (known_is c.args.self.now c.args.number c.node_id.result c.is_made.result false c.node_id.ensures c.is_made.ensures c.if-is_made.false)
    (subst (λ n. n < 256) c.count.ensures c.if-count-ge-MOST_NODES.false) c.in-Some.through (sym c.least_live.ensures ∙ c.in-Some.is) c.join_through.new.self c.node_id.result c.join_through.result c.node_id.ensures c.join_through.ensures.joins

pub returns-in-Some-clause-undone : goal.returns-in-Some-clause-undone
returns-in-Some-clause-undone g c = never_undone (λ became. c.join_through.new.self ≡ c.args.self.now) c.join_through.result c.join_through.ensures.done

pub returns-in_ok-add-in-None-clause-line : goal.returns-in_ok-add-in-None-clause-line
returns-in_ok-add-in-None-clause-line g c =
    alone_line (g.J.Judge.judges c.args.judge.now) c.args.self.now c.args.number c.args.replicas
    (known_is c.args.self.now c.args.number c.node_id.result c.is_made.result false c.node_id.ensures c.is_made.ensures c.if-is_made.false)
    (subst (λ n. n < 256) c.count.ensures c.if-count-ge-MOST_NODES.false) c.add.new.self (sym c.least_live.ensures ∙ c.in-None.is)
    (c.in_ok-add-in-None.ensures.added ∙ ap (with_node_more c.args.self.now) (c.in_ok-alone-in-None.ensures ∙ ap (λ k. empty_node (alone_node (record { number = c.args.number; id = k }) c.args.replicas)) c.node_id.ensures))
