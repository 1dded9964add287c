use Rattle.std.proofs.Common.{List, map, sym, ap, ◌∙◌, subst}
use Rattle.dht_ids.specs.declared.post.Ack.{Ack}
use Rattle.world_model.specs.Rounds.{PutsAll}
use Rattle.ring_nodes.specs.NodesState.{with_nodes}
use Rattle.ring_nodes.proofs.Repaired.{repairs}
use Rattle.ring_nodes.proofs.repairing.repair.Goals as goal

pub returns-clause-repairs : goal.returns-clause-repairs
returns-clause-repairs g c =
    repairs (g.J.Judge.judges c.args.judge.now) c.args.peer.now c.args.replicas c.args.nodes.now c.put_all.new.nodes c.drop_blocks.new.self c.in_ok-held.held c.deref.result.now c.in_ok-held.ensures
    (λ blocks e w is. subst (λ k. PutsAll (g.J.Judge.judges c.args.judge.now) c.args.peer.now c.args.replicas blocks w k (with_nodes w c.put_all.new.nodes)) (ap (λ (l : List Ack). map (λ a. a.key) l) (sym c.as_slice.ensures) ∙ sym c.in_ok-keys.ensures ∙ sym c.deref.ensures.value) (c.in_ok-acks.ensures.puts blocks e w is))
    c.drop_blocks.ensures.changes
