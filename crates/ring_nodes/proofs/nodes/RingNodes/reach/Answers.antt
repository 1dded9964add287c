use Rattle.std.proofs.Common.{◌≡◌, ◌<◌, false, true, length, map, get_or, set, sym, ap, ◌∙◌, subst, rules, IfOk}
use Rattle.world_model.specs.World.{peer_of}
use Rattle.round_laws.specs.RingOf.{AreApart}
use Rattle.ring_nodes.specs.NodesState.{BringsOnly, NamesOnly, NodesState, made_peers}
use Rattle.ring_nodes.proofs.Knowing.{call_knows, call_names}
use Rattle.ring_nodes.proofs.Places.{found_within, has_id, made_has_place, peers_set}
use Rattle.ring_nodes.proofs.Sound.{exchanged, old_knows, old_made}
use Rattle.ring_nodes.proofs.Reaching.{answer_reach, silent_reach}
use Rattle.ring_nodes.proofs.nodes.RingNodes.reach.Goals as goal

pub unreachable-requires : goal.unreachable-requires
unreachable-requires g c =
    made_has_place c.args.self.now.nodes c.args.to.now (subst (λ (s : NodesState). AreApart (map peer_of s.nodes)) c.self.view_is c.self.invariant.apart) c.requires.made (sym c.place_of.ensures ∙ c.in_default.is)

pub returns-then-not-is_live-clause-fate : goal.returns-then-not-is_live-clause-fate
returns-then-not-is_live-clause-fate g c =
    let still : c.index_mut-node.result.now.is_live ≡ false = search rules in
    silent_reach (g.J.Judge.judges c.args.judge.now) c.args.to.now c.args.question.now c.args.self.now (record { nodes = set c.self.inside.nodes.items c.in-Some.place c.index_mut-node.result.now; asked = c.self.inside.asked; lost = c.self.inside.lost.items }) c.in-Some.place c.index_mut-node.result.now
    (sym c.place_of.ensures ∙ c.in-Some.is) (subst (λ (s : NodesState). c.index_mut-node.result.now ≡ get_or s.nodes c.in-Some.place c.index_mut-node.result.now) c.self.view_is c.index_mut-node.ensures.value) still
    (ap (λ (s : NodesState). set s.nodes c.in-Some.place c.index_mut-node.result.now) c.self.view_is) (ap (λ (s : NodesState). s.asked) c.self.view_is) (ap (λ (s : NodesState). s.lost) c.self.view_is)

pub invariant_of-self-2 : goal.invariant_of-self-2
invariant_of-self-2 g c =
    exchanged c.self.inside.nodes.items c.args.self.now c.args.to.now.id c.in-Some.place c.index_mut-node.result.now c.answer.new.self (ap (λ (s : NodesState). s.nodes) c.self.view_is) (sym c.place_of.ensures ∙ c.in-Some.is) c.index_mut-node.ensures.value c.self.invariant
    c.answer.ensures.peer
    (λ h me. call_knows (g.J.Judge.judges c.args.judge.now) (map peer_of c.self.inside.nodes.items) c.index_mut-node.result.now c.answer.new.self c.args.question.now c.answer.result h
    (subst (λ (s : NodesState). BringsOnly (map peer_of s.nodes) c.args.question.now) (sym c.self.view_is) c.requires.brings) c.answer.ensures.after c.answer.ensures.unchanged)

pub returns-clause-fate : goal.returns-clause-fate
returns-clause-fate g c =
    let live : c.index_mut-node.result.now.is_live ≡ true = search rules in
    answer_reach (g.J.Judge.judges c.args.judge.now) c.args.to.now c.args.question.now c.args.self.now (record { nodes = set c.self.inside.nodes.items c.in-Some.place c.answer.new.self; asked = c.self.inside.asked; lost = c.self.inside.lost.items }) c.in-Some.place c.index_mut-node.result.now c.answer.new.self c.answer.result
    (subst (λ (s : NodesState). AreApart (map peer_of s.nodes)) c.self.view_is c.self.invariant.apart)
    (sym c.place_of.ensures ∙ c.in-Some.is) (subst (λ (s : NodesState). c.index_mut-node.result.now ≡ get_or s.nodes c.in-Some.place c.index_mut-node.result.now) c.self.view_is c.index_mut-node.ensures.value) live
    c.answer.ensures.given c.answer.ensures.after
    (ap (λ (s : NodesState). set s.nodes c.in-Some.place c.answer.new.self) c.self.view_is) (ap (λ (s : NodesState). s.asked) c.self.view_is) (ap (λ (s : NodesState). s.lost) c.self.view_is)

pub returns-clause-made : goal.returns-clause-made
returns-clause-made g c =
    peers_set c.self.inside.nodes.items c.in-Some.place c.answer.new.self c.index_mut-node.result.now c.index_mut-node.ensures.value c.answer.ensures.peer
    ∙ ap (λ (s : NodesState). map peer_of s.nodes) c.self.view_is

pub returns-clause-named : goal.returns-clause-named
returns-clause-named g c =
    let within : c.in-Some.place < length c.self.inside.nodes.items = subst (λ (s : NodesState). c.in-Some.place < length s.nodes) (sym c.self.view_is) (found_within (has_id c.args.to.now.id) c.args.self.now.nodes c.in-Some.place (sym c.place_of.ensures ∙ c.in-Some.is)) in
    subst (λ (s : NodesState). IfOk c.answer.result (NamesOnly (made_peers s))) c.self.view_is
    (call_names (g.J.Judge.judges c.args.judge.now) (map peer_of c.self.inside.nodes.items) c.index_mut-node.result.now c.args.question.now c.answer.result
    (old_knows c.self.inside.nodes.items c.in-Some.place c.index_mut-node.result.now c.self.invariant within c.index_mut-node.ensures.value)
    (old_made c.self.inside.nodes.items c.in-Some.place c.index_mut-node.result.now c.self.invariant within c.index_mut-node.ensures.value)
    c.answer.ensures.given)
