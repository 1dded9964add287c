use Rattle.std.proofs.Common.{◌≡◌, ◌+◌, sym, ap, ◌∙◌, subst, rules}
use Rattle.world_model.specs.World.{World}
use Rattle.world_model.specs.Fates.{FateOf}
use Rattle.ring_nodes.specs.NodesState.{NamesOnly, NodesState, IsNodesOf, made_peers, with_nodes}
use Rattle.ring_nodes.proofs.Losing.{is_kept, is_lost}
use Rattle.ring_nodes.proofs.Reaching.{kept_fate, lost_fate}
use Rattle.ring_nodes.proofs.nodes.RingNodes.ask.Goals as goal
use Rattle.ring_nodes.proofs.nodes.RingNodes.ask.Goals.{then-contains, else-contains+in_ok-answer}

pub returns-clause-fate : goal.returns-clause-fate
returns-clause-fate g c =
    let next : NodesState = record { nodes = c.self-2.inside.nodes.items; asked = c.in-Some.number; lost = c.self-2.inside.lost.items } in
    let number : c.in-Some.number ≡ c.self.inside.asked + 1 = search rules in
    let counts : c.in-Some.number ≡ c.args.self.now.asked + 1 = number ∙ ap (λ (s : NodesState). s.asked + 1) c.self.view_is in
    let losses : c.deref.result.now ≡ c.args.self.now.lost = c.deref.ensures.value ∙ ap (λ (s : NodesState). s.lost) c.self.view_is in
    elim c.if-contains.branch [
      | then-contains w ↦
          let same : c.if-contains.self ≡ c.args.self.now = search rules in
          lost_fate (g.J.Judge.judges c.args.judge.now) c.args.to.now c.args.question.now c.args.self.now next c.if-contains.answer
          (is_lost c.args.self.now.lost c.deref.result.now c.in-Some.number (c.args.self.now.asked + 1) c.contains.result c.contains.ensures.value losses counts w.if-contains.true)
          w.answer-is (ap (λ (s : NodesState). s.nodes) (c.self-2.view_is ∙ same)) counts (ap (λ (s : NodesState). s.lost) (c.self-2.view_is ∙ same))
      | else-contains+in_ok-answer w ↦
          subst (λ given. (v : World) → IsNodesOf v c.args.self.now → FateOf (g.J.Judge.judges c.args.judge.now) v c.args.to.now c.args.question.now given (with_nodes v next)) (sym w.answer-is)
          (kept_fate (g.J.Judge.judges c.args.judge.now) c.args.to.now c.args.question.now c.args.self.now w.reach.new.self next _
          (is_kept c.args.self.now.lost c.deref.result.now c.in-Some.number (c.args.self.now.asked + 1) c.contains.result c.contains.ensures.value losses counts w.if-contains.false)
          w.in_ok-answer.ensures.fate w.reach.ensures.asked w.reach.ensures.lost
          (ap (λ (s : NodesState). s.nodes) (c.self-2.view_is ∙ w.self-is)) counts (ap (λ (s : NodesState). s.lost) (c.self-2.view_is ∙ w.self-is)))
    ]

pub returns-clause-named : goal.returns-clause-named
returns-clause-named g c =
    elim c.if-contains.branch [
      | then-contains w ↦ subst (NamesOnly (made_peers c.args.self.now)) (sym w.answer-is) tt
      | else-contains+in_ok-answer w ↦ subst (NamesOnly (made_peers c.args.self.now)) (sym w.answer-is) w.in_ok-answer.ensures.named
    ]
