use Rattle.std.proofs.Common.{◌≡◌, sym, subst, MatchBool}
use Rattle.std.specs.Prelude.{◌≢◌}
use Rattle.dht_ids.specs.declared.ask.Answer.TheVariants as answer
use Rattle.world_model.specs.Rounds.{Forgets}
use Rattle.world_model.specs.World.{World}
use Rattle.ring_nodes.specs.NodesState.{IsNodesOf, NodesState, with_nodes}
use Rattle.ring_nodes.proofs.Forgotten.{forgets_none, forgets_not, forgets_so}
use Rattle.ring_nodes.proofs.forgetting.forget.Goals as goal
use Rattle.ring_nodes.proofs.forgetting.forget.Goals.{then-is_silent, else-is_silent}

pub returns-in_default-clause-forgets : goal.returns-in_default-clause-forgets
returns-in_default-clause-forgets g c = forgets_none (g.J.Judge.judges c.args.judge.now) c.args.peer.now c.args.nodes.now c.before-2.result c.before-2.ensures.before c.in_default.is

pub returns-clause-forgets : goal.returns-clause-forgets
returns-clause-forgets g c =
    elim c.if-is_silent.branch [
      | then-is_silent w ↦
          subst (λ (s : NodesState). (v : World) → IsNodesOf v c.args.nodes.now → Forgets (g.J.Judge.judges c.args.judge.now) v c.args.peer.now (with_nodes v s)) (sym w.nodes-is)
          (forgets_so (g.J.Judge.judges c.args.judge.now) c.args.peer.now c.args.nodes.now c.before-2.result c.in-Some.before c.before-2.ensures.before c.in-Some.is c.ask.new.self c.in_ok-heard.heard c.in_ok-heard.ensures.fate w.forget.new.self
          (subst (λ b. MatchBool b (c.in_ok-heard.heard ≡ answer.Silent) (c.in_ok-heard.heard ≢ answer.Silent)) w.if-is_silent.true c.is_silent.ensures) w.forget.ensures.changes)
      | else-is_silent w ↦
          subst (λ (s : NodesState). (v : World) → IsNodesOf v c.args.nodes.now → Forgets (g.J.Judge.judges c.args.judge.now) v c.args.peer.now (with_nodes v s)) (sym w.nodes-is)
          (forgets_not (g.J.Judge.judges c.args.judge.now) c.args.peer.now c.args.nodes.now c.before-2.result c.in-Some.before c.before-2.ensures.before c.in-Some.is c.ask.new.self c.in_ok-heard.heard c.in_ok-heard.ensures.fate
          (subst (λ b. MatchBool b (c.in_ok-heard.heard ≡ answer.Silent) (c.in_ok-heard.heard ≢ answer.Silent)) w.if-is_silent.false c.is_silent.ensures))
    ]
