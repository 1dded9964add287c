use Rattle.std.proofs.Common.{sym, ◌∙◌, subst}
use Rattle.world_model.specs.Rounds.{FixesFinger}
use Rattle.world_model.specs.World.{World}
use Rattle.ring_model.specs.Members.{IsAmong}
use Rattle.ring_nodes.specs.NodesState.{IsNodesOf, NodesState, with_nodes}
use Rattle.ring_nodes.proofs.Fixing.{fixes_none, fixes_some}
use Rattle.ring_nodes.proofs.fingers.fix.Goals as goal
use Rattle.ring_nodes.proofs.fingers.fix.Goals.{in-Some, in_default}

pub returns-clause-fixes : goal.returns-clause-fixes
returns-clause-fixes g c =
    elim c.match-first_of.branch [
      | in-Some w ↦
          subst (λ (s : NodesState). (v : World) → IsNodesOf v c.args.nodes.now → FixesFinger (g.J.Judge.judges c.args.judge.now) c.args.peer.now c.args.index v (with_nodes v s)) (sym w.nodes-is)
          (fixes_some (g.J.Judge.judges c.args.judge.now) c.args.peer.now c.args.index c.args.nodes.now c.look_up.new.self c.start_of-key.result c.start_of-key.ensures.key c.start_of-key.ensures.start c.in_ok-found.found c.in_ok-found.ensures.finds
          w.fix_finger.new.self w.in-Some.owner (sym c.first_of.ensures ∙ w.in-Some.is) w.fix_finger.ensures.changes)
      | in_default w ↦
          subst (λ (s : NodesState). (v : World) → IsNodesOf v c.args.nodes.now → FixesFinger (g.J.Judge.judges c.args.judge.now) c.args.peer.now c.args.index v (with_nodes v s)) (sym w.nodes-is)
          (fixes_none (g.J.Judge.judges c.args.judge.now) c.args.peer.now c.args.index c.args.nodes.now c.look_up.new.self c.start_of-key.result c.start_of-key.ensures.key c.start_of-key.ensures.start c.in_ok-found.found c.in_ok-found.ensures.finds
          c.are_sound.ensures (subst (IsAmong c.args.peer.now) (sym c.look_up.ensures.made) c.requires.made) (sym c.first_of.ensures ∙ w.in_default.is))
    ]
