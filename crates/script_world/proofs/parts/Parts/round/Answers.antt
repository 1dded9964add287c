use Rattle.std.proofs.Common.{[], None, Some, sym, subst}
use Rattle.script_driver.specs.Run.{Refuses}
use Rattle.world_model.specs.Rounds.{RoundLine}
use Rattle.world_model.specs.Rounds.RoundLine.{before_ring, goes}
use Rattle.ring_nodes.specs.NodesState.{with_nodes}
use Rattle.script_world.specs.PartsState.{HasParts}
use Rattle.script_world.proofs.Changing.{nodes_go, told_so}
use Rattle.script_world.proofs.parts.Parts.round.Goals as goal

pub returns-in_default : goal.returns-in_default
returns-in_default g c = λ w has. told_so w _ (subst (HasParts w) (sym c.self.view_is) has) (λ o outcome. RoundLine (g.J.Judge.judges c.args.judge.now) w o outcome) None c.in_default.is Refuses before_ring

pub returns : goal.returns
returns g c = λ w has.
    let from : HasParts w _ = subst (HasParts w) (sym c.self.view_is) has in
    nodes_go w _ from (λ o outcome. RoundLine (g.J.Judge.judges c.args.judge.now) w o outcome) (Some c.in-Some.replicas) c.in-Some.is c.round.new.nodes [] c.new.result.items
    (goes c.in-Some.replicas (with_nodes w c.round.new.nodes) (c.in_ok-round.ensures.round w from.nodes)) c.new.ensures.items
