use Rattle.std.proofs.Common.{None, sym, subst}
use Rattle.script_driver.specs.Run.{Refuses}
use Rattle.world_model.specs.Ring.{JoinLine}
use Rattle.world_model.specs.Ring.JoinLine.{before_ring}
use Rattle.script_world.specs.PartsState.{HasParts}
use Rattle.script_world.proofs.Changing.{joins_in, told_so}
use Rattle.script_world.proofs.parts.Parts.join.Goals as goal

pub returns-in_default : goal.returns-in_default
returns-in_default g c = λ w has.
    told_so w _ (subst (HasParts w) (sym c.self.view_is) has) (λ o outcome. JoinLine (g.J.Judge.judges c.args.judge.now) w c.args.number o outcome) None c.in_default.is Refuses before_ring

pub returns : goal.returns
returns g c =
    joins_in (g.J.Judge.judges c.args.judge.now) c.args.self.now _ c.self.view_is c.args.number c.in-Some.replicas c.in_ok-join.join c.join.new.self c.taken_of.result c.in-Some.is c.in_ok-join.ensures.line
    c.taken_of.ensures
