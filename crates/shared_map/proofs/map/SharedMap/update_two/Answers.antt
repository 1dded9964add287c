use Rattle.std.proofs.Common.{sym, ◌∙◌}
use Rattle.shared_map.proofs.Paired.{two_still_sorted}
use Rattle.shared_map.proofs.map.SharedMap.update_two.Goals as goal

pub invariant_of-self : goal.invariant_of-self
invariant_of-self g c =
    (two_still_sorted g.K.MapKey.order g.met.K.MapKey.total g.E.Edit.makes (g.A.Amend.makes c.args.amend.now) (g.Q.Sought.key c.args.first.now) (g.Q.Sought.key c.args.second.now) c.args.edit.now c.update_two.new.edit c.self.inside.tree.0 c.update_two.new.tree.0 c.self.invariant.0 c.update_two.result c.update_two.ensures.ok c.update_two.ensures.err, c.self.invariant.1 ∙ sym c.update_two.ensures.shape.0)
