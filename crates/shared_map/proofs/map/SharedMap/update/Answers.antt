use Rattle.std.proofs.Common.{sym, ◌∙◌}
use Rattle.shared_map.proofs.Edited.{still_sorted}
use Rattle.shared_map.proofs.map.SharedMap.update.Goals as goal

pub invariant_of-self : goal.invariant_of-self
invariant_of-self g c =
    (still_sorted g.K.MapKey.order g.met.K.MapKey.total g.E.Edit.makes (g.Q.Sought.key c.args.key.now) c.args.edit.now c.update.new.edit c.self.inside.tree.0 c.update.new.tree.0 c.self.invariant.0 c.update.result (c.update.ensures.ok c.self.invariant.0) c.update.ensures.err, c.self.invariant.1 ∙ sym c.update.ensures.shape.0)
