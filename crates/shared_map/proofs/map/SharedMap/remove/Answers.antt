use Rattle.std.proofs.Common.{◌≡◌, None, sym, ap, ◌∙◌}
use Rattle.std.specs.Option.{option_map}
use Rattle.std.specs.FinMap.Entries.{find as value_at}
use Rattle.shared_map.proofs.Counts.{one_less}
use Rattle.shared_map.proofs.Sides.{kept_if_absent}
use Rattle.shared_map.proofs.map.SharedMap.remove.Goals as goal

pub returns-in_default-clause-ok : goal.returns-in_default-clause-ok
returns-in_default-clause-ok g c =
    let none : value_at g.K.MapKey.order (g.Q.Sought.key c.args.key.now) c.args.self.now ≡ None = ap (λ es. value_at g.K.MapKey.order (g.Q.Sought.key c.args.key.now) es) (sym c.self.view_is) ∙ sym c.in_ok-old.ensures ∙ ap (option_map (λ v. v.value)) c.in_default.is in
    sym (kept_if_absent g.K.MapKey.order (g.Q.Sought.key c.args.key.now) c.args.self.now none)

pub invariant_of-self : goal.invariant_of-self
invariant_of-self g c =
    let old = c.in_ok-old.ensures in
    one_less g.K.MapKey.order g.met.K.MapKey.total (g.Q.Sought.key c.args.key.now) c.self.inside.tree.0 c.in_ok-self-inside.field-0.0 c.self.inside.count _ c.self.invariant.0 c.self.invariant.1 c.in_ok-old.field-0 c.in-Some.old old c.in-Some.is c.in_ok-self-inside.ensures.0
