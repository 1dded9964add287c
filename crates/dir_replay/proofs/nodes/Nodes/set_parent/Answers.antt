use Rattle.std.proofs.Common.{T, refl, ap, ◌∙◌, subst}
use Rattle.std.specs.FinMap.Entries.{find as value_at, is_sorted}
use Rattle.ivy_base.specs.Naming.{key_cmp}
use Rattle.dir_replay.proofs.Changes.{unmoved}
use Rattle.dir_replay.proofs.nodes.Nodes.set_parent.Goals as goal

pub returns-then-both_same-clause-ok : goal.returns-then-both_same-clause-ok
returns-then-both_same-clause-ok c =
    let ordered = subst (λ nodes. T (is_sorted key_cmp nodes)) c.self.view_is c.in-Some.ensures.ordered in
    unmoved c.args.ino.now c.args.parent c.in-Some.node.now c.args.self.now ordered (c.in-Some.ensures.value ∙ ap (λ nodes. value_at key_cmp c.args.ino.now nodes) c.self.view_is) (c.if-both_same.ensures refl)
