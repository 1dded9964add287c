use Rattle.std.proofs.Common.{List, ℕ, is_some, ap, ◌∙◌}
use Rattle.tree_model.specs.Tree.{entry}
use Rattle.tree_model.specs.Apply.{link}
use Rattle.snapshot_loading.specs.Steps.{beginning}
use Rattle.snapshot_loading.proofs.Linked.{linked}
use Rattle.snapshot_loading.proofs.linking.link.Goals as goal

pub returns : goal.returns
returns c =
    linked c.args.tree.now c.requires.made c.args.dir.now c.args.name.now c.args.number.now c.requires.order c.apply.new.self
    (c.in_ok-apply.ensures.ok ∙ ap (λ (n : List ℕ). link c.args.tree.now beginning c.args.dir.now n c.args.number.now) c.in_ok-copy.ensures) c.is_some.result
    (c.is_some.ensures ∙ ap is_some (c.entry.ensures ∙ ap (λ (n : List ℕ). entry c.apply.new.self c.args.dir.now n) c.as_slice.ensures))
