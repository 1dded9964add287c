use Rattle.std.proofs.Common.{rules, not, ◌∙◌}
use Rattle.std.proofs.lemmas.Fn.{filter_same}
use Rattle.std.specs.Ordering.{eq_by_cmp}
use Rattle.tree_model.specs.Tree.{place_cmp}
use Rattle.plain_tree.proofs.Put.{without}
use Rattle.plain_tree.proofs.names.remove.Goals as goal

pub returns : goal.returns
returns c = filter_same _ (λ e. not (eq_by_cmp place_cmp (c.args.dir.now, c.args.name.now) e.0)) _ (λ x b f' k. search rules) _ _ c.retain.ensures.filtered ∙ without (c.args.dir.now, c.args.name.now) c.args.names.now.items
