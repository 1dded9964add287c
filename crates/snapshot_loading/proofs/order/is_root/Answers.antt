use Rattle.std.proofs.Common.{sym, ◌∙◌}
use Rattle.ivy_base.specs.Naming.{root_number}
use Rattle.tree_model.proofs.Same.{same_key_answer}
use Rattle.snapshot_loading.proofs.order.is_root.Goals as goal

pub returns : goal.returns
returns c = c.eq.ensures ∙ sym (same_key_answer root_number c.args.number.now)
