use Rattle.std.proofs.Common.{sym, ◌∙◌}
use Rattle.tree_model.proofs.Same.{same_key_answer}
use Rattle.view_refresh.proofs.pending.is_same.Goals as goal

pub returns : goal.returns
returns c = c.eq.ensures ∙ sym (same_key_answer c.args.key.now c.args.other.now)
