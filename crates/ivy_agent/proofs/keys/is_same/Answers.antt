use Rattle.std.proofs.Common.{sym, ◌∙◌}
use Rattle.tree_model.proofs.Same.{same_key_answer}
use Rattle.ivy_agent.proofs.keys.is_same.Goals as goal

pub returns : goal.returns
returns c = c.eq.ensures ∙ sym (same_key_answer c.args.a.now c.args.b.now)
