use Rattle.std.proofs.Common.{◌∙◌}
use Rattle.tree_model.proofs.Same.{same_answer}
use Rattle.fork_proof.proofs.finding.is_same_owner.Goals as goal

pub returns : goal.returns
returns c = c.eq.ensures ∙ same_answer c.args.a.now.0 c.args.b.now.0
