use Rattle.std.proofs.Common.{sym, ◌∙◌}
use Rattle.tree_model.proofs.Same.{same_key_answer}
use Rattle.nfs3_writes.proofs.naming.same_target.Goals as goal

pub returns-in-Some-Some : goal.returns-in-Some-Some
returns-in-Some-Some c = rw (c.in-Some-Some.is-0, c.in-Some-Some.is-1) (c.eq.ensures ∙ sym (same_key_answer c.in-Some-Some.moved c.in-Some-Some.replaced))
