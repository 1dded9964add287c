use Rattle.std.proofs.Common.{[], ◌∷◌, ◌++◌, ◌∙◌}
use Rattle.script_machine.proofs.calls.push_session.Goals as goal

pub returns : goal.returns
returns c = c.in_ok-push.ensures.items ∙ (λ i. c.args.sessions.now.items ++ record { name = c.in_ok-name.ensures i; by = c.in_ok-by.ensures i; call = c.args.call } ∷ [])
