use Rattle.std.proofs.Common.{Ok, ◌∙◌, subst}
use Rattle.hash_signature_model.specs.Saved.{IsSigner, hss}
use Rattle.log_model.specs.View.{View}
use Rattle.ivy_agent.specs.Entering.{Enters}
use Rattle.ivy_crowd.specs.Crowds.{saves_in_memory}
use Rattle.ivy_crowd.proofs.Wanting.{view_is_entered}
use Rattle.ivy_crowd.proofs.opening.enter.Goals as goal

pub returns-in-Ok : goal.returns-in-Ok
returns-in-Ok c =
    subst (λ (v : View). Enters hss IsSigner saves_in_memory v c.args.agent.now (Ok tt) c.enter.new.self) c.in_ok-copy.ensures
    c.in-Ok.ensures.enters

pub entry_lacks-requires : goal.entry_lacks-requires
entry_lacks-requires c =
    view_is_entered c.requires.made.0 c.requires.made.1 c.args.agent.now _ c.in_ok-copy.field-0 c.in-Err.why c.requires.made.2
    (c.in_ok-copy.ensures ∙ c.requires.view) c.in-Err.ensures.enters
