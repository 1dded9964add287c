use Rattle.std.proofs.Common.{Err, subst}
use Rattle.hash_signature_model.specs.Saved.{IsSigner, hss}
use Rattle.ivy_io.specs.Keepers.{KeeperState}
use Rattle.ivy_agent.specs.Making.{Makes}
use Rattle.ivy_crowd.specs.Crowds.{saves_in_memory}
use Rattle.ivy_crowd.proofs.Wanting.{agent_is_made}
use Rattle.ivy_crowd.proofs.opening.create.Goals as goal

pub agent_lacks-requires : goal.agent_lacks-requires
agent_lacks-requires c =
    let why = c.in-Err.why in
    agent_is_made c.args.signer c.args.moment c.in-Err.field-0-0 why c.requires
    (subst (λ (k : KeeperState). Makes hss IsSigner saves_in_memory k c.args.signer c.args.moment (Err (c.in-Err.field-0-0, why)))
    c.new.ensures c.in-Err.ensures.makes)
