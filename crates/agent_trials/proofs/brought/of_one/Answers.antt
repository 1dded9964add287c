use Rattle.std.proofs.Common.{Contains, sym, ap, subst}
use Rattle.log_model.specs.Fetched.{owner_of}
use Rattle.log_records.specs.Records.{records_of}
use Rattle.agent_trials.proofs.Given.{one_fetched}
use Rattle.agent_trials.proofs.brought.of_one.Goals as goal

pub returns : goal.returns
returns c = one_fetched c.args.view.now c.in-Ok.batch c.add_chain.new.self _ _ (ap (λ b. b.chains) c.in-Ok.ensures) c.in-Ok-add_chain.ensures.added c.in-Ok-add_chain.ensures.sound
    (subst (λ l. Contains c.args.view.now.members (owner_of (records_of l))) (sym c.in-Ok-vec.ensures.items) c.requires)
