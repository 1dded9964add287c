use Rattle.std.proofs.Common.{rules, List, Contains, subst}
use Rattle.ivy_base.specs.declared.key.PubKey.{PubKey}
use Rattle.log_model.specs.Heads.{stamp}
use Rattle.log_records.specs.Records.{records_of}
use Rattle.format_trials.proofs.Gathering.{is_added}
use Rattle.format_trials.proofs.gather.add.Goals as goal

pub returns : goal.returns
returns c = is_added c.args.view.now c.args.owners.now.items c.push.new.self.items c.args.log.owner c.args.batch.now c.add_chain.new.self (stamp c.args.log.newest.seq c.args.log.newest.name) (records_of c.args.log.records.items) c.requires
    (subst (λ (ms : List PubKey). Contains ms c.args.log.owner) c.members.ensures.value (search rules))
    (search rules)
    c.in-Ok.ensures.sound (search rules) c.in-Ok.ensures.added
