use Rattle.ivy_session.proofs.Falling.{begun_puts}
use Rattle.ivy_session.proofs.session.publishing_of.Goals as goal

pub returns-clause-left : goal.returns-clause-left
returns-clause-left c = begun_puts c.args.replicas c.in_ok-copy.field-0 c.args.posts.now c.start.result (rw (← c.as_slice.ensures) c.are_few.ensures) c.start.ensures
