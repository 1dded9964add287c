use Rattle.std.proofs.Common.{subst}
use Rattle.world_model.specs.Logs.{to_publish}
use Rattle.session_steps.specs.Representing.{RepresentsSession}
use Rattle.session_steps.proofs.Begun.{publishes_in, same_call}
use Rattle.session_steps.proofs.open.OpenCall.publish.Goals as goal

pub returns-clause-begun : goal.returns-clause-begun
returns-clause-begun c w p is is_who = subst (RepresentsSession (to_publish w p))
    (same_call c.of.result c.in_ok-session.session c.of.ensures.session c.of.ensures.given c.of.ensures.told)
    (publishes_in c.args.nodes.now c.args.who.now c.in_ok-session.session c.in_ok-entries.entries c.requires.nodes c.in_ok-entries.ensures c.in_ok-session.ensures.by.2 c.in_ok-session.ensures.free c.in_ok-session.ensures.turning
    c.pending.result.now c.pending.ensures c.in_ok-session.ensures.begun w p is is_who)
