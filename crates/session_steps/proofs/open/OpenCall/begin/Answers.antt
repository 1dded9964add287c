use Rattle.std.proofs.Common.{subst}
use Rattle.log_fetch.specs.Standings.{standing_of}
use Rattle.session_steps.specs.Representing.{BeginsIn}
use Rattle.session_steps.proofs.Begun.{begins_in, same_call}
use Rattle.session_steps.proofs.open.OpenCall.begin.Goals as goal

pub begin-requires : goal.begin-requires
begin-requires c = λ some. c.in_ok-standing.ensures.named

pub returns-clause-begun : goal.returns-clause-begun
returns-clause-begun c = subst (BeginsIn c.args.nodes.now c.args.who.now c.args.message.now)
    (same_call c.of.result c.in_ok-session.session c.of.ensures.session c.of.ensures.given c.of.ensures.told)
    (begins_in c.args.nodes.now c.args.who.now c.in_ok-session.session c.in_ok-entries.entries c.requires.nodes c.in_ok-entries.ensures c.in_ok-session.ensures.by.2 c.in_ok-session.ensures.free c.in_ok-session.ensures.turning
    c.args.message.now (standing_of c.in_ok-standing.standing) c.in_ok-standing.ensures.stands c.in_ok-session.ensures.begun)
