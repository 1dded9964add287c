use Rattle.ring_nodes.proofs.Renewing.{notifies_nobody, notifies_one}
use Rattle.ring_nodes.proofs.stabilising.notify_first.Goals as goal

pub returns-in_ok-ask-clause-notifies : goal.returns-in_ok-ask-clause-notifies
returns-in_ok-ask-clause-notifies g c =
    notifies_one (g.J.Judge.judges c.args.judge.now) c.args.peer.now c.args.nodes.now c.first.result c.in-Some.first c.ask.new.self c.in_ok-ask.field-0 c.first.ensures.first c.in-Some.is c.in_ok-ask.ensures.fate

pub returns-in_default-clause-notifies : goal.returns-in_default-clause-notifies
returns-in_default-clause-notifies g c = notifies_nobody (g.J.Judge.judges c.args.judge.now) c.args.peer.now c.args.nodes.now c.first.result c.first.ensures.first c.in_default.is
