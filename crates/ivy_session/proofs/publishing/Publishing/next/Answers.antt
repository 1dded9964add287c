use Rattle.std.proofs.Common.{sym, ap, ◌∙◌}
use Rattle.ivy_session.specs.Publishing.{PublishingState}
use Rattle.ivy_session.proofs.Steps.{asks_next, ends_at}
use Rattle.ivy_session.proofs.publishing.Publishing.next.Goals as goal

pub returns-in_ok-node-in-Some-clause-wanted : goal.returns-in_ok-node-in-Some-clause-wanted
returns-in_ok-node-in-Some-clause-wanted c =
    asks_next c.args.self.now c.begin.new.self c.in_ok-begin.ensures.begun c.in-Some.put (sym (ap (λ (s : PublishingState). s.put) c.self.view_is) ∙ c.in-Some.is) c.in_ok-node-in-Some.node c.in_ok-node-in-Some.question
    c.in_ok-node-in-Some.ensures

pub returns-in-None-clause-wanted : goal.returns-in-None-clause-wanted
returns-in-None-clause-wanted c =
    ends_at c.args.self.now c.begin.new.self c.in_ok-begin.ensures.begun (sym (ap (λ (s : PublishingState). s.put) c.self.view_is) ∙ c.in-None.is) c.in_ok-begin.ensures.none_else c.take_acks.result c.take_acks.ensures.acks
    c.take_acks.new.self
