use Rattle.std.proofs.Common.{Some, ap, ◌∙◌}
use Rattle.ivy_session.specs.Publishing.{PublishingState}
use Rattle.ivy_session.proofs.Steps.{goes_asking, goes_over}
use Rattle.ivy_session.proofs.publishing.Publishing.go_on.Goals as goal

pub returns-in-Ask : goal.returns-in-Ask
returns-in-Ask c =
    goes_asking c.args.put c.next.new.self c.in_ok-node.field-0 c.in-Ask.node c.in-Ask.question c.in_ok-node.ensures.wanted c.in-Ask.is c.in_ok-node.ensures.left c.args.self.now c.new.result c.new.ensures _
    (ap (λ (s : PublishingState). record s { put = Some c.new.result }) c.self.view_is)

pub returns-in-Done : goal.returns-in-Done
returns-in-Done c =
    goes_over c.args.put c.next.new.self c.in_ok-node.field-0 c.in-Done.came c.in_ok-node.ensures.wanted c.in-Done.is c.args.self.now c.kind.result c.ack.result (c.kind.ensures ∙ c.in_ok-node.ensures.kind) (c.ack.ensures ∙ c.in_ok-node.ensures.ack)
    c.conclude.new.self c.conclude.result c.conclude.ensures
