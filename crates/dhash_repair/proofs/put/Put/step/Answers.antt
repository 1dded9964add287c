use Rattle.std.proofs.Common.{IfOk, Some, refl, subst}
use Rattle.dhash_client.specs.Puts.{PutIsWanted}
use Rattle.dht_ids.specs.declared.ask.Want.TheVariants as want
use Rattle.dhash_repair.specs.Putting.{Putting, PuttingSteps}
use Rattle.dhash_repair.proofs.Putting.{asks_or_fails, steps_over}
use Rattle.dhash_repair.proofs.put.Put.step.Goals as goal

pub returns-in-Ask-clause-steps : goal.returns-in-Ask-clause-steps
returns-in-Ask-clause-steps c =
    let old : Putting = record { node = c.self.inside.node; kind = c.self.inside.kind; ack = c.self.inside.ack; put = c.self.inside.machine; counts = c.self.inside.counts } in
    let mid : Putting = record { node = c.self.inside.node; kind = c.self.inside.kind; ack = c.self.inside.ack; put = c.next.new.self; counts = c.self.inside.counts } in
    subst (λ (s : Putting). IfOk c.asks.result (λ w. PuttingSteps s c.asks.new.self w)) c.self.view_is
    (asks_or_fails old mid c.asks.new.self refl refl refl refl c.in_ok-node.ensures.left c.in-Ask.node c.in-Ask.question c.asks.result
    (subst (PutIsWanted old.put mid.put) c.in-Ask.is c.in_ok-node.ensures.wanted) c.asks.ensures.asks)

pub returns-in-Done-clause-steps : goal.returns-in-Done-clause-steps
returns-in-Done-clause-steps c =
    let old : Putting = record { node = c.self.inside.node; kind = c.self.inside.kind; ack = c.self.inside.ack; put = c.self.inside.machine; counts = c.self.inside.counts } in
    let mid : Putting = record { node = c.self.inside.node; kind = c.self.inside.kind; ack = c.self.inside.ack; put = c.next.new.self; counts = c.self.inside.counts } in
    subst (λ (s : Putting). PuttingSteps s mid (Some (want.Done c.may_go.result))) c.self.view_is
    (steps_over old mid mid refl refl refl refl c.in_ok-node.ensures.left c.in-Done.came c.may_go.result (subst (PutIsWanted old.put mid.put) c.in-Done.is c.in_ok-node.ensures.wanted) c.may_go.ensures)
