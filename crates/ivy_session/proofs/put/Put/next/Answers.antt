use Rattle.std.proofs.Common.{IfOk, refl, subst}
use Rattle.ivy_session.specs.Putting.{Putting, PuttingIsWanted}
use Rattle.ivy_session.proofs.Putting.{putting_wants}
use Rattle.ivy_session.proofs.put.Put.next.Goals as goal

pub returns-clause-wanted : goal.returns-clause-wanted
returns-clause-wanted c =
    let old : Putting = record { kind = c.self.inside.kind; ack = c.self.inside.ack; put = c.self.inside.machine } in
    let new : Putting = record { kind = c.self.inside.kind; ack = c.self.inside.ack; put = c.next.new.self } in
    subst (λ s. IfOk c.next.result (λ w. PuttingIsWanted s new w)) c.self.view_is (putting_wants old new refl refl c.next.result c.next.ensures.wanted)
