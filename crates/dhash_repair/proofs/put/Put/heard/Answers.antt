use Rattle.std.proofs.Common.{IfOk, refl, subst}
use Rattle.dhash_repair.specs.Putting.{Putting, PuttingHasHeard}
use Rattle.dhash_repair.proofs.Putting.{putting_hears}
use Rattle.dhash_repair.proofs.put.Put.heard.Goals as goal

pub returns-clause-heard : goal.returns-clause-heard
returns-clause-heard c =
    let old : Putting = record { node = c.self.inside.node; kind = c.self.inside.kind; ack = c.self.inside.ack; put = c.self.inside.machine; counts = c.self.inside.counts } in
    let new : Putting = record { node = c.self.inside.node; kind = c.self.inside.kind; ack = c.self.inside.ack; put = c.heard.new.self; counts = c.self.inside.counts } in
    subst (λ s. IfOk c.heard.result (λ _. PuttingHasHeard s new c.args.answer)) c.self.view_is (putting_hears old new c.args.answer c.heard.result refl refl refl refl c.heard.ensures.heard)
