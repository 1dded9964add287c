use Rattle.std.proofs.Common.{rules, refl, ap, sym}
use Rattle.ivy_serving.specs.Serving.{no_part, ports_of}
use Rattle.ivy_serving.proofs.Refusing.{refuses_failed, refuses_memory}
use Rattle.ivy_serving.proofs.link_desk.LinkDeskDesk.accept.Goals as goal

pub returns-then-parts-lt2-clause-refused : goal.returns-then-parts-lt2-clause-refused
returns-then-parts-lt2-clause-refused g c = (no_part, refl)

pub returns-then-is_err-clause-refused : goal.returns-then-is_err-clause-refused
returns-then-is_err-clause-refused g c =
    let ports = ports_of g.P.Ports.links g.P.Ports.faults g.P.Ports.ends g.P.Ports.gives g.P.Ports.takes in
    (refuses_memory ports c.args.self.now.ports c.self.inside.ports.now c.self.inside.ports.now (sym (ap (λ d. d.ports) c.self.view_is)) refl, search (rules, c.self.view_is, c.reserve.ensures.items))

pub returns-in_default-clause-refused : goal.returns-in_default-clause-refused
returns-in_default-clause-refused g c =
    let ports = ports_of g.P.Ports.links g.P.Ports.faults g.P.Ports.ends g.P.Ports.gives g.P.Ports.takes in
    (refuses_memory ports c.args.self.now.ports c.self.inside.ports.now c.self.inside.ports.now (sym (ap (λ d. d.ports) c.self.view_is)) refl, search (rules, c.self.view_is, c.reserve.ensures.items))

pub returns-in-Err-Failed-clause-refused : goal.returns-in-Err-Failed-clause-refused
returns-in-Err-Failed-clause-refused g c =
    let ports = ports_of g.P.Ports.links g.P.Ports.faults g.P.Ports.ends g.P.Ports.gives g.P.Ports.takes in (
      refuses_failed ports c.args.self.now.ports c.self.inside.ports.now c.accept.new.self (sym (ap (λ d. d.ports) c.self.view_is))
          (rw c.in-Err-Failed.field-0-is at c.in-Err-Failed.ensures.refused) c.in-Err-Failed.ensures.later (search (rules, c.in-Err-Failed.ensures.ends)) c.in-Err-Failed.ensures.none,
      search (rules, c.self.view_is, c.reserve.ensures.items),
    )

pub returns-clause-refused : goal.returns-clause-refused
returns-clause-refused g c =
    let ports = ports_of g.P.Ports.links g.P.Ports.faults g.P.Ports.ends g.P.Ports.gives g.P.Ports.takes in (
      refuses_memory ports c.args.self.now.ports c.self.inside.ports.now c.accept.new.self (sym (ap (λ d. d.ports) c.self.view_is))
          (rw c.in-Err-Memory.field-0-is at c.in-Err-Memory.ensures.refused),
      search (rules, c.self.view_is, c.reserve.ensures.items),
    )
