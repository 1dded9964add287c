use Rattle.std.proofs.Common.{rules, arith, ◌++◌, ◌∷◌, [], Some, false, refl, ap, ◌∙◌, sym}
use denote.Param.Send.{sendable}
use Rattle.std.proofs.lemmas.List.Elements.{All-pop}
use Rattle.value_gate.specs.Passes.{IsPassOf}
use Rattle.agent_gate.specs.Taking.{kind_of}
use Rattle.ivy_serving.specs.Desks.{DeskState}
use Rattle.ivy_serving.specs.Jobs.{ends_of, serving_of}
use Rattle.ivy_serving.specs.Serving.{Base, ports_of}
use Rattle.ivy_serving.proofs.Crossing.{done_send, job_send}
use Rattle.ivy_serving.proofs.Standing.{served, served_at}
use Rattle.ivy_serving.proofs.serving.serve_links.Goals as goal

pub serve_all-desk-requires-send-X : goal.serve_all-desk-requires-send-X
serve_all-desk-requires-send-X g c κs within = search (sendable, done_send) depth 30

pub serve_all-desk-requires-send-J : goal.serve_all-desk-requires-send-J
serve_all-desk-requires-send-J g c κs within = search (sendable, job_send) depth 30

pub invariant_of-desk : goal.invariant_of-desk
invariant_of-desk g c =
    let both = All-pop (IsPassOf c.args.gate.now) c.args.passes.items c.pop.new.self.items (Some c.in-Some.first) c.in-Some.ensures.items c.requires.of in
    (omega (arith, c.in-Some.ensures.len, c.in-Some.ensures.capacity, c.args.passes.ok.0, c.args.passes.ok.1), both.1, c.requires.entered)

pub returns-clause-served : goal.returns-clause-served
returns-clause-served g c =
    let ports = ports_of g.P.Ports.links g.P.Ports.faults g.P.Ports.ends g.P.Ports.gives g.P.Ports.takes in
    let serving = serving_of (kind_of g.S.Signs.signing g.S.Signs.is_whole g.K.Keeper.saves) (ends_of g.P.Reads.Source.left g.P.Writes.Sink.contents g.P.Reads.Source.faults g.P.Writes.Sink.faults) g.C.Clock.gives in
    let base : Base g.row.K.Denot g.row.S.Denot = record { gate = c.args.gate.now; ring = c.args.ring.now; moment = g.C.Clock.moment c.args.clock.now } in
    let d : DeskState g.row.P.Denot g.row.K.Denot g.row.S.Denot = c.serve_all-desk.result.0 in
    let now = c.push_reserved.ensures.items ∙ ap (λ x. x.passes ++ x.first ∷ []) c.desk.view_is in
    let all = served_at ports serving g.C.Clock.moment (record { ports = c.args.ports.now; first = c.in-Some.first; passes = c.pop.new.self.items; lacked = false; base = base; out = 0; place = _ }) d _ c.desk.inside.lacked c.args.passes.items c.push_reserved.new.self.items c.serve_all-desk.result.1 c.serve_all-desk.ensures.back refl c.in-Some.ensures.items now c.requires.of (search rules) (ap (λ x. x.lacked) (sym c.desk.view_is)) in
    all.serves

pub returns-clause-counts : goal.returns-clause-counts
returns-clause-counts g c =
    let ports = ports_of g.P.Ports.links g.P.Ports.faults g.P.Ports.ends g.P.Ports.gives g.P.Ports.takes in
    let serving = serving_of (kind_of g.S.Signs.signing g.S.Signs.is_whole g.K.Keeper.saves) (ends_of g.P.Reads.Source.left g.P.Writes.Sink.contents g.P.Reads.Source.faults g.P.Writes.Sink.faults) g.C.Clock.gives in
    let base : Base g.row.K.Denot g.row.S.Denot = record { gate = c.args.gate.now; ring = c.args.ring.now; moment = g.C.Clock.moment c.args.clock.now } in
    let d : DeskState g.row.P.Denot g.row.K.Denot g.row.S.Denot = c.serve_all-desk.result.0 in
    let now = c.push_reserved.ensures.items ∙ ap (λ x. x.passes ++ x.first ∷ []) c.desk.view_is in
    let all = served_at ports serving g.C.Clock.moment (record { ports = c.args.ports.now; first = c.in-Some.first; passes = c.pop.new.self.items; lacked = false; base = base; out = 0; place = _ }) d _ c.desk.inside.lacked c.args.passes.items c.push_reserved.new.self.items c.serve_all-desk.result.1 c.serve_all-desk.ensures.back refl c.in-Some.ensures.items now c.requires.of (search rules) (ap (λ x. x.lacked) (sym c.desk.view_is)) in
    all.counts

pub returns-clause-of : goal.returns-clause-of
returns-clause-of g c =
    let ports = ports_of g.P.Ports.links g.P.Ports.faults g.P.Ports.ends g.P.Ports.gives g.P.Ports.takes in
    let serving = serving_of (kind_of g.S.Signs.signing g.S.Signs.is_whole g.K.Keeper.saves) (ends_of g.P.Reads.Source.left g.P.Writes.Sink.contents g.P.Reads.Source.faults g.P.Writes.Sink.faults) g.C.Clock.gives in
    let base : Base g.row.K.Denot g.row.S.Denot = record { gate = c.args.gate.now; ring = c.args.ring.now; moment = g.C.Clock.moment c.args.clock.now } in
    let d : DeskState g.row.P.Denot g.row.K.Denot g.row.S.Denot = c.serve_all-desk.result.0 in
    let now = c.push_reserved.ensures.items ∙ ap (λ x. x.passes ++ x.first ∷ []) c.desk.view_is in
    let all = served ports serving g.C.Clock.moment (record { ports = c.args.ports.now; first = c.in-Some.first; passes = c.pop.new.self.items; lacked = false; base = base; out = 0; place = _ }) d c.args.passes.items c.push_reserved.new.self.items c.serve_all-desk.result.1 c.serve_all-desk.ensures.back refl c.in-Some.ensures.items now c.requires.of in
    all.of

pub returns-clause-parts : goal.returns-clause-parts
returns-clause-parts g c =
    let ports = ports_of g.P.Ports.links g.P.Ports.faults g.P.Ports.ends g.P.Ports.gives g.P.Ports.takes in
    let serving = serving_of (kind_of g.S.Signs.signing g.S.Signs.is_whole g.K.Keeper.saves) (ends_of g.P.Reads.Source.left g.P.Writes.Sink.contents g.P.Reads.Source.faults g.P.Writes.Sink.faults) g.C.Clock.gives in
    let base : Base g.row.K.Denot g.row.S.Denot = record { gate = c.args.gate.now; ring = c.args.ring.now; moment = g.C.Clock.moment c.args.clock.now } in
    let d : DeskState g.row.P.Denot g.row.K.Denot g.row.S.Denot = c.serve_all-desk.result.0 in
    let now = c.push_reserved.ensures.items ∙ ap (λ x. x.passes ++ x.first ∷ []) c.desk.view_is in
    let all = served ports serving g.C.Clock.moment (record { ports = c.args.ports.now; first = c.in-Some.first; passes = c.pop.new.self.items; lacked = false; base = base; out = 0; place = _ }) d c.args.passes.items c.push_reserved.new.self.items c.serve_all-desk.result.1 c.serve_all-desk.ensures.back refl c.in-Some.ensures.items now c.requires.of in
    all.parts
