use Rattle.std.proofs.Common.{rules, [], ◌∷◌, Some, sym, ap, ◌∙◌, subst}
use Rattle.std.proofs.lemmas.List.{append-nil}
use Rattle.std.proofs.lemmas.List.Elements.{All-pop}
use Rattle.value_gate.specs.Passes.{IsPassOf, HasGathered}
use Rattle.value_gate.proofs.Beginnings.{nothing_long}
use Rattle.value_gate.proofs.Gathering.{gathers_none, gathers, taken_on, taken_all}
use Rattle.value_gate.proofs.gate.Gate.gather.Goals as goal

pub loop-pass-init : goal.loop-pass-init
loop-pass-init g c = (
  ap (λ x. x.gate) c.first.view_is ∙ c.requires.0.0,
  c.first.invariant.empty,
  c.requires.1,
  [],
  sym (append-nil c.args.others.items),
  gathers_none c.args.self.now.opening c.first.inside.seat.table_id c.first.inside.seat.me.0 c.args.first c.first.view_is c.first.invariant.outside c.requires.0.1 c.first.invariant.none_gone,
)

pub hear-requires-clause-gate : goal.hear-requires-clause-gate
hear-requires-clause-gate g c =
    let popped = All-pop (λ p. IsPassOf c.args.self.now p) c.loop-pass.others.items c.pop.new.self.items (Some c.in-Some.pass) c.in-Some.ensures.items c.loop-pass.invariant.2 in
    (c.loop-pass.invariant.0, ap (λ x. x.gate) c.pass.view_is ∙ popped.1.0)

pub loop-pass-preserved : goal.loop-pass-preserved
loop-pass-preserved g c =
    let popped = All-pop (λ p. IsPassOf c.args.self.now p) c.loop-pass.others.items c.pop.new.self.items (Some c.in-Some.pass) c.in-Some.ensures.items c.loop-pass.invariant.2 in
    let taken = c.loop-pass.invariant.3 in (
      c.hear.ensures.gate ∙ c.loop-pass.invariant.0,
      ap (λ x. x.1) c.hear.ensures.outside,
      popped.0,
      c.in-Some.pass ∷ taken,
      taken_on c.args.others.items c.loop-pass.others.items c.pop.new.self.items c.in-Some.pass taken c.loop-pass.invariant.4 c.in-Some.ensures.items,
      gathers c.args.self.now.opening c.args.first c.in-Some.pass taken c.pass.inside.seat.table_id c.loop-pass.seat.me.0 c.pass.inside.seat.me.0 c.hear.new.seat.me
          c.loop-pass.invariant.5 c.pass.view_is popped.1.1 c.pass.invariant.none_gone c.hear.ensures.outside c.hear.ensures.begins,
    )

pub returns-clause-gathered : goal.returns-clause-gathered
returns-clause-gathered g c =
    let none_left = nothing_long c.loop-pass.others.items (search rules) in
    let taken = c.loop-pass.invariant.3 in
    subst (λ l. HasGathered c.args.self.now.opening c.args.first l c.loop-pass.seat.me.0) (sym (taken_all c.args.others.items c.loop-pass.others.items taken c.loop-pass.invariant.4 none_left)) c.loop-pass.invariant.5
