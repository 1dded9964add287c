use Rattle.std.proofs.Common.{rules, ◌<◌, sym, ap, ◌∙◌, subst, arith}
use Rattle.value_gate.proofs.Steps.{enters, holds_slot, won}
use Rattle.value_gate.proofs.gate.Gate.enter.Goals as goal

pub compare_exchange-found-requires : goal.compare_exchange-found-requires
compare_exchange-found-requires g c =
    let same = c.loop.invariant in
    let out = c.requires.outside in (
      same.0 ∙ (c.requires.gate.0 ∙ sym (ap (λ x. x.gate) c.self.view_is)),
      omega (arith, c.self.invariant.0),
      enters g.A.Sequential.stands c.self.inside.table.shared.key.value c.self.inside.table.shared.table_id.slots c.loop.seat.id c.loop.seat.me c.peek-word.result
          (ap (λ m. m.1) same.1 ∙ out.0) (search rules) (search rules) (subst (λ m. 0 < m.0.parts) (sym same.1) out.1),
    )

pub exchange-requires : goal.exchange-requires
exchange-requires g c =
    let x = c.compare_exchange-found.ensures in
    let n = c.peek-word.result in
    let i = won g.A.Sequential.stands c.self.inside.table.shared.key.value c.self.inside.table.shared.table_id.slots n c.compare_exchange-found.result c.loop.seat.me c.compare_exchange-found.new.seat.me x.2 c.if-found-word.true in (
      x.0 ∙ (c.loop.invariant.0 ∙ (c.requires.gate.0 ∙ sym (ap (λ y. y.gate) c.self.view_is))),
      holds_slot g.A.Sequential.stands c.self.inside.table.shared.key.value c.loop.seat.me c.compare_exchange-found.new.seat.me c.compare_exchange-found.result i,
    )
