use Rattle.std.proofs.Common.{◌+◌, ◌++◌, length, Some, refl, sym, ap, ◌∙◌, subst, arith}
use Rattle.value_gate.specs.Histories.{entry}
use Rattle.value_gate.proofs.Steps.{leaves}
use Rattle.value_gate.proofs.gate.Gate.leave.Goals as goal

pub store-requires : goal.store-requires
store-requires g c =
    let r = c.requires.inside in
    let x = c.exchange.ensures in
    let old = c.args.seat.now.me in (
      x.0 ∙ (c.requires.gate.0 ∙ sym (ap (λ y. y.gate) c.self.view_is)),
      omega (arith, c.self.invariant.0),
      leaves g.A.Sequential.stands c.self.inside.table.shared.key.value c.self.inside.table.shared.table_id.slots c.exchange.new.seat.id c.exchange.new.seat.me old
          (entry old.0.number (length old.0.calls + 1) (g.T.Turn.asks c.args.turn.now.value, c.args.reply.now)) g.N.Noted.entries c.args.value c.args.word
          x.3 r.1 r.0 (c.requires.gate.1 ∙ ap (λ y. Some y.opening) (sym c.self.view_is)) r.2 c.requires.noted refl refl
          (subst (λ y. g.A.Sequential.stands y.opening (old.0.seen ++ g.N.Noted.entries) c.args.value) (sym c.self.view_is) c.requires.value),
    )
