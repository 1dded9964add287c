use Rattle.std.proofs.Common.{sym, ap, ◌∙◌, subst, arith}
use Rattle.value_gate.proofs.Steps.{backs}
use Rattle.value_gate.proofs.gate.Gate.back.Goals as goal

pub store-requires : goal.store-requires
store-requires g c =
    let r = c.requires.inside in
    let x = c.exchange.ensures in (
      x.0 ∙ (c.requires.gate.0 ∙ sym (ap (λ y. y.gate) c.self.view_is)),
      omega (arith, c.self.invariant.0),
      backs g.A.Sequential.stands c.self.inside.table.shared.key.value c.self.inside.table.shared.table_id.slots c.exchange.new.seat.id c.exchange.new.seat.me c.args.seat.now.me c.args.value c.args.word
          x.3 r.1 r.0 r.2 (subst (λ y. g.A.Sequential.stands y.opening c.args.seat.now.me.0.seen c.args.value) (sym c.self.view_is) c.requires.value),
    )
