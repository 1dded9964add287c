use Rattle.std.proofs.Common.{sym, ap, ◌∙◌, arith}
use Rattle.value_gate.proofs.Steps.{looks_at}
use Rattle.value_gate.proofs.Ends.{joins}
use Rattle.value_gate.proofs.gate.Gate.hear.Goals as goal

pub join_seat-requires : goal.join_seat-requires
join_seat-requires g c =
    let gate = ap (λ x. x.gate) c.self.view_is in
    let out = c.requires.outside in (
      c.requires.gate.0 ∙ sym gate,
      c.requires.gate.1 ∙ sym gate,
      out.3,
      omega (arith, c.self.invariant.0),
      joins g.A.Sequential.stands c.self.inside.table.shared.key.value c.args.seat.now.id c.args.seat.now.me.0 c.args.other.id c.args.other.me.0 out.0 out.2,
    )

pub load-requires : goal.load-requires
load-requires g c = (
  c.join_seat.ensures.0 ∙ (c.requires.gate.0 ∙ sym (ap (λ x. x.gate) c.self.view_is)),
  omega (arith, c.self.invariant.0),
  looks_at g.A.Sequential.stands c.self.inside.table.shared.key.value c.self.inside.table.shared.table_id.slots c.join_seat.new.seat.id c.join_seat.new.seat.me,
)
