use Rattle.std.proofs.Common.{sym, ap, ◌∙◌, arith}
use Rattle.value_gate.proofs.Ends.{makes, splits}
use Rattle.value_gate.proofs.gate.Gate.split.Goals as goal

pub load_new_seat-other-requires : goal.load_new_seat-other-requires
load_new_seat-other-requires g c = (
  omega (arith, c.self.invariant.0),
  makes g.A.Sequential.stands c.self.inside.table.shared.key.value c.self.inside.table.shared.table_id.slots,
)

pub split_seat-part-requires : goal.split_seat-part-requires
split_seat-part-requires g c =
    let p = c.pass.invariant in (
      ap (λ x. x.gate) c.pass.view_is ∙ (c.requires.0.0 ∙ sym (ap (λ x. x.gate) c.self.view_is)),
      omega (arith, c.self.invariant.0),
      splits g.A.Sequential.stands c.self.inside.table.shared.key.value c.pass.inside.seat.id c.pass.inside.seat.me.0 1 p.outside (omega (arith, p.part)) (λ none. absurd (omega (arith, none, c.requires.1, ap (λ x. x.parts) c.pass.view_is))),
    )
