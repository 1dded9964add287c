use Rattle.std.proofs.Common.{sym, ap, ◌∙◌, arith}
use Rattle.value_gate.proofs.Ends.{splits}
use Rattle.value_gate.proofs.Meets.{met}
use Rattle.value_gate.proofs.gate.Gate.meet.Goals as goal

pub split_seat-our_note-requires : goal.split_seat-our_note-requires
split_seat-our_note-requires g c = (
  ap (λ x. x.gate) c.pass.view_is ∙ (c.requires.0.0 ∙ sym (ap (λ x. x.gate) c.self.view_is)),
  omega (arith, c.self.invariant.0),
  splits g.A.Sequential.stands c.self.inside.table.shared.key.value c.pass.inside.seat.id c.pass.inside.seat.me.0 0 c.pass.invariant.outside (omega arith) (λ none. omega (arith, none)),
)

pub split_seat-their_note-requires : goal.split_seat-their_note-requires
split_seat-their_note-requires g c = (
  ap (λ x. x.gate) c.other.view_is ∙ (c.requires.1.0 ∙ sym (ap (λ x. x.gate) c.self.view_is)),
  omega (arith, c.self.invariant.0),
  splits g.A.Sequential.stands c.self.inside.table.shared.key.value c.other.inside.seat.id c.other.inside.seat.me.0 0 c.other.invariant.outside (omega arith) (λ none. omega (arith, none)),
)

pub returns-clause-met : goal.returns-clause-met
returns-clause-met g c =
    let ours = c.split_seat-our_note.ensures in
    let theirs = c.split_seat-their_note.ensures in
    met c.pass.inside.seat.table_id c.other.inside.seat.table_id c.hear.new.seat.table_id c.hear-2.new.seat.table_id
    c.pass.inside.seat.me c.other.inside.seat.me c.split_seat-our_note.new.seat.me c.split_seat-their_note.new.seat.me
    c.split_seat-our_note.result.me c.split_seat-their_note.result.me c.hear.new.seat.me c.hear-2.new.seat.me c.args.pass.now c.args.other.now
    c.pass.view_is c.other.view_is (c.hear.ensures.gate ∙ ours.0) (c.hear-2.ensures.gate ∙ theirs.0)
    ours.2 ours.4 theirs.2 theirs.4 c.hear.ensures.outside c.hear-2.ensures.outside c.hear.ensures.begins c.hear-2.ensures.begins
