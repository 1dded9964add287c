use Rattle.std.proofs.Common.{sym, ◌∙◌, arith}
use Rattle.script_model.specs.Messages.{bytes_of_pieces}
use Rattle.command_messages.proofs.LengthLemmas.{behind_nothing, goes_on, one_without}
use Rattle.command_messages.proofs.lengths.length_of_all.Goals as goal

pub loop-piece-init : goal.loop-piece-init
loop-piece-init c = record { few = omega arith; same = λ view. behind_nothing (bytes_of_pieces c.args.replies.now view c.args.pieces.now) }

pub loop-piece-preserved : goal.loop-piece-preserved
loop-piece-preserved c = record {
  few = c.in_ok-total.ensures.short;
  same = λ view. c.loop-piece.invariant.same view
      ∙ goes_on c.args.replies.now view c.args.pieces.now c.loop-piece.piece-index c.piece-item.result c.loop-piece-test.true c.piece-item.is
      c.loop-piece.total c.in_ok-total.total c.in_ok-length_of.field-0 (sym (c.in_ok-length_of.ensures.length view)) (sym c.in_ok-total.ensures.length);
}

pub returns-in_err-length_of : goal.returns-in_err-length_of
returns-in_err-length_of c = λ view.
    c.from_residual.ensures
    ∙ sym (c.loop-piece.invariant.same view
    ∙ one_without c.args.replies.now view c.args.pieces.now c.loop-piece.piece-index c.piece-item.result c.loop-piece-test.true c.piece-item.is
    c.loop-piece.total (sym (c.in_err-length_of.ensures.length view)))
