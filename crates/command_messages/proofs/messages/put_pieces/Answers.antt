use Rattle.std.proofs.Common.{◌∙◌}
use Rattle.command_messages.proofs.Pieces.{one_more}
use Rattle.command_messages.proofs.messages.put_pieces.Goals as goal

pub loop-piece-preserved : goal.loop-piece-preserved
loop-piece-preserved c =
    c.loop-piece.invariant
    ∙ one_more c.args.replies.now c.args.view.now c.args.pieces.now c.loop-piece.piece-index c.piece-item.result c.loop-piece.out.items c.put_piece.new.out.items
    c.in_ok-put_piece.field-0 c.loop-piece-test.true c.piece-item.is c.in_ok-put_piece.ensures c.if-not-branch.false
