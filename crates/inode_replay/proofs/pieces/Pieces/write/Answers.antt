use Rattle.std.proofs.Common.{◌∙◌, ap}
use Rattle.inode_replay.specs.Pieces.{overwritten}
use Rattle.inode_replay.proofs.FoundPieces.{put_one}
use Rattle.inode_replay.proofs.pieces.Pieces.write.Goals as goal

pub returns-clause-ok : goal.returns-clause-ok
returns-clause-ok c =
    let one = put_one c.args.number c.args.self.now.map c.in_ok-piece.piece in
    rw c.in_ok-insert.ensures.ok (one.0 ∙ c.in_ok-piece.ensures ∙ ap (λ xs. overwritten xs c.args.start c.args.part.now) c.piece.ensures, one.1)
