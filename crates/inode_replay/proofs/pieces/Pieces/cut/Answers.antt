use Rattle.std.proofs.Common.{◌≡◌, take, ◌∙◌, rules}
use Rattle.inode_replay.specs.Pieces.{pieces_in}
use Rattle.inode_replay.proofs.FoundPieces.{put_one, removed_one}
use Rattle.inode_replay.proofs.pieces.Pieces.cut.Goals as goal

pub returns-then-kept-eq0-clause-ok : goal.returns-then-kept-eq0-clause-ok
returns-then-kept-eq0-clause-ok c =
    let one = removed_one c.args.number c.args.self.now.map in
    rw (c.in_ok-remove.ensures.ok, c.if-kept-eq0.true) one

pub returns-in_ok-insert-clause-ok : goal.returns-in_ok-insert-clause-ok
returns-in_ok-insert-clause-ok c =
    let one = put_one c.args.number c.args.self.now.map c.in_ok-piece.piece in
    let kept : c.in_ok-piece.piece.items ≡ take c.args.kept (pieces_in c.args.self.now.map c.args.number) = search rules in
    rw c.in_ok-insert.ensures.ok (one.0 ∙ kept, one.1)
