use Rattle.std.proofs.Common.{map, drop, arith}
use Rattle.std.proofs.lemmas.List.{drop_all}
use Rattle.snapshot_model.specs.Spelling.{in_pieces, piece_made}
use Rattle.snapshot_store.proofs.Listings.{none_done, one_done, all_done, piece_read}
use Rattle.snapshot_store.proofs.items.put_pieces.Goals as goal

pub pieces-init : goal.pieces-init
pieces-init c = none_done 8192 piece_made c.args.blocks.now c.args.file.now.inode.body c.new-levels.result (c.new-levels.ensures c.args.blocks.now)

pub pieces-preserved : goal.pieces-preserved
pieces-preserved c =
    let body = c.args.file.now.inode.body in
    let listing = c.pieces.invariant in
    one_done 8192 piece_made c.args.blocks.now body (drop c.pieces.start body) _ c.in_ok-piece.piece c.pieces.blocks c.push.new.blocks c.pieces.levels c.push.new.self listing
    (piece_read body c.in_ok-piece.piece c.pieces.start c.from-start.result 8192 (omega arith) (omega (arith, c.pieces-test.true, c.size.ensures)) c.in_ok-piece.ensures c.from-start.ensures)
    (c.in_ok-push.ensures c.args.blocks.now c.pieces.blocks (map piece_made listing.done) (piece_made c.in_ok-piece.piece) listing.over c.in_ok-name.ensures.blocks c.in_ok-name.ensures.named)

pub returns : goal.returns
returns c =
    let body = c.args.file.now.inode.body in
    c.in_ok-list.ensures c.args.blocks.now (map piece_made (in_pieces 8192 body))
    (all_done 8192 piece_made c.args.blocks.now body (drop c.pieces.start body) c.pieces.blocks c.pieces.levels c.pieces.invariant (drop_all c.pieces.start body (omega (arith, c.pieces-test.false, c.size.ensures))))
