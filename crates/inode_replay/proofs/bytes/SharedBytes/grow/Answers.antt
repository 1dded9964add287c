use Rattle.std.proofs.Common.{◌≡◌, ◌<◌, ◌≤◌, ◌-◌, ◌++◌, length, replicate, sym, ap, ◌∙◌, arith}
use Rattle.std.proofs.lemmas.List.{append-nil}
use Rattle.inode_replay.specs.Pieces.{piece_size, pieces_in}
use Rattle.inode_replay.proofs.Rows.{size_is, bytes_grown}
use Rattle.inode_replay.proofs.bytes.SharedBytes.grow.Goals as goal

pub returns-then-self-size : goal.returns-then-self-size
returns-then-self-size c =
    let pieces = pieces_in c.self.inside.pieces.map in
    let some : 0 < piece_size = omega arith in
    let now = c.args.self.now in
    let less : c.self.inside.size ≤ c.args.size = omega arith in
    bytes_grown piece_size some pieces c.self.inside.size c.args.size c.self.invariant less
    ∙ ap (λ l. l ++ replicate (c.args.size - c.self.inside.size) 0) c.self.view_is
    ∙ ap (λ n. now ++ replicate (c.args.size - n) 0) (size_is piece_size some pieces c.self.inside.size now c.self.view_is)

pub returns-else-self-size : goal.returns-else-self-size
returns-else-self-size c =
    let size : c.self.inside.size ≡ length c.args.self.now = size_is piece_size (omega arith) (pieces_in c.self.inside.pieces.map) c.self.inside.size c.args.self.now c.self.view_is in
    let none : c.args.size - length c.args.self.now ≡ 0 = omega arith in
    sym (ap (λ k. c.args.self.now ++ replicate k 0) none ∙ append-nil c.args.self.now)
