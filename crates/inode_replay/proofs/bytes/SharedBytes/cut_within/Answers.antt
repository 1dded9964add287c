use Rattle.std.proofs.Common.{◌≡◌, ◌<◌, ◌≤◌, ◌+◌, ◌-◌, ◌*◌, ◌/◌, length, take, ap, ◌∙◌, arith}
use Rattle.inode_replay.specs.Pieces.{piece_size, pieces_in}
use Rattle.inode_replay.proofs.Rows.{size_is, bytes_cut}
use Rattle.inode_replay.proofs.bytes.SharedBytes.cut_within.Goals as goal

pub overflow_sub-number : goal.overflow_sub-number
overflow_sub-number c =
    let size : c.self.inside.size ≡ length c.args.self.now = size_is piece_size (omega arith) (pieces_in c.self.inside.pieces.map) c.self.inside.size c.args.self.now c.self.view_is in
    omega arith

pub returns-clause-left : goal.returns-clause-left
returns-clause-left c =
    let size : c.self.inside.size ≡ length c.args.self.now = size_is piece_size (omega arith) (pieces_in c.self.inside.pieces.map) c.self.inside.size c.args.self.now c.self.view_is in
    (omega arith, omega arith)

pub returns-clause-cut : goal.returns-clause-cut
returns-clause-cut c =
    let pieces = pieces_in c.self.inside.pieces.map in
    let some : 0 < piece_size = omega arith in
    let now = c.args.self.now in
    let size : c.self.inside.size ≡ length now = size_is piece_size some pieces c.self.inside.size now c.self.view_is in
    let k = (c.self.inside.size - 1) / piece_size in
    let end = c.max-end.result in
    let s = end - k * piece_size in
    let is : end ≡ piece_size * k + s = omega arith in
    let fits : s ≤ piece_size = omega arith in
    let there : end ≤ c.self.inside.size = omega arith in
    bytes_cut piece_size some pieces (pieces_in c.cut.new.self.map) c.self.inside.size k s end c.self.invariant is c.in_ok-cut.ensures.ok fits there
    ∙ ap (take end) c.self.view_is
