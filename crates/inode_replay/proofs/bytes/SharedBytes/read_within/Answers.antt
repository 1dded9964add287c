use Rattle.std.proofs.Common.{◌≡◌, ◌<◌, ◌≤◌, ◌+◌, ◌*◌, ◌/◌, ◌%◌, ◌++◌, length, take, drop, sym, ap, ◌∙◌, arith}
use Rattle.inode_replay.specs.Pieces.{piece_size, pieces_in, resized}
use Rattle.inode_replay.proofs.Rows.{size_is, bytes_part}
use Rattle.inode_replay.proofs.bytes.SharedBytes.read_within.Goals as goal

pub returns-clause-read : goal.returns-clause-read
returns-clause-read c =
    let pieces = pieces_in c.self.inside.pieces.map in
    let some : 0 < piece_size = omega arith in
    let now = c.args.self.now in
    let place = c.args.place in
    let k = place / piece_size in
    let s = place % piece_size in
    let m = c.min-count.result in
    let size : c.self.inside.size ≡ length now = size_is piece_size some pieces c.self.inside.size now c.self.view_is in
    let is : place ≡ piece_size * k + s = omega arith in
    let fits : s + m ≤ piece_size = omega arith in
    let more : 0 < m = omega arith in
    let within : place + m ≤ c.self.inside.size = omega arith in
    c.in_ok-append_part.ensures
    ∙ ap (λ l. c.args.list.now.items ++ l) (ap (λ l. resized m (drop s l)) c.piece-piece.ensures
    ∙ sym (bytes_part piece_size some pieces c.self.inside.size place k s m (c.self.invariant k).0 is fits more within)
    ∙ ap (λ l. take m (drop place l)) c.self.view_is)
