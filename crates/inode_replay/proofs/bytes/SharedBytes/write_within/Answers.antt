use Rattle.std.proofs.Common.{◌≡◌, ◌<◌, ◌≤◌, ◌+◌, ◌*◌, ◌/◌, ◌%◌, ◌++◌, length, take, drop, max, ap, ◌∙◌, arith}
use Rattle.std.proofs.lemmas.List.{length-take-le}
use Rattle.inode_replay.specs.Pieces.{piece_size, pieces_in}
use Rattle.inode_replay.proofs.Rows.{size_is, bytes_written}
use Rattle.inode_replay.proofs.bytes.SharedBytes.write_within.Goals as goal

pub returns-clause-written : goal.returns-clause-written
returns-clause-written c =
    let pieces = pieces_in c.self.inside.pieces.map in
    let some : 0 < piece_size = omega arith in
    let now = c.args.self.now in
    let place = c.args.place in
    let k = place / piece_size in
    let s = place % piece_size in
    let m = c.min-count.result in
    let part = take m c.args.bytes.now in
    let size : c.self.inside.size ≡ length now = size_is piece_size some pieces c.self.inside.size now c.self.view_is in
    let long : length part ≡ m = length-take-le m c.args.bytes.now (omega arith) in
    let is : place ≡ piece_size * k + s = omega arith in
    let fits : s + length part ≤ piece_size = omega arith in
    let more : 0 < length part = omega arith in
    let there : place ≤ c.self.inside.size = omega arith in
    let longer : c.max-self-inside.result ≡ max c.self.inside.size (place + length part) = omega arith in
    bytes_written piece_size some pieces (pieces_in c.write.new.self.map) c.self.inside.size k s place c.self.invariant is part c.max-self-inside.result c.in_ok-write.ensures.ok fits more there longer
    ∙ ap (λ l. take place l ++ part ++ drop (place + length part) l) c.self.view_is
    ∙ ap (λ n. take place now ++ part ++ drop (place + n) now) long
