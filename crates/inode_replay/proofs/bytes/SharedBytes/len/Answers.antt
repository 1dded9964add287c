use Rattle.std.proofs.Common.{arith}
use Rattle.inode_replay.specs.Pieces.{piece_size, pieces_in}
use Rattle.inode_replay.proofs.Rows.{size_is}
use Rattle.inode_replay.proofs.bytes.SharedBytes.len.Goals as goal

pub returns : goal.returns
returns c = size_is piece_size (omega arith) (pieces_in c.self.inside.pieces.map) c.self.inside.size c.args.self.now c.self.view_is
