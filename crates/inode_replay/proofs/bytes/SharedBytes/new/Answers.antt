use Rattle.std.proofs.Common.{refl}
use Rattle.inode_replay.specs.Pieces.{bytes_in}
use Rattle.inode_replay.proofs.bytes.SharedBytes.new.Goals as goal

pub returns : goal.returns
unfolding bytes_in
returns c = refl
