use Rattle.inode_replay.proofs.Steps.{IsRow, size_is}
use Rattle.inode_replay.proofs.marks.SharedMarks.len.Goals as goal

pub returns : goal.returns
returns c =
    let row : IsRow c.self.inside.ranges c.self.inside.size c.args.self.now = record { ordered = c.self.invariant.0; apart = c.self.invariant.1; seen = c.self.view_is } in
    size_is row
