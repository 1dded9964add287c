use Rattle.inode_replay.specs.Marks.{count_marked, IsWidened}
use Rattle.inode_replay.proofs.marks.SharedMarks.take_beside.Given as goal

abbrev pub invariant-taking : goal.invariant-taking
invariant-taking l = IsWidened l.fn.self l.self l.fn.range l.wide

abbrev pub decreases-taking : goal.decreases-taking
decreases-taking l = count_marked l.self
