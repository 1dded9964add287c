use Rattle.std.proofs.Common.{◌≡◌, ℕ, ◌<◌, length}
use Rattle.inode_replay.specs.Marks.{mark_at, count_marked}
use Rattle.inode_replay.proofs.marks.SharedMarks.clear_from.Given as goal

abbrev pub invariant-cutting : goal.invariant-cutting
invariant-cutting l = record {
  long : length l.self ≡ length l.fn.self;
  before : (p : ℕ) → p < l.size → mark_at l.self p ≡ mark_at l.fn.self p;
}

abbrev pub decreases-cutting : goal.decreases-cutting
decreases-cutting l = count_marked l.self
