use Rattle.std.proofs.Common.{refl}
use Rattle.inode_replay.specs.Marks.{marks_of}
use Rattle.inode_replay.proofs.marks.SharedMarks.new.Goals as goal

pub invariant_of-result : goal.invariant_of-result
unfolding marks_of
invariant_of-result c = rw c.new.ensures (tt, record { within = λ e s h. absurd (cc); gap = λ e s f t h k l. absurd (cc) }, refl)

pub returns : goal.returns
unfolding marks_of
returns c = refl
