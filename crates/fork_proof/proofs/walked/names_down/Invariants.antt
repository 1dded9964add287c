use Rattle.std.proofs.Common.{◌≡◌, ◌+◌, length, Some}
use Rattle.std.specs.List.{slice_get}
use Rattle.fork_proof.specs.Found.{tip_seen}
use Rattle.fork_proof.proofs.Names.{AreNamesTo}
use Rattle.fork_proof.proofs.walked.names_down.Given as goal

abbrev pub invariant-records : goal.invariant-records
invariant-records l = record {
  size : length l.names.items ≡ l.above + 1;
  at : slice_get l.names.items l.above ≡ Some l.last;
  known : AreNamesTo l.blocks (tip_seen l.tip) l.names.items l.above;
}
