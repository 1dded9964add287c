use Rattle.std.proofs.Common.{◌≡◌}
use Rattle.nfs3_reads.specs.Measures.{length_by}
use Rattle.nfs3_reads.specs.Places.{places}
use Rattle.nfs3_reads.proofs.Runs.{FitsBefore}
use Rattle.nfs3_reads.proofs.cuts.how_many.Given as goal

abbrev pub invariant-loop-name : goal.invariant-loop-name
invariant-loop-name l = record {
  counted : l.count ≡ l.name-index;
  fits : FitsBefore (length_by l.measure) l.room (places l.entries) l.name-index l.left;
}
