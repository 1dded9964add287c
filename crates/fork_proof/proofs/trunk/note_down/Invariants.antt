use Rattle.fork_proof.specs.Trunks.{Keeps}
use Rattle.fork_proof.proofs.TrunkLemmas.{LeadsTo, IsAt}
use Rattle.fork_proof.proofs.trunk.note_down.Given as goal

abbrev pub invariant-records : goal.invariant-records
invariant-records l = record {
  at : IsAt l.blocks l.tip l.above l.last;
  known : LeadsTo l.blocks l.trunk l.tip l.above;
  keeps : Keeps l.initial.trunk l.trunk;
}
