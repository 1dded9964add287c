use Rattle.std.proofs.Common.{◌≡◌, ◌≤◌, ◌-◌, vec_len}
use Rattle.ivy_io.specs.Known.{onto}
use Rattle.ivy_cli.specs.ProofLines.{most_read}
use Rattle.ivy_cli.proofs.proof_line.read_input.Given as goal

abbrev pub invariant-input : goal.invariant-input
invariant-input g l = record {
  few : vec_len l.input ≤ most_read;
  taken : g.Q.Source.left l.initial.source ≡ onto l.input.items (g.Q.Source.left l.source);
  later : g.Q.Source.faults l.initial.source ≤ g.Q.Source.faults l.source;
}

abbrev pub decreases-input : goal.decreases-input
decreases-input g l = most_read - vec_len l.input
