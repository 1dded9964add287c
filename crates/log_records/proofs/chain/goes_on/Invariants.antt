use Rattle.std.proofs.Common.{◌≤◌, ◌-◌, take}
use Rattle.log_model.specs.Record.{Record}
use Rattle.log_model.specs.Spelling.{HasSpelling}
use Rattle.log_records.specs.Records.{records_of}
use Rattle.log_records.specs.Walks.{GoesOnInside}
use Rattle.log_records.proofs.Walks.{HasAt}
use Rattle.log_records.proofs.chain.goes_on.Given as goal

abbrev pub invariant-loop-i : goal.invariant-loop-i
invariant-loop-i l = record {
  low : 1 ≤ l.i;
  goes : GoesOnInside l.view (take l.i (records_of l.chain));
  spelled : (x : Record) → HasAt (records_of l.chain) (l.i - 1) x → HasSpelling x;
}
