use Rattle.log_records.specs.Records.{records_of}
use Rattle.replay_engine.specs.Rows.{IsRow}
use Rattle.tree_trials.proofs.engine.trial.Trial.late_ones.Given as goal

abbrev pub invariant-places : goal.invariant-places
invariant-places l = IsRow (records_of l.row.items)
