use Rattle.std.proofs.Common.{take}
use Rattle.std.specs.List.{All}
use Rattle.tree_trials.proofs.NewRecords.{IsOther}
use Rattle.tree_trials.proofs.engine.taking.is_new.Given as goal

abbrev pub invariant-held : goal.invariant-held
invariant-held l = All (IsOther l.record) (take l.other-index l.held)
