use Rattle.std.proofs.Common.{take}
use Rattle.std.specs.List.{All}
use Rattle.tree_trials.proofs.NewRecords.{IsNew}
use Rattle.tree_trials.proofs.engine.taking.each_is_new.Given as goal

abbrev pub invariant-more : goal.invariant-more
invariant-more l = All (IsNew l.held) (take l.record-index l.more)
