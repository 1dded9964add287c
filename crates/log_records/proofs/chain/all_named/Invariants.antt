use Rattle.std.proofs.Common.{◌≡◌, true, take}
use Rattle.std.specs.List.{list_all}
use Rattle.log_model.specs.View.{is_named}
use Rattle.log_records.proofs.chain.all_named.Given as goal

-- the view names the logs of the entries so far
abbrev pub invariant-loop-entry : goal.invariant-loop-entry
invariant-loop-entry l = list_all (λ e. is_named l.view e.log) (take l.entry-index l.entries) ≡ true
