use Rattle.std.proofs.Common.{◌≡◌, ◌++◌, drop}
use Rattle.std.specs.List.{flat_map}
use Rattle.ivy_cli.specs.Summary.{status_line}
use Rattle.ivy_cli.proofs.summing.put_statuses.Given as goal

-- what stands there, and the lines of the statuses that are left, are all
abbrev pub invariant-occurred : goal.invariant-occurred
invariant-occurred l = l.summary.items ++ flat_map (status_line l.all) (drop l.status-index l.status-items) ≡ l.initial.summary.items ++ flat_map (status_line l.all) l.status-items
