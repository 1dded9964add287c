use Rattle.std.proofs.Common.{◌≡◌, drop}
use Rattle.nfs_model.specs.Checks.{first_failure}
use Rattle.nfs3_writes.proofs.checks.first_failure.Given as goal

-- none of the checks so far fails
abbrev pub invariant-checks : goal.invariant-checks
invariant-checks l = first_failure (drop l.fails-index l.checks) ≡ first_failure l.checks
