use Rattle.nfs3_writes.proofs.Emptiness.{none_listed}
use Rattle.nfs3_writes.proofs.checks.is_empty_under.Goals as goal

pub returns-in-Some : goal.returns-in-Some
returns-in-Some c = rw (c.in-Some.is, c.entries.ensures, c.names.ensures) (none_listed c.args.tree.now c.in-Some.number)
