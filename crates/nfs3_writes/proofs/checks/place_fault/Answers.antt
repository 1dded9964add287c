use Rattle.rpc_wire.specs.Callers.{identity_of}
use Rattle.nfs_model.specs.Changing.{directory_checks, name_checks}
use Rattle.nfs3_objects.specs.Seen.{seen}
use Rattle.nfs3_writes.proofs.Passing.{in_turn}
use Rattle.nfs3_writes.proofs.checks.place_fault.Goals as goal

pub returns : goal.returns
returns c = in_turn (directory_checks (identity_of c.args.caller.now) (seen c.args.dir.now)) (name_checks c.args.name.now) c.or.ensures c.directory_fault.ensures c.name_fault.ensures
