use Rattle.rpc_wire.specs.Callers.{identity_of}
use Rattle.nfs3_objects.specs.Seen.{seen}
use Rattle.nfs3_writes.specs.Checks.{place_checks, remove_directory_rest}
use Rattle.nfs3_writes.proofs.Passing.{in_turn}
use Rattle.nfs3_writes.proofs.naming.remove_directory_fault.Goals as goal

pub returns : goal.returns
returns c = in_turn (place_checks (identity_of c.args.caller.now) (seen c.args.dir.now) c.args.name.now) (remove_directory_rest c.args.tree.now c.args.name.now c.args.target) c.or.ensures c.place_fault.ensures c.remove_directory_rest.ensures
