use Rattle.rpc_wire.specs.Callers.{identity_of}
use Rattle.nfs3_objects.specs.Seen.{seen}
use Rattle.nfs3_writes.specs.Checks.{place_checks, file_made_rest}
use Rattle.nfs3_writes.proofs.Passing.{in_turn}
use Rattle.nfs3_writes.proofs.creating.file_fault.Goals as goal

pub returns : goal.returns
returns c = in_turn (place_checks (identity_of c.args.caller.now) (seen c.args.dir.now) c.args.name.now) (file_made_rest c.args.tree.now (identity_of c.args.caller.now) c.args.name.now c.args.existing c.args.guarded c.args.what.now) c.or.ensures c.place_fault.ensures c.file_rest.ensures
