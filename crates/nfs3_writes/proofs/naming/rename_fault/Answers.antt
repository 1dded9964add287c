use Rattle.std.proofs.Common.{◌++◌}
use Rattle.rpc_wire.specs.Callers.{identity_of}
use Rattle.nfs_model.specs.Changing.{name_checks}
use Rattle.nfs3_objects.specs.Seen.{seen}
use Rattle.nfs3_writes.specs.Checks.{both_directories_checks, rename_rest}
use Rattle.nfs3_writes.proofs.Passing.{in_turn}
use Rattle.nfs3_writes.proofs.naming.rename_fault.Goals as goal

pub returns : goal.returns
returns c =
    let directories = both_directories_checks (identity_of c.args.caller.now) (seen c.args.dir.now) (seen c.args.to_dir.now) in
    let name = name_checks c.args.name.now in
    let to_name = name_checks c.args.to_name.now in
    in_turn (directories ++ name ++ to_name) (rename_rest c.args.name.now c.args.to_name.now c.args.moved) c.or-3.ensures
    (in_turn (directories ++ name) to_name c.or-2.ensures (in_turn directories name c.or.ensures c.both_directories_fault.ensures c.name_fault.ensures) c.name_fault-2.ensures)
    c.rename_rest.ensures
