use Rattle.std.proofs.Common.{◌≡◌, false, sym, ◌∙◌}
use Rattle.rpc_wire.specs.Callers.{identity_of}
use Rattle.tree_model.specs.Tree.{directory_kind}
use Rattle.nfs3_objects.specs.Seen.{seen}
use Rattle.nfs3_writes.specs.Checks.{place_checks, link_rest}
use Rattle.nfs3_writes.proofs.Passing.{in_turn}
use Rattle.nfs3_writes.proofs.naming.link_fault.Goals as goal

pub returns : goal.returns
returns c =
    let no_directory : directory_kind c.args.file.now.content.now.inode.kind ≡ false = sym c.is_directory.ensures ∙ c.if-is_directory.false in
    rw no_directory
    (in_turn (place_checks (identity_of c.args.caller.now) (seen c.args.dir.now) c.args.name.now)
    (link_rest c.args.tree.now (seen c.args.file.now) (seen c.args.dir.now) c.args.name.now)
    c.or.ensures c.place_fault.ensures c.link_rest.ensures)
