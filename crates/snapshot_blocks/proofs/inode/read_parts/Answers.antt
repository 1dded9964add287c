use Rattle.wire_model.proofs.Dependent.{on_err}
use Rattle.snapshot_blocks.proofs.InodeReading.{inode_front, no_magic, no_number, no_kind, no_attributes, no_size, no_target, no_items}
use Rattle.snapshot_blocks.proofs.inode.read_parts.Goals as goal

pub returns-in_err-read_constant-clause-err : goal.returns-in_err-read_constant-clause-err
returns-in_err-read_constant-clause-err c = on_err c.from_residual.result (no_magic c.in_err-read_constant.ensures.err)

pub returns-in_err-number-clause-err : goal.returns-in_err-number-clause-err
returns-in_err-number-clause-err c = on_err c.from_residual-in_err-number.result (no_number c.in_ok-read_constant.ensures.ok c.in_err-number.ensures.err)

pub returns-in_err-kind-clause-err : goal.returns-in_err-kind-clause-err
returns-in_err-kind-clause-err c = on_err c.from_residual-in_err-kind.result (no_kind c.in_ok-read_constant.ensures.ok c.in_ok-number.ensures.ok c.in_err-kind.ensures.err)

pub returns-in_err-attributes-clause-err : goal.returns-in_err-attributes-clause-err
returns-in_err-attributes-clause-err c =
    on_err c.from_residual-in_err-attributes.result (no_attributes c.in_ok-read_constant.ensures.ok c.in_ok-number.ensures.ok c.in_ok-kind.ensures.ok c.in_err-attributes.ensures.err)

pub returns-in_err-size-clause-err : goal.returns-in_err-size-clause-err
returns-in_err-size-clause-err c =
    on_err c.from_residual-in_err-size.result (no_size c.in_ok-read_constant.ensures.ok c.in_ok-number.ensures.ok c.in_ok-kind.ensures.ok c.in_ok-attributes.ensures.ok c.in_err-size.ensures.err)

pub returns-in_err-target-clause-err : goal.returns-in_err-target-clause-err
returns-in_err-target-clause-err c =
    on_err c.from_residual-in_err-target.result
    (no_target c.in_ok-read_constant.ensures.ok c.in_ok-number.ensures.ok c.in_ok-kind.ensures.ok c.in_ok-attributes.ensures.ok c.in_ok-size.ensures.ok c.in_err-target.ensures.none)

pub returns-in_err-items-clause-err : goal.returns-in_err-items-clause-err
returns-in_err-items-clause-err c =
    on_err c.from_residual-in_err-items.result
    (no_items c.in_ok-read_constant.ensures.ok c.in_ok-number.ensures.ok c.in_ok-kind.ensures.ok c.in_ok-attributes.ensures.ok c.in_ok-size.ensures.ok c.in_ok-target.ensures.ok c.in_err-items.ensures.err)

pub returns-clause-ok : goal.returns-clause-ok
returns-clause-ok c =
    inode_front c.in_ok-read_constant.ensures.ok c.in_ok-number.ensures.ok c.in_ok-kind.ensures.ok c.in_ok-attributes.ensures.ok c.in_ok-size.ensures.ok c.in_ok-target.ensures.ok c.in_ok-items.ensures.ok
