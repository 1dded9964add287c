use Rattle.wire_model.proofs.Dependent.{on_err}
use Rattle.snapshot_blocks.proofs.PartReading.{attributes_front, no_mode, no_uid, no_gid, no_atime, no_mtime, no_ctime}
use Rattle.snapshot_blocks.proofs.attributes.read_attributes.Goals as goal

pub returns-in_err-mode-clause-err : goal.returns-in_err-mode-clause-err
returns-in_err-mode-clause-err c = on_err c.from_residual.result (no_mode c.in_err-mode.ensures.err)

pub returns-in_err-uid-clause-err : goal.returns-in_err-uid-clause-err
returns-in_err-uid-clause-err c = on_err c.from_residual-in_err-uid.result (no_uid c.in_ok-mode.ensures.ok c.in_err-uid.ensures.none)

pub returns-in_err-gid-clause-err : goal.returns-in_err-gid-clause-err
returns-in_err-gid-clause-err c = on_err c.from_residual-in_err-gid.result (no_gid c.in_ok-mode.ensures.ok c.in_ok-uid.ensures.ok c.in_err-gid.ensures.none)

pub returns-in_err-atime-clause-err : goal.returns-in_err-atime-clause-err
returns-in_err-atime-clause-err c = on_err c.from_residual-in_err-atime.result (no_atime c.in_ok-mode.ensures.ok c.in_ok-uid.ensures.ok c.in_ok-gid.ensures.ok c.in_err-atime.ensures.err)

pub returns-in_err-mtime-clause-err : goal.returns-in_err-mtime-clause-err
returns-in_err-mtime-clause-err c = on_err c.from_residual-in_err-mtime.result (no_mtime c.in_ok-mode.ensures.ok c.in_ok-uid.ensures.ok c.in_ok-gid.ensures.ok c.in_ok-atime.ensures.ok c.in_err-mtime.ensures.err)

pub returns-in_err-ctime-clause-err : goal.returns-in_err-ctime-clause-err
returns-in_err-ctime-clause-err c =
    on_err c.from_residual-in_err-ctime.result (no_ctime c.in_ok-mode.ensures.ok c.in_ok-uid.ensures.ok c.in_ok-gid.ensures.ok c.in_ok-atime.ensures.ok c.in_ok-mtime.ensures.ok c.in_err-ctime.ensures.err)

pub returns-clause-ok : goal.returns-clause-ok
returns-clause-ok c = attributes_front c.in_ok-mode.ensures.ok c.in_ok-uid.ensures.ok c.in_ok-gid.ensures.ok c.in_ok-atime.ensures.ok c.in_ok-mtime.ensures.ok c.in_ok-ctime.ensures.ok
