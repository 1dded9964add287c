use Rattle.wire_model.proofs.Dependent.{on_err}
use Rattle.snapshot_blocks.proofs.ListReading.{no_magic}
use Rattle.snapshot_blocks.proofs.list.read_tag.Goals as goal

pub returns-in_err-read_constant-clause-err : goal.returns-in_err-read_constant-clause-err
returns-in_err-read_constant-clause-err c = on_err c.from_residual.result (no_magic c.args.level c.in_err-read_constant.ensures.err)
