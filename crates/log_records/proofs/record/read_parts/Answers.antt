use Rattle.log_records.proofs.OneRecord.{no_frame, no_operation}
use Rattle.log_records.proofs.record.read_parts.Goals as goal

pub returns-in-Err-clause-err : goal.returns-in-Err-clause-err
returns-in-Err-clause-err c = no_frame c.args.log.now c.args.bytes.now _ c.in-Err.ensures.err

pub returns-in-Err-read_operation-clause-err : goal.returns-in-Err-read_operation-clause-err
returns-in-Err-read_operation-clause-err c = no_operation c.args.log.now c.args.bytes.now _ _ c.in-Ok.ensures.ok _ c.in-Err-read_operation.ensures.err
