use Rattle.std.proofs.Common.{subst}
use Rattle.log_records.specs.Records.{ReadFault}
use Rattle.log_records.specs.declared.fault.RecordFault.{RecordFault}
use Rattle.log_fetch.proofs.Places.{misnumbered, garbled}
use Rattle.log_fetch.proofs.reading.read.Goals as goal

pub returns-in-BadNumber : goal.returns-in-BadNumber
returns-in-BadNumber c =
    misnumbered c.args.owner.now c.args.bytes.now c.name_before.result (subst (λ (f : RecordFault). ReadFault c.args.owner.now c.args.bytes.now f) c.in-BadNumber.is c.in-Err.ensures.err) c.name_before.ensures

pub returns-in_default : goal.returns-in_default
returns-in_default c = garbled c.args.owner.now c.args.bytes.now c.in-Err.fault c.in_default.not-Memory c.in_default.not-BadNumber c.in-Err.ensures.err
