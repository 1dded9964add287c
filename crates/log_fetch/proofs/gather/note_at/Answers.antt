use Rattle.std.proofs.Common.{[]}
use Rattle.log_fetch.proofs.Taking.{block_noted}
use Rattle.log_fetch.proofs.gather.note_at.Goals as goal

pub returns-in-Log : goal.returns-in-Log
returns-in-Log c =
    block_noted c.args.known.now c.args.passed.now c.args.stage.now c.in-Log.trial c.in-Log.is c.requires c.members.result.now (record { 0 = [] }) c.members.ensures.value c.fault.result c.fault.ensures c.note.new.notes c.note.result c.note.ensures
