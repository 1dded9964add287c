use Rattle.ivy_session.proofs.Readings.{nothing_called, other_called}
use Rattle.ivy_session.proofs.reading.read_message.Goals as goal

pub returns-in-NotACall : goal.returns-in-NotACall
returns-in-NotACall c = nothing_called c.args.view.now c.args.message.now c.in-NotACall.ensures.heading

pub returns-in-Mismatch : goal.returns-in-Mismatch
returns-in-Mismatch c =
    other_called c.args.view.now c.args.message.now c.in-Mismatch.xid c.in-Mismatch.ensures.heading c.refused.result c.refused.ensures
