use Rattle.ivy_session.proofs.Readings.{garbled, read_well}
use Rattle.ivy_session.proofs.reading.read_admitted.Goals as goal

pub returns-in-Ok : goal.returns-in-Ok
returns-in-Ok c = λ message good.
    read_well c.args.view.now message c.args.call.now good c.args.caller c.requires c.in-Ok.args c.in-Ok.ensures.ok c.read_asked.result c.read_asked.ensures

pub returns-in-Err-Garbage : goal.returns-in-Err-Garbage
returns-in-Err-Garbage c = λ message good.
    garbled c.args.view.now message c.args.call.now good c.args.caller c.requires (rw c.in-Err-Garbage.field-0-is at c.in-Err-Garbage.ensures.err) c.refused.result c.refused.ensures
