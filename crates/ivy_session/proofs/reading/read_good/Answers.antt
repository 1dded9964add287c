use Rattle.ivy_session.proofs.Readings.{refused}
use Rattle.ivy_session.proofs.reading.read_good.Goals as goal

pub returns-in-Err : goal.returns-in-Err
returns-in-Err c = λ message good.
    refused c.args.view.now message c.args.call.now good c.in-Err.head c.in-Err.ensures c.refused.result c.refused.ensures
