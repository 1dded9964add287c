use Rattle.view_refresh.proofs.Starting.{first_fetches, first_loads}
use Rattle.view_refresh.proofs.refresh.first_state.Goals as goal

pub returns-in-Some-clause-free : goal.returns-in-Some-clause-free
returns-in-Some-clause-free g c =
    first_loads g.J.Judge.judges c.args.judge c.args.replicas c.args.entries.now c.args.standing c.args.root c.in-Some.root c.in-Some.is c.load_first.result c.load_first.ensures

pub returns-in-None-clause-free : goal.returns-in-None-clause-free
returns-in-None-clause-free g c =
    first_fetches g.J.Judge.judges c.args.judge c.args.replicas c.args.entries.now c.args.standing c.args.root c.in-None.is c.fetch_from.result c.fetch_from.ensures.free
