use Rattle.view_refresh.proofs.Giving.{load_gives_copy}
use Rattle.view_refresh.proofs.refresh.ViewRefresh.give_load.Goals as goal

pub returns : goal.returns
returns g c = load_gives_copy g.J.Judge.judges c.args.self.now c.args.loading c.args.bytes.now c.in_ok-bytes.bytes c.in_ok-bytes.ensures c.requires.wants c.loads_on.result c.loads_on.ensures
